use Rattle.std.proofs.Common.{◌≡◌, length}
use Rattle.svc_record.specs.Record.{has}
use Rattle.svc_judge.specs.Still.{is_last_in_use}
use Rattle.svc_judge.proofs.still.has_in_use.Given as goal

abbrev pub invariant-entries : goal.invariant-entries
invariant-entries l = has (is_last_in_use l.entries) l.entries ≡ has (is_last_in_use l.entries) l.rest

abbrev pub decreases-entries : goal.decreases-entries
decreases-entries l = length l.rest
