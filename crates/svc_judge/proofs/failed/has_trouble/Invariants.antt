use Rattle.std.proofs.Common.{◌≡◌, length}
use Rattle.svc_record.specs.Record.{has}
use Rattle.svc_judge.specs.Steps.{is_trouble}
use Rattle.svc_judge.proofs.failed.has_trouble.Given as goal

abbrev pub invariant-entries : goal.invariant-entries
invariant-entries l = has (is_trouble l.s) l.entries ≡ has (is_trouble l.s) l.rest

abbrev pub decreases-entries : goal.decreases-entries
decreases-entries l = length l.rest
