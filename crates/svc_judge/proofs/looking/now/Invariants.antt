use Rattle.std.proofs.Common.{◌≡◌, length}
use Rattle.svc_record.specs.Record.{now}
use Rattle.svc_judge.proofs.looking.now.Given as goal

abbrev pub invariant-entries : goal.invariant-entries
invariant-entries l = now l.entries ≡ now l.rest

abbrev pub decreases-entries : goal.decreases-entries
decreases-entries l = length l.rest
