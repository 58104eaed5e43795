use Rattle.std.proofs.Common.{◌≡◌, length}
use Rattle.svc_record.specs.Right.{is_quiet}
use Rattle.svc_record.specs.Record.{last_step}
use Rattle.svc_judge.proofs.settled.is_quiet.Given as goal

abbrev pub invariant-entries : goal.invariant-entries
invariant-entries l = is_quiet (last_step l.entries) ≡ is_quiet (last_step l.rest)

abbrev pub decreases-entries : goal.decreases-entries
decreases-entries l = length l.rest
