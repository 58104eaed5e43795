use Rattle.std.proofs.Common.{◌≡◌, length}
use Rattle.svc_record.specs.Connections.{is_full_at}
use Rattle.svc_judge.proofs.looking.is_full_at.Given as goal

abbrev pub invariant-entries : goal.invariant-entries
invariant-entries l = is_full_at l.entries l.service l.endpoint ≡ is_full_at l.rest l.service l.endpoint

abbrev pub decreases-entries : goal.decreases-entries
decreases-entries l = length l.rest
