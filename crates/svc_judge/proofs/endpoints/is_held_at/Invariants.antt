use Rattle.std.proofs.Common.{◌≡◌, length}
use Rattle.svc_record.specs.Endpoints.{is_held}
use Rattle.svc_judge.specs.Pasts.{plan_of, record_of, IsRestOf}
use Rattle.svc_judge.proofs.endpoints.is_held_at.Given as goal

abbrev pub invariant-entries : goal.invariant-entries
invariant-entries l = IsRestOf l.past l.rest × (is_held (plan_of l.past) (record_of l.past) l.s l.i ≡ is_held (plan_of l.past) (record_of l.rest) l.s l.i)

abbrev pub decreases-entries : goal.decreases-entries
decreases-entries l = length (record_of l.rest)
