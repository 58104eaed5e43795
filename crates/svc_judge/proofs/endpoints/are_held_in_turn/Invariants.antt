use Rattle.std.proofs.Common.{length}
use Rattle.svc_judge.specs.Pasts.{plan_of, record_of, IsRestOf}
use Rattle.svc_judge.proofs.EndpointLemmas.{AreHeld}
use Rattle.svc_judge.proofs.endpoints.are_held_in_turn.Given as goal

abbrev pub invariant-entries : goal.invariant-entries
invariant-entries l = IsRestOf l.past l.rest
    × (AreHeld (plan_of l.past) (record_of l.rest) l.s l.left → AreHeld (plan_of l.past) (record_of l.past) l.s l.count)

abbrev pub decreases-entries : goal.decreases-entries
decreases-entries l = length (record_of l.rest)
