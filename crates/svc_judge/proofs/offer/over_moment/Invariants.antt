use Rattle.std.proofs.Common.{◌≡◌, length}
use Rattle.svc_record.specs.Offer.{is_over, over_moment}
use Rattle.svc_judge.specs.Pasts.{plan_of, record_of, IsRestOf}
use Rattle.svc_judge.proofs.offer.over_moment.Given as goal

abbrev pub invariant-entries : goal.invariant-entries
invariant-entries l =
    IsRestOf l.past l.rest
    × (l.over ≡ is_over (plan_of l.past) (record_of l.rest))
    × (over_moment (plan_of l.past) (record_of l.past) ≡ over_moment (plan_of l.past) (record_of l.rest))

abbrev pub decreases-entries : goal.decreases-entries
decreases-entries l = length (record_of l.rest)
