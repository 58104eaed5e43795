use Rattle.std.proofs.Common.{◌≡◌, length}
use Rattle.std.specs.List.{list_all}
use Rattle.svc_record.specs.Ends.{before_boot}
use Rattle.svc_judge.specs.Settled.{are_held}
use Rattle.svc_judge.specs.Settled.{all_visited_held}
use Rattle.svc_judge.specs.Pasts.{plan_of, record_of}
use Rattle.svc_judge.proofs.settled.all_visited_held.Given as goal

abbrev pub invariant-services : goal.invariant-services
invariant-services l =
    all_visited_held (plan_of l.past) (record_of l.past)
    ≡ list_all (are_held (plan_of l.past) (record_of l.past)) (before_boot (plan_of l.past) (record_of l.past) l.rest)

abbrev pub decreases-services : goal.decreases-services
decreases-services l = length l.rest
