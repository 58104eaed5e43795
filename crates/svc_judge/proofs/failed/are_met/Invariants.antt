use Rattle.std.proofs.Common.{◌≡◌, length}
use Rattle.std.specs.List.{list_all}
use Rattle.svc_judge.specs.Pasts.{plan_of, record_of}
use Rattle.svc_judge.specs.Steps.{is_met}
use Rattle.svc_judge.proofs.failed.are_met.Given as goal

abbrev pub invariant-services : goal.invariant-services
invariant-services l =
    list_all (is_met (plan_of l.past) (record_of l.past)) l.numbers ≡ list_all (is_met (plan_of l.past) (record_of l.past)) l.rest

abbrev pub decreases-services : goal.decreases-services
decreases-services l = length l.rest
