use Rattle.std.proofs.Common.{◌≡◌, length}
use Rattle.std.specs.List.{list_all}
use Rattle.svc_record.specs.Connections.{arrivals}
use Rattle.svc_judge.specs.ConnectionSteps.{is_kept}
use Rattle.svc_judge.specs.Pasts.{plan_of, record_of}
use Rattle.svc_judge.proofs.alone.are_right_in.Given as goal

abbrev pub invariant-entries : goal.invariant-entries
invariant-entries l =
    list_all (is_kept (plan_of l.past) (record_of l.past)) (arrivals (record_of l.past))
    ≡ list_all (is_kept (plan_of l.past) (record_of l.past)) (arrivals l.rest)

abbrev pub decreases-entries : goal.decreases-entries
decreases-entries l = length l.rest
