use Rattle.std.proofs.Common.{◌≡◌, length}
use Rattle.std.specs.List.{list_all}
use Rattle.svc_record.specs.Connections.{arrivals}
use Rattle.svc_judge.specs.Chains.{is_numbered_right}
use Rattle.svc_judge.specs.Pasts.{plan_of, record_of}
use Rattle.svc_judge.proofs.alone.are_numbered_right.Given as goal

abbrev pub invariant-entries : goal.invariant-entries
invariant-entries l =
    list_all (is_numbered_right (plan_of l.past) (record_of l.past) l.c) (arrivals (record_of l.past))
    ≡ list_all (is_numbered_right (plan_of l.past) (record_of l.past) l.c) (arrivals l.rest)

abbrev pub decreases-entries : goal.decreases-entries
decreases-entries l = length l.rest
