use Rattle.std.proofs.Common.{◌≡◌, length}
use Rattle.std.specs.List.{list_all}
use Rattle.svc_judge.specs.Chains.{touched_numbers, is_number_right}
use Rattle.svc_judge.specs.Pasts.{plan_of, record_of}
use Rattle.svc_judge.proofs.alone.are_touched_right.Given as goal

abbrev pub invariant-entries : goal.invariant-entries
invariant-entries l =
    list_all (is_number_right (plan_of l.past) (record_of l.past)) (touched_numbers (record_of l.past))
    ≡ list_all (is_number_right (plan_of l.past) (record_of l.past)) (touched_numbers l.rest)

abbrev pub decreases-entries : goal.decreases-entries
decreases-entries l = length l.rest
