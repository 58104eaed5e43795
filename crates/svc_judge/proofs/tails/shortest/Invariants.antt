use Rattle.std.proofs.Common.{◌≡◌, ◌-◌}
use Rattle.std.specs.List.{find, range_with_len}
use Rattle.svc_judge.specs.Tails.{is_right_before}
use Rattle.svc_judge.proofs.tails.shortest.Given as goal

abbrev pub invariant-loop-count : goal.invariant-loop-count
invariant-loop-count l =
    find (is_right_before l.plan l.entries) (range_with_len 0 l.most) ≡ find (is_right_before l.plan l.entries) (range_with_len l.count (l.most - l.count))
