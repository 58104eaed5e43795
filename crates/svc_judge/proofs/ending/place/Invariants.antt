use Rattle.std.proofs.Common.{◌≡◌, ◌+◌, ◌≤◌, nat_lt, length}
use Rattle.std.specs.List.{position_or_len}
use Rattle.svc_judge.proofs.ending.place.Given as goal

abbrev pub invariant-numbers : goal.invariant-numbers
invariant-numbers l =
    (position_or_len (λ m. nat_lt l.number m) l.numbers ≡ l.at + position_or_len (λ m. nat_lt l.number m) l.rest)
    × (l.at + length l.rest ≤ length l.numbers)

abbrev pub decreases-numbers : goal.decreases-numbers
decreases-numbers l = length l.rest
