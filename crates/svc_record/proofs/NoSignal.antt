-- A run whose events end before a signal: its record is right, and isn't that of a run that served; what is open is closed.
use Rattle.std.proofs.Common.{true, false, [], ◌∷◌, Some, None, ◌≡◌, refl}
use Rattle.svc_record.specs.declared.event.Event.TheVariants.{Bound}
use Rattle.svc_record.specs.declared.action.Action.TheVariants.{Start, Close}
use Rattle.svc_record.specs.declared.action.StepEnd.TheVariants.{On}
use Rattle.svc_record.specs.Ends.{step_end}
use Rattle.svc_record.specs.Right.{Right, is_served}
use Rattle.svc_record.specs.Tail.{closing_actions, tail_right}
use Rattle.svc_record.proofs.Sound.{right_from_test}
use Rattle.svc_record.proofs.TwoServices.{plan, bound, run}
use Rattle.svc_record.proofs.Variants.{shortened, doubled, swapped, right_ones}

right : Right plan bound
right = right_from_test plan bound refl

goes_on : step_end plan bound ≡ On
goes_on = refl

not_served : is_served plan bound ≡ false
not_served = refl

shortened-right : right_ones plan (shortened bound) ≡ true ∷ false ∷ false ∷ false ∷ false ∷ false ∷ []
shortened-right = refl

doubled-right : right_ones plan (doubled bound) ≡ false ∷ false ∷ false ∷ false ∷ false ∷ false ∷ []
doubled-right = refl

swapped-right : right_ones plan (swapped bound) ≡ false ∷ false ∷ false ∷ false ∷ true ∷ []
swapped-right = refl

open_closes : closing_actions plan bound None ≡ Close 7 ∷ []
open_closes = refl

closed : tail_right bound None (Close 7 ∷ []) ≡ true
closed = refl

closed_twice : tail_right bound None (Close 7 ∷ Close 7 ∷ []) ≡ false
closed_twice = refl

left_open : tail_right bound None [] ≡ false
left_open = refl

never_opened : tail_right bound None (Close 7 ∷ Close 8 ∷ []) ≡ false
never_opened = refl

more_than_closes : tail_right bound None (Start 0 ∷ Close 7 ∷ []) ≡ false
more_than_closes = refl

-- a number that a stray event brings is closed too
stray_number : closing_actions plan bound (Some (Bound 1 0 3)) ≡ Close 7 ∷ Close 3 ∷ []
stray_number = refl

stray_number-tail : tail_right bound (Some (Bound 1 0 3)) (Close 7 ∷ Close 3 ∷ []) ≡ true
stray_number-tail = refl

stray_number_left_open : tail_right bound (Some (Bound 1 0 3)) (Close 7 ∷ []) ≡ false
stray_number_left_open = refl

-- one that came before is closed once
known_number : closing_actions plan bound (Some (Bound 1 0 7)) ≡ Close 7 ∷ []
known_number = refl

known_number-tail : tail_right bound (Some (Bound 1 0 7)) (Close 7 ∷ []) ≡ true
known_number-tail = refl

-- and one that is closed already, not again
closed_number : closing_actions plan run (Some (Bound 1 0 7)) ≡ []
closed_number = refl

closed_number-tail : tail_right run (Some (Bound 1 0 7)) [] ≡ true
closed_number-tail = refl
