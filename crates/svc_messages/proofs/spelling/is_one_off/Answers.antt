use Rattle.std.proofs.Common.{arith, refl}
use Rattle.std.proofs.lemmas.Bool.{ltb-false, eqb-true, eq-eqb}
use Rattle.svc_messages.proofs.SpellingLemmas.{left_ends, other_letter, left_longer, right_longer, swapped_alone, same_letters, other_letters}
use Rattle.svc_messages.proofs.spelling.is_one_off.Goals as goal

pub returns-in-empty-default : goal.returns-in-empty-default
returns-in-empty-default c =
    let ends = left_ends c.args.a.now c.args.b.now c.behind_shared.result.0.now c.behind_shared.result.1.now c.behind_shared.ensures (omega arith) in
    (λ e. ends.0 (eqb-true _ _ e), λ h. eq-eqb _ _ (ends.1 h))

pub returns-in-len1-up-len1-up : goal.returns-in-len1-up-len1-up
returns-in-len1-up-len1-up c = (
  λ _. other_letter c.args.a.now c.args.b.now c.behind_shared.result.0.now c.behind_shared.result.1.now c.behind_shared.ensures
      (omega (arith, ltb-false)) (omega (arith, ltb-false)) (same_letters _ _ c.if-eq.ensures),
  λ _. refl,
)

pub returns-in-len1-up-default : goal.returns-in-len1-up-default
returns-in-len1-up-default c = (
  λ _. left_longer c.args.a.now c.args.b.now c.behind_shared.result.0.now c.behind_shared.result.1.now c.behind_shared.ensures
      (omega (arith, ltb-false)) (same_letters _ _ c.if-eq-2.ensures),
  λ _. refl,
)

pub returns-in_default-len1-up : goal.returns-in_default-len1-up
returns-in_default-len1-up c = (
  λ _. right_longer c.args.a.now c.args.b.now c.behind_shared.result.0.now c.behind_shared.result.1.now c.behind_shared.ensures
      (omega (arith, ltb-false)) (same_letters _ _ c.if-eq-3.ensures),
  λ _. refl,
)

pub returns-in_default : goal.returns-in_default
returns-in_default c =
    let alone = swapped_alone c.args.a.now c.args.b.now c.behind_shared.result.0.now c.behind_shared.result.1.now c.behind_shared.ensures
    (omega (arith, ltb-false)) (omega (arith, ltb-false)) (other_letters _ _ c.if-eq.ensures) (other_letters _ _ c.if-eq-2.ensures)
    (other_letters _ _ c.if-eq-3.ensures) in
    (λ e. alone.0 (c.is_swapped.ensures.0 e), λ h. c.is_swapped.ensures.1 (alone.1 h))
