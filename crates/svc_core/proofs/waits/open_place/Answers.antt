use Rattle.std.proofs.Common.{ℕ, List, inl, inr, length, slice_index, ◌&&◌, ◌==◌, ◌≡◌, ◌<◌, ◌∙◌, sym, arith}
use Rattle.std.proofs.lemmas.Bool.{cases_eq, cases_lt, eq-eqb, or_right}
use Rattle.svc_graph.specs.Bits.{is_set}
use Rattle.svc_core.specs.WaitsState.{AreApart}
use Rattle.svc_core.proofs.waits.open_place.Goals as goal

-- a service has one place
one_place : (order : List ℕ) (j k : ℕ) → AreApart order → j < length order → k < length order → slice_index order j ≡ slice_index order k → j ≡ k
one_place order j k apart inside within same = elim (cases_eq j k) [
  | inl e ↦ e
  | inr ne ↦ elim (cases_lt j k) [
    | inl lt ↦ absurd (apart j k lt within same)
    | inr ge ↦ absurd (apart k j (omega arith) inside (sym same))
  ]
]

pub returns-in-Some-clause-opened : goal.returns-in-Some-clause-opened
returns-in-Some-clause-opened c = λ j inside same.
    let found = c.in-Some.ensures.found in
    let here = one_place c.args.order.now j c.in-Some.k c.requires.order.apart inside found.0 (same ∙ sym found.1) in
    c.set.ensures.bits 0 j
    ∙ or_right (is_set c.args.bits.now 0 j) (0 == 0 && j == c.in-Some.k) (eq-eqb j c.in-Some.k here)
