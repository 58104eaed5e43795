-- Counts of missing dependencies that are lowered, and the nodes that are ready by it.
use Rattle.std.proofs.Common.{ℕ, Bool, true, false, ◌&&◌, ◌||◌, ◌==◌, inl, inr, List, ◌≡◌, ◌≢◌, sym, ◌∙◌, ap, subst, arith, ◌<◌, ◌≤◌, ◌+◌, ◌-◌, cond, length, slice_index_or, slice_set, nat_lt}
use Rattle.std.proofs.lemmas.Bool.{cases_eq, cases_lt, eq-eqb, ne_eqb, lt-ltb, le-ltb, and_left, and_right, and_from, or_right}
use Rattle.std.proofs.lemmas.List.{get_or-set_other, get_or-set_same}
use Rattle.svc_graph.specs.Bits.{is_set}
use Rattle.svc_graph.proofs.Counts.{one_at, none_at}
use Rattle.svc_graph.proofs.Bounds.{or_false, next_lt}

bit_here : (a k : ℕ) → a ≡ k → (0 == 0 && a == k) ≡ true
bit_here a k e = eq-eqb a k e

bit_other : (a k : ℕ) → a ≢ k → (0 == 0 && a == k) ≡ false
bit_other a k ne = ne_eqb a k ne

-- the nodes of which nothing is missing, one more
module _ (words counts : List ℕ) (k : ℕ) (was : (a : ℕ) → is_set words 0 a ≡ (nat_lt a k && (slice_index_or counts a 0 == 0))) where
  pub due-skip : slice_index_or counts k 0 ≢ 0 → (a : ℕ) → is_set words 0 a ≡ (nat_lt a (k + 1) && (slice_index_or counts a 0 == 0))
  due-skip some a =
      was a ∙ elim (cases_eq a k) [
        | inl e ↦ and_left (nat_lt a k) (slice_index_or counts a 0 == 0) (le-ltb a k (omega arith))
            ∙ sym (and_right (nat_lt a (k + 1)) (slice_index_or counts a 0 == 0)
            (ne_eqb (slice_index_or counts a 0) 0 (λ z. some (ap (λ i. slice_index_or counts i 0) (sym e) ∙ z))))
        | inr ne ↦ ap (λ w. w && (slice_index_or counts a 0 == 0)) (next_lt a k ne)
      ]

  pub due-take : (words_now : List ℕ) → slice_index_or counts k 0 ≡ 0 → ((a b : ℕ) → is_set words_now a b ≡ (is_set words a b || (a == 0 && b == k)))
      → (a : ℕ) → is_set words_now 0 a ≡ (nat_lt a (k + 1) && (slice_index_or counts a 0 == 0))
  due-take words_now none bits a =
      bits 0 a ∙ elim (cases_eq a k) [
        | inl e ↦ or_right (is_set words 0 a) (0 == 0 && a == k) (bit_here a k e)
            ∙ sym (and_from (nat_lt a (k + 1)) (slice_index_or counts a 0 == 0) (lt-ltb a (k + 1) (omega arith))
            (eq-eqb (slice_index_or counts a 0) 0 (ap (λ i. slice_index_or counts i 0) e ∙ none)))
        | inr ne ↦ or_false (is_set words 0 a) (0 == 0 && a == k) (bit_other a k ne) ∙ was a ∙ ap (λ w. w && (slice_index_or counts a 0 == 0)) (next_lt a k ne)
      ]

-- up to the next dependent p there is none from `from` on
module _ (needs : ℕ → Bool) (from p : ℕ) (le : from ≤ p) (here : needs p ≡ true) (least : (c : ℕ) → from ≤ c → c < p → needs c ≡ false) where
  past : (a : ℕ) → a ≢ p → (nat_lt a from && needs a) ≡ (nat_lt a (p + 1) && needs a)
  past a ne =
      elim (cases_lt a from) [
        | inl lt ↦ ap (λ w. w && needs a) (lt-ltb a from lt ∙ sym (lt-ltb a (p + 1) (omega arith)))
        | inr late ↦ elim (cases_lt a p) [
          | inl lt ↦ and_right (nat_lt a from) (needs a) (least a late lt) ∙ sym (and_right (nat_lt a (p + 1)) (needs a) (least a late lt))
          | inr more ↦ and_left (nat_lt a from) (needs a) (le-ltb a from late) ∙ sym (and_left (nat_lt a (p + 1)) (needs a) (le-ltb a (p + 1) (omega arith)))
        ]
      ]

  none_yet : (nat_lt p from && needs p) ≡ false
  none_yet = and_left (nat_lt p from) (needs p) (le-ltb p from le)

  now : (nat_lt p (p + 1) && needs p) ≡ true
  now = and_from (nat_lt p (p + 1)) (needs p) (lt-ltb p (p + 1) (omega arith)) here

  module _ (old counts : List ℕ) (room : p < length counts) (some : 0 < slice_index_or old p 0)
      (was : (a : ℕ) → slice_index_or counts a 0 + cond (nat_lt a from && needs a) 1 0 ≡ slice_index_or old a 0) where
    pub lowered-counts : (a : ℕ)
        → slice_index_or (slice_set counts p (slice_index_or counts p 0 - 1)) a 0 + cond (nat_lt a (p + 1) && needs a) 1 0 ≡ slice_index_or old a 0
    lowered-counts a =
        elim (cases_eq a p) [
          | inl e ↦ subst
              (λ x. slice_index_or (slice_set counts p (slice_index_or counts p 0 - 1)) x 0 + cond (nat_lt x (p + 1) && needs x) 1 0 ≡ slice_index_or old x 0)
              (sym e)
              (let there = get_or-set_same counts p (slice_index_or counts p 0 - 1) 0 room in
              let before = was p in
              let zero_then = none_at (nat_lt p from && needs p) none_yet in
              let one_now = one_at (nat_lt p (p + 1) && needs p) now in omega arith)
          | inr ne ↦ (let there = get_or-set_other counts p a (slice_index_or counts p 0 - 1) 0 ne in
              let same : ◌≡◌ {A = ℕ} (cond (nat_lt a from && needs a) 1 0) (cond (nat_lt a (p + 1) && needs a) 1 0) = ap (λ w. cond w 1 0) (past a ne) in
              let before = was a in omega arith)
        ]

    module _ (ready_old ready : List ℕ)
        (kept : (a : ℕ) → is_set ready 0 a ≡ (is_set ready_old 0 a || ((nat_lt a from && needs a) && (slice_index_or counts a 0 == 0)))) where
      other : (a : ℕ) → a ≢ p
          → is_set ready 0 a
          ≡ (is_set ready_old 0 a || ((nat_lt a (p + 1) && needs a) && (slice_index_or (slice_set counts p (slice_index_or counts p 0 - 1)) a 0 == 0)))
      other a ne =
          kept a ∙ ap (λ w. is_set ready_old 0 a || (w && (slice_index_or counts a 0 == 0))) (past a ne)
          ∙ ap (λ m. is_set ready_old 0 a || ((nat_lt a (p + 1) && needs a) && (m == 0)))
          (sym (get_or-set_other counts p a (slice_index_or counts p 0 - 1) 0 ne))

      pub lowered-waits : slice_index_or (slice_set counts p (slice_index_or counts p 0 - 1)) p 0 ≢ 0
          → (a : ℕ) → is_set ready 0 a
          ≡ (is_set ready_old 0 a || ((nat_lt a (p + 1) && needs a) && (slice_index_or (slice_set counts p (slice_index_or counts p 0 - 1)) a 0 == 0)))
      lowered-waits more a =
          elim (cases_eq a p) [
            | inl e ↦ subst
                (λ x. is_set ready 0 x
                ≡ (is_set ready_old 0 x
                || ((nat_lt x (p + 1) && needs x) && (slice_index_or (slice_set counts p (slice_index_or counts p 0 - 1)) x 0 == 0)))) (sym e)
                (kept p ∙ or_false (is_set ready_old 0 p) ((nat_lt p from && needs p) && (slice_index_or counts p 0 == 0))
                (and_left (nat_lt p from && needs p) (slice_index_or counts p 0 == 0) none_yet)
                ∙ sym (or_false (is_set ready_old 0 p)
                ((nat_lt p (p + 1) && needs p) && (slice_index_or (slice_set counts p (slice_index_or counts p 0 - 1)) p 0 == 0))
                (and_right (nat_lt p (p + 1) && needs p) (slice_index_or (slice_set counts p (slice_index_or counts p 0 - 1)) p 0 == 0)
                (ne_eqb (slice_index_or (slice_set counts p (slice_index_or counts p 0 - 1)) p 0) 0 more))))
            | inr ne ↦ other a ne
          ]

      pub lowered-ready : (ready_now : List ℕ) → slice_index_or (slice_set counts p (slice_index_or counts p 0 - 1)) p 0 ≡ 0
          → ((a b : ℕ) → is_set ready_now a b ≡ (is_set ready a b || (a == 0 && b == p)))
          → (a : ℕ) → is_set ready_now 0 a
          ≡ (is_set ready_old 0 a || ((nat_lt a (p + 1) && needs a) && (slice_index_or (slice_set counts p (slice_index_or counts p 0 - 1)) a 0 == 0)))
      lowered-ready ready_now none bits a =
          bits 0 a ∙ elim (cases_eq a p) [
            | inl e ↦ or_right (is_set ready 0 a) (0 == 0 && a == p) (bit_here a p e)
                ∙ sym (subst
                (λ x. (is_set ready_old 0 x
                || ((nat_lt x (p + 1) && needs x) && (slice_index_or (slice_set counts p (slice_index_or counts p 0 - 1)) x 0 == 0))) ≡ true) (sym e)
                (or_right (is_set ready_old 0 p)
                ((nat_lt p (p + 1) && needs p) && (slice_index_or (slice_set counts p (slice_index_or counts p 0 - 1)) p 0 == 0))
                (and_from (nat_lt p (p + 1) && needs p) (slice_index_or (slice_set counts p (slice_index_or counts p 0 - 1)) p 0 == 0) now
                (eq-eqb (slice_index_or (slice_set counts p (slice_index_or counts p 0 - 1)) p 0) 0 none))))
            | inr ne ↦ or_false (is_set ready 0 a) (0 == 0 && a == p) (bit_other a p ne) ∙ other a ne
          ]
