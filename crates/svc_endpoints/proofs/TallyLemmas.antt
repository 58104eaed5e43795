-- The tallies of endpoints' loops, and the links among the loops.
use Rattle.std.proofs.Common.{ℕ, zero, suc, Bool, true, false, ◌||◌, ◌&&◌, ◌==◌, inl, inr, List, [], ◌∷◌, ◌++◌, ◌≡◌, refl, ap, sym, ◌∙◌, subst, arith, ◌<◌, ◌≤◌, ◌+◌, ◌-◌, add-one, length, length-append, take, get_or, if◌then◌else◌, slice_index_or}
use Rattle.std.proofs.lemmas.Bool.{cases_Bool, cases_eq, cases_lt, eq-eqb, eqb-true, ne_eqb, and_parts}
use Rattle.std.proofs.lemmas.List.{get_or-set_same, get_or-set_other, length-set, take_more, take_all, get_or_append_left, get_or_past}
use Rattle.std.proofs.lemmas.List.Sums.{length-filter, count_by-le-length}
use Rattle.std.proofs.Math.Seq.{get_or-append_seam}
use Rattle.std.proofs.lemmas.List.Folds.{list_any-append}
use Rattle.svc_endpoints.specs.declared.loops.LoopEnd.{LoopEnd}
use Rattle.svc_endpoints.specs.declared.tallies.Tally.{Tally}
use Rattle.svc_endpoints.proofs.LoopLemmas.{loop_count-more}
use Rattle.svc_endpoints.specs.Loops.{is_loop_of, is_loop, has_loop, loop_at, last_end, AreLinked, untold, tally_at, HasTally, counted, counted_in, IsTallied, AreTallied}

-- the last one of the endpoint among the first n
module _ (loops : List LoopEnd) (s i : ℕ) where
  pub last-le : (n : ℕ) → last_end loops s i n ≤ n
  last-le zero = omega arith
  last-le (suc n) = elim (cases_Bool (is_loop_of s i (loop_at loops n))) [
    | inl y ↦ rw y (omega arith)
    | inr m ↦ rw m (let h = last-le n in omega arith)
  ]

  pub last-last : (n : ℕ) → last_end loops s i (last_end loops s i n) ≡ last_end loops s i n
  last-last zero = refl
  last-last (suc n) = elim (cases_Bool (is_loop_of s i (loop_at loops n))) [
    | inl y ↦ rw (y, y) refl
    | inr m ↦ rw m (last-last n)
  ]

  -- where there is one, it is the endpoint's
  pub last-is : (n : ℕ) → last_end loops s i (n + 1) ≡ n + 1 → is_loop_of s i (loop_at loops n) ≡ true
  last-is n e = elim (cases_Bool (is_loop_of s i (loop_at loops n))) [
    | inl y ↦ y
    | inr m ↦ absurd
        (let h = last-le n in let one : n + 1 ≡ suc n = omega arith in let k = subst (λ r. last_end loops s i r ≡ r) one e in let less = rw m at k in
        omega (arith, h, less))
  ]

has_loop-next : (loops : List LoopEnd) (s i j n : ℕ) → n < length loops
    → has_loop (take (n + 1) loops) s i j ≡ (has_loop (take n loops) s i j || is_loop s i j (loop_at loops n))
has_loop-next loops s i j n lt =
    let none : LoopEnd = record { service = 0; endpoint = 0; number = 0 } in
    ap (λ (w : List LoopEnd). has_loop w s i j) (take_more loops n none lt) ∙ list_any-append (is_loop s i j) (take n loops) (get_or loops n none ∷ [])
    ∙ ap (λ b. has_loop (take n loops) s i j || b) (or_off (is_loop s i j (loop_at loops n)))
  where
    or_off : (b : Bool) → (b || false) ≡ b
    or_off b = grind arith

or_false : (a b : Bool) → b ≡ false → (a || b) ≡ a
or_false a b h = grind arith

-- a loop that isn't the endpoint's isn't its loop j
other_loop : (s i j : ℕ) (x : LoopEnd) → is_loop_of s i x ≡ false → is_loop s i j x ≡ false
other_loop s i j x h = rw h refl

-- none of the endpoint's comes after the last
pub has-last : (loops : List LoopEnd) (s i j n : ℕ) → n ≤ length loops → has_loop (take n loops) s i j ≡ has_loop (take (last_end loops s i n) loops) s i j
has-last loops s i j zero le = refl
has-last loops s i j (suc n) le = elim (cases_Bool (is_loop_of s i (loop_at loops n))) [
  | inl y ↦ rw y refl
  | inr m ↦ (let one : suc n ≡ n + 1 = omega arith in
      rw m (ap (λ k. has_loop (take k loops) s i j) one ∙ has_loop-next loops s i j n (omega arith)
      ∙ or_false (has_loop (take n loops) s i j) (is_loop s i j (loop_at loops n)) (other_loop s i j (loop_at loops n) m)
      ∙ has-last loops s i j n (omega arith)))
]

pub has-all : (loops : List LoopEnd) (s i j : ℕ) → has_loop loops s i j ≡ has_loop (take (last_end loops s i (length loops)) loops) s i j
has-all loops s i j =
    ap (λ (w : List LoopEnd). has_loop w s i j) (sym (take_all (length loops) loops (omega arith))) ∙ has-last loops s i j (length loops) (omega arith)

-- one step of a walk over the links of the endpoint's loops: the loop before this place, and where the one before that stands
module _ (loops : List LoopEnd) (before : List ℕ) (s i j : ℕ) where
  pub linked-of : (at : ℕ) → 0 < at → at ≡ last_end loops s i at → is_loop_of s i (loop_at loops (at - 1)) ≡ true
  linked-of at some e = let one : (at - 1) + 1 ≡ at = omega arith in last-is loops s i (at - 1) (subst (λ k. last_end loops s i k ≡ k) (sym one) (sym e))

  pub linked-past : (at : ℕ) → 0 < at → at ≤ length loops → is_loop s i j (loop_at loops (at - 1)) ≡ false
      → has_loop (take at loops) s i j ≡ has_loop (take (last_end loops s i (at - 1)) loops) s i j
  linked-past at some le h =
      let one : (at - 1) + 1 ≡ at = omega arith in
      subst (λ k. has_loop (take k loops) s i j ≡ has_loop (take (at - 1) loops) s i j) one
      (has_loop-next loops s i j (at - 1) (omega arith) ∙ or_false (has_loop (take (at - 1) loops) s i j) (is_loop s i j (loop_at loops (at - 1))) h)
      ∙ has-last loops s i j (at - 1) (omega arith)

-- the rows where one more loop is counted
module _ (rows : List (List Tally)) (s i n t k : ℕ) where
  same_length : length (slice_index_or (counted_in rows s i n) t []) ≡ length (slice_index_or rows t [])
  same_length = elim (cases_eq s t) [
    | inl e ↦ subst (λ (u : ℕ). length (slice_index_or (counted_in rows s i n) u []) ≡ length (slice_index_or rows u [])) e here
    | inr ne ↦ ap length (get_or-set_other rows s t (counted (slice_index_or rows s []) i n) [] (λ w. ne (sym w)))
  ]
    where
      here : length (slice_index_or (counted_in rows s i n) s []) ≡ length (slice_index_or rows s [])
      here = elim (cases_lt s (length rows)) [
        | inl inside ↦
            ap length (get_or-set_same rows s (counted (slice_index_or rows s []) i n) [] inside)
            ∙ length-set (slice_index_or rows s []) i (record { count = (tally_at rows s i).count + 1; last = n })
        | inr out ↦ ap length
            (get_or_past (counted_in rows s i n) s [] (let h = length-set rows s (counted (slice_index_or rows s []) i n) in omega (arith, h)))
            ∙ sym (ap length (get_or_past rows s [] (omega arith)))
      ]

  pub has-counted : HasTally (counted_in rows s i n) t k → HasTally rows t k
  has-counted has =
      let long = length-set rows s (counted (slice_index_or rows s []) i n) in
      let same = same_length in
      let first = has.0 in
      let second = has.1 in
      (omega (arith, long, first), omega (arith, same, second))

  pub tally_at-counted : HasTally rows t k
      → tally_at (counted_in rows s i n) t k ≡ (if s == t && i == k then record { count = (tally_at rows t k).count + 1; last = n } else tally_at rows t k)
  tally_at-counted has = elim (cases_eq s t) [
    | inl e ↦ (let same_row : slice_index_or (counted_in rows s i n) s [] ≡ counted (slice_index_or rows s []) i n
        = get_or-set_same rows s (counted (slice_index_or rows s []) i n) [] (let first = has.0 in omega (arith, e, first)) in
        elim (cases_eq i k) [
          | inl f ↦ rw (eq-eqb s t e, eq-eqb i k f)
              (subst (λ (u : ℕ). tally_at (counted_in rows s i n) u k ≡ record { count = (tally_at rows u k).count + 1; last = n }) e
              (subst (λ (j : ℕ). tally_at (counted_in rows s i n) s j ≡ record { count = (tally_at rows s j).count + 1; last = n }) f
              (ap (λ r. slice_index_or r i untold) same_row
              ∙ get_or-set_same (slice_index_or rows s []) i (record { count = (tally_at rows s i).count + 1; last = n }) untold
              (subst (λ (u : ℕ). u < length (slice_index_or rows s [])) (sym f) (subst (λ (u : ℕ). k < length (slice_index_or rows u [])) (sym e) has.1)))))
          | inr nf ↦ rw (eq-eqb s t e, ne_eqb i k nf) (subst (λ (u : ℕ). tally_at (counted_in rows s i n) u k ≡ tally_at rows u k) e
              (ap (λ r. slice_index_or r k untold) same_row
              ∙ get_or-set_other (slice_index_or rows s []) i k (record { count = (tally_at rows s i).count + 1; last = n }) untold (λ w. nf (sym w))))
        ])
    | inr ne ↦ rw (ne_eqb s t ne)
        (ap (λ r. slice_index_or r k untold) (get_or-set_other rows s t (counted (slice_index_or rows s []) i n) [] (λ w. ne (sym w))))
  ]

-- one more loop that ended, with its link
module _ (loops : List LoopEnd) (before : List ℕ) (x : LoopEnd) (b : ℕ) (long : length before ≡ length loops) (s i : ℕ) where
  at_left : (n : ℕ) → n < length loops → loop_at (loops ++ x ∷ []) n ≡ loop_at loops n
  at_left n lt = get_or_append_left loops (x ∷ []) (record { service = 0; endpoint = 0; number = 0 }) n lt

  last_more : (n : ℕ) → n ≤ length loops → last_end (loops ++ x ∷ []) s i n ≡ last_end loops s i n
  last_more zero le = refl
  last_more (suc n) le = ap (λ (e : LoopEnd). if is_loop_of s i e then suc n else last_end (loops ++ x ∷ []) s i n) (at_left n (omega arith))
      ∙ ap (λ m. if is_loop_of s i (loop_at loops n) then suc n else m) (last_more n (omega arith))

  last_full : last_end (loops ++ x ∷ []) s i (length (loops ++ x ∷ [])) ≡ (if is_loop_of s i x then length loops + 1 else last_end loops s i (length loops))
  last_full =
      let full : length (loops ++ x ∷ []) ≡ suc (length loops) = length-append loops (x ∷ []) ∙ add-one (length loops) in
      ap (λ n. last_end (loops ++ x ∷ []) s i n) full
      ∙ ap (λ (e : LoopEnd). if is_loop_of s i e then suc (length loops) else last_end (loops ++ x ∷ []) s i (length loops))
      (get_or-append_seam loops x [] (record { service = 0; endpoint = 0; number = 0 }))
      ∙ ap (λ m. if is_loop_of s i x then suc (length loops) else m) (last_more (length loops) (omega arith))
      ∙ ap (λ m. if is_loop_of s i x then m else last_end loops s i (length loops)) (sym (add-one (length loops)))

  links_more : AreLinked loops before s i → (is_loop_of s i x ≡ true → b ≡ last_end loops s i (length loops))
      → AreLinked (loops ++ x ∷ []) (before ++ b ∷ []) s i
  links_more was here k lt h = elim (cases_lt k (length loops)) [
    | inl less ↦
        get_or_append_left before (b ∷ []) 0 k (omega (arith, long)) ∙ was k less (ap (is_loop_of s i) (sym (at_left k less)) ∙ h)
        ∙ sym (last_more k (omega arith))
    | inr more ↦ (
        let full = length-append loops (x ∷ []) in
        let end : k ≡ length loops = omega (arith, full) in
        let at_end : loop_at (loops ++ x ∷ []) k ≡ x =
        ap (loop_at (loops ++ x ∷ [])) end ∙ get_or-append_seam loops x [] (record { service = 0; endpoint = 0; number = 0 }) in
        ap (λ n. slice_index_or (before ++ b ∷ []) n 0) (end ∙ sym long) ∙ get_or-append_seam before b [] 0 ∙ here (ap (is_loop_of s i) (sym at_end) ∙ h)
        ∙ ap (last_end loops s i) (sym end) ∙ sym (last_more k (omega arith)))
  ]

  pub tallied-more : (u : Tally) → IsTallied loops before s i u → (is_loop_of s i x ≡ true → b ≡ u.last)
      → IsTallied (loops ++ x ∷ []) (before ++ b ∷ []) s i (if is_loop_of s i x then record { count = u.count + 1; last = length loops + 1 } else u)
  tallied-more u was here =
      let links = links_more was.links (λ y. here y ∙ was.last) in
      elim (cases_Bool (is_loop_of s i x)) [
        | inl y ↦ rw y (record {
          count = ap (λ n. n + 1) was.count ∙ sym (loop_count-more loops x s i ∙ (rw y refl));
          last = sym (last_full ∙ (rw y refl));
          links = links;
        })
        | inr m ↦ rw m (record {
          count = was.count ∙ sym (loop_count-more loops x s i ∙ (rw m refl));
          last = was.last ∙ sym (last_full ∙ (rw m refl));
          links = links;
        })
      ]

-- all of them with one more
pub are-tallied-more : (loops : List LoopEnd) (before : List ℕ) (rows : List (List Tally)) (x : LoopEnd) (b n : ℕ) → n ≡ length loops + 1
    → b ≡ (tally_at rows x.service x.endpoint).last
    → AreTallied loops before rows → AreTallied (loops ++ x ∷ []) (before ++ b ∷ []) (counted_in rows x.service x.endpoint n)
are-tallied-more loops before rows x b n full prior was = record {
  long = (let more = length-append loops (x ∷ []) in let less = length-append before (b ∷ []) in let long = was.long in omega (arith, more, less, long));
  each = λ s i has.
      let old = has-counted rows x.service x.endpoint n s i has in
      subst (IsTallied (loops ++ x ∷ []) (before ++ b ∷ []) s i)
      (sym (tally_at-counted rows x.service x.endpoint n s i old
      ∙ ap (λ m. if is_loop_of s i x then record { count = (tally_at rows s i).count + 1; last = m } else tally_at rows s i) full))
      (tallied-more loops before x b was.long s i (tally_at rows s i) (was.each s i old) (λ y.
      let parts = and_parts (x.service == s) (x.endpoint == i) y in
      prior ∙ ap (λ u. (tally_at rows u x.endpoint).last) (eqb-true x.service s parts.0) ∙ ap (λ u. (tally_at rows s u).last) (eqb-true x.endpoint i parts.1)));
}

-- no endpoint has more ended loops than there are
pub few-counted : (loops : List LoopEnd) (before : List ℕ) (rows : List (List Tally)) (s i : ℕ) → AreTallied loops before rows
    → (tally_at rows s i).count ≤ length loops
few-counted loops before rows s i was = elim (cases_lt i (length (slice_index_or rows s []))) [
  | inr out ↦ (let e = ap (λ (u : Tally). u.count) (get_or_past (slice_index_or rows s []) i untold (omega arith)) in omega (arith, e))
  | inl within ↦ elim (cases_lt s (length rows)) [
    | inr past ↦ absurd (let e = ap length (get_or_past rows s [] (omega arith)) in omega (arith, e))
    | inl inside ↦
        (let e = (was.each s i (inside, within)).count in let f = length-filter (is_loop_of s i) loops in let g = count_by-le-length (is_loop_of s i) loops in
        omega (arith, e, f, g))
  ]
]
