-- How many loops of an endpoint ended: each once, and so no more than there are.
use Rattle.std.proofs.Common.{ℕ, Bool, true, false, zero, suc, ◌||◌, ◌&&◌, ◌==◌, not, inl, inr, List, [], ◌∷◌, ◌++◌, ◌≡◌, refl, ap, ◌∙◌, subst, arith, ◌<◌, ◌≤◌, ◌+◌, nat_lt, length, length-append, filter, if◌then◌else◌}
use Rattle.std.proofs.lemmas.Bool.{cases_Bool, cases_eq, eq-eqb, ne_eqb, and_from, or_left, or_right}
use Rattle.std.proofs.lemmas.List.Elements.{filter-append}
use Rattle.std.proofs.lemmas.List.Folds.{list_any-append}
use Rattle.svc_record.specs.declared.plan.Plan.{Plan}
use Rattle.svc_record.specs.declared.entry.Entry.TheVariants.{Got}
use Rattle.svc_record.specs.declared.event.Event.TheVariants.{LoopEnded}
use Rattle.svc_record.specs.Record.{Record, has}
use Rattle.svc_record.specs.Closes.{is_loop_end, ended_loops}
use Rattle.svc_endpoints.specs.declared.loops.LoopEnd.{LoopEnd}
use Rattle.svc_endpoints.specs.Loops.{is_loop_of, is_loop, has_loop, loop_count}
use Rattle.svc_base.proofs.Logic.{clash}

lt_zero : (j : ℕ) → nat_lt j 0 ≡ false
lt_zero j = grind arith

lt_here : (j n : ℕ) → j ≡ n → nat_lt j (n + 1) ≡ true
lt_here j n e = grind arith

not_lt : (j n : ℕ) → j ≡ n → nat_lt j n ≡ false
not_lt j n e = grind arith

lt_same : (j n : ℕ) → (j == n) ≡ false → nat_lt j (n + 1) ≡ nat_lt j n
lt_same j n e = grind arith

none_below : (m h : Bool) (a : ℕ) → (if (m && false) && h then a + 1 else a) ≡ a
none_below true h a = refl
none_below false h a = refl

at_one : (m h : Bool) (a b : ℕ) → b ≡ (if h then a + 1 else a)
    → (if (m && true) && not h then b + 1 else b)
    ≡ (if (m && true) || h then (if (m && false) && not h then a + 1 else a) + 1 else (if (m && false) && not h then a + 1 else a))
at_one true true a b e = e
at_one true false a b e = ap (λ n. n + 1) e
at_one false true a b e = e
at_one false false a b e = e

at_other : (m l g h : Bool) (a b : ℕ) → b ≡ (if h then a + 1 else a)
    → (if (m && l) && not g then b + 1 else b)
    ≡ (if (m && false) || h then (if (m && l) && not g then a + 1 else a) + 1 else (if (m && l) && not g then a + 1 else a))
at_other true true true true a b e = e
at_other true true true false a b e = e
at_other true true false true a b e = ap (λ n. n + 1) e
at_other true true false false a b e = ap (λ n. n + 1) e
at_other true false g true a b e = e
at_other true false g false a b e = e
at_other false l g true a b e = e
at_other false l g false a b e = e

module _ (p : Plan) (s i : ℕ) where
  -- how many of the loops with numbers below n ended
  abbrev below : Record → ℕ → ℕ
  below q n = ended_loops (record p { tasks = n }) q s i

  below_none : (q : Record) → below q 0 ≡ 0
  below_none [] = refl
  below_none (Got (LoopEnded t k j) ∷ q) = rw (lt_zero j) (none_below (t == s && k == i) (not (has (is_loop_end s i j) q)) (below q 0)) ∙ below_none q
  below_none (e ∷ q) = below_none q

  below_next : (q : Record) (n : ℕ) → below q (n + 1) ≡ (if has (is_loop_end s i n) q then below q n + 1 else below q n)
  below_next [] n = refl
  below_next (Got (LoopEnded t k j) ∷ q) n = elim (cases_eq j n) [
    | inl e ↦ (let same : has (is_loop_end s i j) q ≡ has (is_loop_end s i n) q = ap (λ m. has (is_loop_end s i m) q) e in
        rw (eq-eqb j n e, lt_here j n e, not_lt j n e, same)
        (at_one (t == s && k == i) (has (is_loop_end s i n) q) (below q n) (below q (n + 1)) (below_next q n)))
    | inr ne ↦ (let off = ne_eqb j n ne in
        rw (off, lt_same j n off)
        (at_other (t == s && k == i) (nat_lt j n) (has (is_loop_end s i j) q) (has (is_loop_end s i n) q) (below q n) (below q (n + 1)) (below_next q n)))
  ]
  below_next (e ∷ q) n = below_next q n

  below_le : (q : Record) (n : ℕ) → below q n ≤ n
  below_le q zero = let e = below_none q in omega (arith, e)
  below_le q (suc n) = let one : n + 1 ≡ suc n = omega arith in let was = below_le q n in
      subst (λ m. below q m ≤ m) one (step (has (is_loop_end s i n) q) (below q n) (below q (n + 1)) (below_next q n) was)
    where
      step : (h : Bool) (a b : ℕ) → b ≡ (if h then a + 1 else a) → a ≤ n → b ≤ n + 1
      step true a b e le = omega (arith, e, le)
      step false a b e le = omega (arith, e, le)

  below_less : (q : Record) (n j : ℕ) → j < n → has (is_loop_end s i j) q ≡ false → below q n < n
  below_less q zero j lt h = absurd (omega arith)
  below_less q (suc n) j lt h = let one : n + 1 ≡ suc n = omega arith in
      subst (λ m. below q m < m) one (elim (cases_eq j n) [
        | inl e ↦ (let off : has (is_loop_end s i n) q ≡ false = subst (λ m. has (is_loop_end s i m) q ≡ false) e h in
            at_end (has (is_loop_end s i n) q) (below q n) (below q (n + 1)) (below_next q n) off (below_le q n))
        | inr ne ↦ before (has (is_loop_end s i n) q) (below q n) (below q (n + 1)) (below_next q n) (below_less q n j (omega arith) h)
      ])
    where
      at_end : (h : Bool) (a b : ℕ) → b ≡ (if h then a + 1 else a) → h ≡ false → a ≤ n → b < n + 1
      at_end true a b e off le = absurd (cc)
      at_end false a b e off le = omega (arith, e, le)

      before : (h : Bool) (a b : ℕ) → b ≡ (if h then a + 1 else a) → a < n → b < n + 1
      before true a b e lt = omega (arith, e, lt)
      before false a b e lt = omega (arith, e, lt)

  -- where one of the loops hasn't ended, fewer ended than there are
  pub ended-less : (q : Record) (j : ℕ) → j < p.tasks → has (is_loop_end s i j) q ≡ false → ended_loops p q s i < p.tasks
  ended-less q j lt h = below_less q p.tasks j lt h

-- one more in the list
pub has_loop-more : (loops : List LoopEnd) (x : LoopEnd) (s i j : ℕ) → has_loop (loops ++ (x ∷ [])) s i j ≡ (is_loop s i j x || has_loop loops s i j)
has_loop-more loops x s i j = list_any-append (is_loop s i j) loops (x ∷ []) ∙ swap (has_loop loops s i j) (is_loop s i j x)
  where
    swap : (a b : Bool) → (a || (b || false)) ≡ (b || a)
    swap a b = grind arith

pub loop_count-more : (loops : List LoopEnd) (x : LoopEnd) (s i : ℕ)
    → loop_count (loops ++ (x ∷ [])) s i ≡ (if is_loop_of s i x then loop_count loops s i + 1 else loop_count loops s i)
loop_count-more loops x s i =
    ap length (filter-append (is_loop_of s i) loops (x ∷ [])) ∙ length-append (filter (is_loop_of s i) loops) (filter (is_loop_of s i) (x ∷ []))
    ∙ last_one (is_loop_of s i x)
  where
    last_one : (b : Bool) → loop_count loops s i + length (if b then x ∷ [] else []) ≡ (if b then loop_count loops s i + 1 else loop_count loops s i)
    last_one true = refl
    last_one false = omega arith

-- what is counted is there
pub some_loop : (loops : List LoopEnd) (s i : ℕ) → 0 < loop_count loops s i → (j : ℕ) × (has_loop loops s i j ≡ true)
some_loop [] s i h = absurd (omega arith)
some_loop (x ∷ loops) s i h = elim (cases_Bool (is_loop_of s i x)) [
  | inl y ↦ (
    x.number,
    or_left (is_loop s i x.number x) (has_loop loops s i x.number)
        (and_from (is_loop_of s i x) (x.number == x.number) y (eq-eqb x.number x.number refl)),
  )
  | inr n ↦ (let rest : 0 < loop_count loops s i = (let k = rw n at h in omega (arith, k)) in
      let some = some_loop loops s i rest in (some.0, or_right (is_loop s i some.0 x) (has_loop loops s i some.0) some.1))
]

-- where none is there, the list is empty
pub no_loops : (loops : List LoopEnd) → ((s i j : ℕ) → has_loop loops s i j ≡ false) → loops ≡ []
no_loops [] h = refl
no_loops (x ∷ loops) h = absurd (clash (has_loop (x ∷ loops) x.service x.endpoint x.number) here (h x.service x.endpoint x.number))
  where
    here : has_loop (x ∷ loops) x.service x.endpoint x.number ≡ true
    here = rw (eq-eqb x.service x.service refl, eq-eqb x.endpoint x.endpoint refl, eq-eqb x.number x.number refl) refl
