-- The numbers that pass a test, one by one, and where they stand in a longer list.
use Rattle.std.proofs.Common.{ℕ, zero, suc, Bool, true, false, ◌&&◌, ◌||◌, ◌==◌, inl, inr, List, [], ◌∷◌, ◌++◌, ◌≡◌, refl, sym, ◌∙◌, ap, subst, arith, All, append-nil, ◌<◌, ◌≤◌, ◌+◌, ◌-◌, cond, nat_lt, length, length-append, length-drop, drop, take}
use Rattle.std.specs.List.{slice_range}
use Rattle.std.specs.List.Sorted.{IsStrictlyIncreasing}
use Rattle.std.proofs.lemmas.Bool.{cases_eq, cases_lt, cases_Bool, eq-eqb, ne_eqb, lt-ltb, le-ltb, and_left, and_parts, ltb-true}
use Rattle.std.proofs.lemmas.List.{drop-append-le, take-append-le}
use Rattle.std.proofs.lemmas.List.Folds.{list_any-append}
use Rattle.std.proofs.Math.Seq.{drop-append_seam, take-length}
use Rattle.svc_graph.specs.Graphs.{is_listed}
use Rattle.svc_graph.specs.Bits.{is_set}
use Rattle.svc_graph.specs.Counts.{count_below, those_below, those_of}
use Rattle.svc_graph.proofs.Lists.{All-from_listed}
use Rattle.svc_graph.proofs.Counts.{one_at, none_at, count-le}
use Rattle.svc_graph.proofs.Rising.{increasing-push}

one_listed : (u : Bool) (n b : ℕ) → is_listed (cond u (n ∷ []) []) b ≡ (u && n == b)
one_listed true n b = last (n == b)
  where
    last : (w : Bool) → (w || false) ≡ w
    last true = refl
    last false = refl
one_listed false n b = refl

pub listed-those : (p : ℕ → Bool) (n b : ℕ) → is_listed (those_below p n) b ≡ (nat_lt b n && p b)
listed-those p zero b = sym (and_left (nat_lt b 0) (p b) (le-ltb b 0 (omega arith)))
listed-those p (suc n) b =
    list_any-append (λ x. x == b) (those_below p n) (cond (p n) (n ∷ []) [])
    ∙ ap (λ w. w || is_listed (cond (p n) (n ∷ []) []) b) (listed-those p n b)
    ∙ ap (λ w. (nat_lt b n && p b) || w) (one_listed (p n) n b)
    ∙ elim (cases_eq b n) [
      | inl e ↦ here (nat_lt b n) (nat_lt b (suc n)) (p b) (p n) (n == b) (le-ltb b n (omega arith)) (lt-ltb b (suc n) (omega arith)) (eq-eqb n b (sym e))
          (ap p e)
      | inr ne ↦ elsewhere (nat_lt b n) (nat_lt b (suc n)) (p b) (p n) (n == b) (same ne) (ne_eqb n b (λ e. ne (sym e)))
    ]
  where
    here : (l l_now u v w : Bool) → l ≡ false → l_now ≡ true → w ≡ true → u ≡ v → ((l && u) || (v && w)) ≡ (l_now && u)
    here l l_now u v w first second third fourth = grind arith

    elsewhere : (l l_now u v w : Bool) → l_now ≡ l → w ≡ false → ((l && u) || (v && w)) ≡ (l_now && u)
    elsewhere l l_now u v w first second = grind arith

    same : (b ≡ n → ⊥) → nat_lt b (suc n) ≡ nat_lt b n
    same ne = elim (cases_lt b n) [
      | inl lt ↦ lt-ltb b (suc n) (omega arith) ∙ sym (lt-ltb b n lt)
      | inr le ↦ le-ltb b (suc n) (omega arith) ∙ sym (le-ltb b n le)
    ]

pub those-inside : (p : ℕ → Bool) (n b : ℕ) → is_listed (those_below p n) b ≡ true → b < n
those-inside p n b e = ltb-true b n (and_parts (nat_lt b n) (p b) (sym (listed-those p n b) ∙ e)).0

pub those-all : (p : ℕ → Bool) (n : ℕ) → All (λ a. a < n) (those_below p n)
those-all p n = All-from_listed (λ a. a < n) (those_below p n) (those-inside p n)

pub those-same : (p q : ℕ → Bool) (n : ℕ) → ((a : ℕ) → a < n → p a ≡ q a) → those_below p n ≡ those_below q n
those-same p q zero same = refl
those-same p q (suc n) same =
    ap (λ b. those_below p n ++ cond b (n ∷ []) []) (same n (omega arith))
    ∙ ap (λ xs. xs ++ cond (q n) (n ∷ []) []) (those-same p q n (λ a lt. same a (omega arith)))

-- where none passes any more, they stay
pub those-rest : (p : ℕ → Bool) (from n : ℕ) → from ≤ n → ((a : ℕ) → from ≤ a → a < n → p a ≡ false) → those_below p n ≡ those_below p from
those-rest p from zero le none = let same : from ≡ zero = omega arith in sym (ap (λ m. those_below p m) same)
those-rest p from (suc n) le none =
    elim (cases_eq from (suc n)) [
      | inl same ↦ sym (ap (λ m. those_below p m) same)
      | inr ne ↦ ap (λ b. those_below p n ++ cond b (n ∷ []) []) (none n (omega arith) (omega arith)) ∙ append-nil (those_below p n)
          ∙ those-rest p from n (omega arith) (λ a at lt. none a at (omega arith))
    ]

-- the next number that passes is the next one of them
pub those-next : (p : ℕ → Bool) (from x : ℕ) → from ≤ x → ((a : ℕ) → from ≤ a → a < x → p a ≡ false) → p x ≡ true
    → those_below p (x + 1) ≡ those_below p from ++ x ∷ []
those-next p from x le none here =
    (let next : x + 1 ≡ suc x = omega arith in ap (λ n. those_below p n) next)
    ∙ ap (λ b. those_below p x ++ cond b (x ∷ []) []) here ∙ ap (λ xs. xs ++ x ∷ []) (those-rest p from x le none)

pub length-those : (p : ℕ → Bool) (n : ℕ) → length (those_below p n) ≡ count_below p n
length-those p zero = refl
length-those p (suc n) =
    let size = length-append (those_below p n) (cond (p n) (n ∷ []) []) in
    let rest = length-those p n in
    elim (cases_Bool (p n)) [
      | inl e ↦ (let one = one_at (p n) e in let last : length (cond (p n) (n ∷ []) []) ≡ 1 = ap (λ b. length (cond b (n ∷ []) [])) e in omega arith)
      | inr e ↦ (let none = none_at (p n) e in let last : length (cond (p n) (n ∷ []) []) ≡ 0 = ap (λ b. length (cond b (n ∷ []) [])) e in omega arith)
    ]

pub those-rise : (p : ℕ → Bool) (n : ℕ) → IsStrictlyIncreasing (those_below p n)
those-rise p zero = λ k lt. absurd (omega arith)
those-rise p (suc n) = elim (cases_Bool (p n)) [
  | inl e ↦ subst (λ b. IsStrictlyIncreasing (those_below p n ++ cond b (n ∷ []) [])) (sym e)
      (increasing-push n (those_below p n) (those-all p n) (those-rise p n))
  | inr e ↦ subst (λ b. IsStrictlyIncreasing (those_below p n ++ cond b (n ∷ []) [])) (sym e)
      (subst IsStrictlyIncreasing (sym (append-nil (those_below p n))) (those-rise p n))
]

-- a part of a list that grows stays, and what it grows by is its last part
pub slice-grown : (xs ys : List ℕ) (i j : ℕ) → i ≤ j → j ≤ length xs → slice_range (xs ++ ys) i j ≡ slice_range xs i j
slice-grown xs ys i j le within =
    ap (λ zs. take (j - i) zs) (drop-append-le i xs ys (omega arith))
    ∙ take-append-le (j - i) (drop i xs) ys (let size = length-drop i xs in omega arith)

pub slice-last : (xs ys : List ℕ) (i j : ℕ) → i ≡ length xs → j ≡ length xs + length ys → slice_range (xs ++ ys) i j ≡ ys
slice-last xs ys i j from to =
    ap (λ k. take (j - i) (drop k (xs ++ ys))) from ∙ ap (λ zs. take (j - i) zs) (drop-append_seam xs ys)
    ∙ (let size : j - i ≡ length ys = omega arith in ap (λ k. take k ys) size) ∙ take-length ys

-- of a row of bits, by its length as a number that isn't written out
those_at : (p : ℕ → Bool) (m : ℕ) → m ≡ 1024 → those_of p ≡ those_below p m
unfolding those_of
those_at p m e = ap (λ k. those_below p k) (sym e)

few_at : (p : ℕ → Bool) (m : ℕ) → m ≡ 1024 → length (those_of p) ≤ m
few_at p m e = let same = ap (λ xs. length xs) (those_at p m e) in let size = length-those p m in let le = count-le p m in omega arith

pub those_of-few : (p : ℕ → Bool) → length (those_of p) ≤ 1024
those_of-few p = few_at p 1024 refl

below_at : (p : ℕ → Bool) (n m : ℕ) → m ≡ 1024 → n ≤ m → ((a : ℕ) → n ≤ a → p a ≡ false) → those_of p ≡ those_below p n
below_at p n m e le none = those_at p m e ∙ those-rest p n m le (λ a at _. none a at)

pub those_of-below : (p : ℕ → Bool) (n : ℕ) → n ≤ 1024 → ((a : ℕ) → n ≤ a → p a ≡ false) → those_of p ≡ those_below p n
those_of-below p n le none = below_at p n 1024 refl le none

-- a bit of the row is set exactly where it is listed
pub listed-bits : (words : List ℕ) (x y : ℕ) → is_listed (those_of (is_set words x)) y ≡ is_set words x y
listed-bits words x y = at 1024 refl
  where
    at : (m : ℕ) → m ≡ 1024 → is_listed (those_of (is_set words x)) y ≡ is_set words x y
    at m e = ap (λ xs. is_listed xs y) (those_at (is_set words x) m e) ∙ listed-those (is_set words x) m y ∙ elim (cases_lt y m) [
      | inl lt ↦ ap (λ w. w && is_set words x y) (lt-ltb y m lt)
      | inr le ↦ ap (λ w. w && is_set words x y) (le-ltb y m le) ∙ sym (and_left (nat_lt y 1024) _ (le-ltb y 1024 (omega arith)))
    ]
