-- Lists that are made over a range of numbers, and places in lists.
use Rattle.std.proofs.Common.{ℕ, zero, suc, Bool, true, false, ◌≡◌, ◌<◌, ◌≤◌, ◌+◌, List, [], ◌∷◌, ◌++◌, length, set, take, get_or, refl, sym, ap, ◌∙◌, inl, inr, arith, append_assoc, add-zero, add-one, zero-add}
use Rattle.std.specs.Prelude.{filter, slice_get, position, Some, None}
use Rattle.std.specs.List.{flat_map, range_with_len, position_or_len, list_all}
use Rattle.std.proofs.lemmas.Bool.{cases_eq, cases_lt, lt-ltb, and_parts}
use Rattle.std.proofs.lemmas.List.Sums.{fails_before_first}
use Rattle.std.proofs.lemmas.List.{append-nil}

-- one number more
flat_map-more : {X : Type 0} (f : ℕ → List X) (n a : ℕ) → flat_map f (range_with_len a (n + 1)) ≡ flat_map f (range_with_len a n) ++ f (a + n)
flat_map-more f n a = rw (add-one n) (more f n a)
  where
    more : {X : Type 0} (f : ℕ → List X) (n a : ℕ) → flat_map f (range_with_len a (suc n)) ≡ flat_map f (range_with_len a n) ++ f (a + n)
    more f zero a = rw (append-nil (f a), add-zero a) refl
    more f (suc n) a =
        let later = more f n (a + 1) in
        let same : (a + 1) + n ≡ a + suc n = omega arith in
        rw (later, same) (sym (append_assoc (f a) (flat_map f (range_with_len (a + 1) n)) (f (a + suc n))))

pub flat_map-next : {X : Type 0} (f : ℕ → List X) (n : ℕ) → flat_map f (range_with_len 0 (n + 1)) ≡ flat_map f (range_with_len 0 n) ++ f n
flat_map-next f n = flat_map-more f n 0 ∙ ap (λ k. flat_map f (range_with_len 0 n) ++ f k) (zero-add n)

-- two functions that agree on the numbers
pub flat_map-same : {X : Type 0} (f g : ℕ → List X) (n a : ℕ) → ((k : ℕ) → a ≤ k → k < a + n → f k ≡ g k)
    → flat_map f (range_with_len a n) ≡ flat_map g (range_with_len a n)
flat_map-same f g zero a h = refl
flat_map-same f g (suc n) a h = rw (h a (omega arith) (omega arith), flat_map-same f g n (a + 1) (λ k low high. h k (omega arith) (omega arith))) refl

pub flat_map-none : {X : Type 0} (f : ℕ → List X) (n a : ℕ) → ((k : ℕ) → f k ≡ []) → flat_map f (range_with_len a n) ≡ []
flat_map-none f zero a h = refl
flat_map-none f (suc n) a h = rw (h a) (flat_map-none f n (a + 1) h)

-- two tests that agree on the numbers
pub filter-same : (f g : ℕ → Bool) (n a : ℕ) → ((k : ℕ) → a ≤ k → k < a + n → f k ≡ g k) → filter f (range_with_len a n) ≡ filter g (range_with_len a n)
filter-same f g zero a h = refl
filter-same f g (suc n) a h = rw (h a (omega arith) (omega arith), filter-same f g n (a + 1) (λ k low high. h k (omega arith) (omega arith))) refl

pub filter-none : (f : ℕ → Bool) (n a : ℕ) → ((k : ℕ) → a ≤ k → k < a + n → f k ≡ false) → filter f (range_with_len a n) ≡ []
filter-none f zero a h = refl
filter-none f (suc n) a h = rw (h a (omega arith) (omega arith)) (filter-none f n (a + 1) (λ k low high. h k (omega arith) (omega arith)))

-- the first number that passes comes first; behind it stand those that pass a test that refuses it alone
pub filter-first : (f g : ℕ → Bool) (n a i : ℕ) → a ≤ i → i < a + n → ((k : ℕ) → a ≤ k → k < i → f k ≡ false) → f i ≡ true → g i ≡ false
    → ((k : ℕ) → (k ≡ i → ⊥) → g k ≡ f k)
    → filter f (range_with_len a n) ≡ i ∷ filter g (range_with_len a n)
filter-first f g zero a i low high before here gone others = absurd (omega arith)
filter-first f g (suc n) a i low high before here gone others = elim (cases_eq a i) [
  | inl e ↦ (
      let fa : f a ≡ true = ap f e ∙ here in
      let ga : g a ≡ false = ap g e ∙ gone in
      let rest : filter f (range_with_len (a + 1) n) ≡ filter g (range_with_len (a + 1) n) =
      filter-same f g n (a + 1) (λ k klow khigh. sym (others k (λ same. omega arith))) in
      rw (fa, ga, rest, e) refl)
  | inr ne ↦ (
      let fa : f a ≡ false = before a (omega arith) (let apart : a ≡ i → ⊥ = ne in omega arith) in
      let ga : g a ≡ false = others a ne ∙ fa in
      rw (fa, ga) (filter-first f g n (a + 1) i (let apart : a ≡ i → ⊥ = ne in omega arith) (omega arith)
      (λ k klow khigh. before k (omega arith) khigh) here gone others))
]

pub get-set_here : {X : Type 0} (xs : List X) (i : ℕ) (x : X) → i < length xs → slice_get (set xs i x) i ≡ Some x
get-set_here [] i x lt = absurd (omega arith)
get-set_here (y ∷ ys) zero x lt = refl
get-set_here (y ∷ ys) (suc i) x lt = get-set_here ys i x (omega arith)

pub get-set_other : {X : Type 0} (xs : List X) (i k : ℕ) (x : X) → (k ≡ i → ⊥) → slice_get (set xs i x) k ≡ slice_get xs k
get-set_other [] i k x ne = refl
get-set_other (y ∷ ys) zero zero x ne = absurd (ne refl)
get-set_other (y ∷ ys) zero (suc k) x ne = refl
get-set_other (y ∷ ys) (suc i) zero x ne = refl
get-set_other (y ∷ ys) (suc i) (suc k) x ne = get-set_other ys i k x (λ same. ne (ap (λ n. suc n) same))

-- what a slice is written back as
pub refilled : {X : Type 0} (n : ℕ) (xs more : List X) → length xs ≡ n → take n (xs ++ more) ≡ xs
refilled n xs more e = ap (λ k. take k (xs ++ more)) (sym e) ∙ front xs more
  where
    front : {X : Type 0} (xs more : List X) → take (length xs) (xs ++ more) ≡ xs
    front [] more = refl
    front (x ∷ xs) more = ap (λ ys. x ∷ ys) (front xs more)

-- where no element passes, none does
pub none_before : {X : Type 0} (p : X → Bool) (xs : List X) (d : X) → position p xs ≡ None → (k : ℕ) → k < length xs → p (get_or xs k d) ≡ false
none_before p xs d e k lt = elim (cases_lt (position_or_len p xs) (length xs)) [
  | inl below ↦ let t = lt-ltb _ _ below in let e' = rw t at e in absurd (cc)
  | inr above ↦ fails_before_first p xs k d (omega arith)
]

-- past the end nothing is
pub nothing_past : {X : Type 0} (xs : List X) (i : ℕ) → slice_get xs i ≡ None → length xs ≤ i
nothing_past [] i none = omega arith
nothing_past (x ∷ xs) zero none = absurd (cc)
nothing_past (x ∷ xs) (suc i) none = (let past : length xs ≤ i = nothing_past xs i none in omega arith)

-- each element passes, where all do
pub all_at : {X : Type 0} (p : X → Bool) (xs : List X) (i : ℕ) (d : X) → list_all p xs ≡ true → i < length xs → p (get_or xs i d) ≡ true
all_at p [] i d all lt = absurd (omega arith)
all_at p (x ∷ xs) zero d all lt = (and_parts (p x) (list_all p xs) all).0
all_at p (x ∷ xs) (suc i) d all lt = all_at p xs i d (and_parts (p x) (list_all p xs) all).1 (omega arith)
