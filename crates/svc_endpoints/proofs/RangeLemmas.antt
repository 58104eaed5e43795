-- Tests over a range of numbers.
use Rattle.std.proofs.Common.{ℕ, Bool, true, false, zero, suc, ◌||◌, ◌&&◌, ◌==◌, inl, inr, List, [], ◌∷◌, ◌≡◌, refl, sym, ◌∙◌, subst, arith, ◌<◌, ◌≤◌, ◌+◌}
use Rattle.std.specs.List.{list_any, list_all, range_with_len}
use Rattle.std.proofs.lemmas.Bool.{cases_Bool, cases_eq, and_from, or_cases, or_left, or_right, eq-eqb, ne_eqb}

pub any-at : (f : ℕ → Bool) (a n k : ℕ) → a ≤ k → k < a + n → f k ≡ true → list_any f (range_with_len a n) ≡ true
any-at f a zero k low high h = absurd (omega arith)
any-at f a (suc n) k low high h = elim (cases_eq a k) [
  | inl e ↦ or_left (f a) (list_any f (range_with_len (a + 1) n)) (subst (λ x. f x ≡ true) (sym e) h)
  | inr ne ↦ or_right (f a) (list_any f (range_with_len (a + 1) n)) (any-at f (a + 1) n k (omega arith) (omega arith) h)
]

pub any-get : (f : ℕ → Bool) (a n : ℕ) → list_any f (range_with_len a n) ≡ true → (k : ℕ) × (a ≤ k) × (k < a + n) × (f k ≡ true)
any-get f a zero h = absurd (cc)
any-get f a (suc n) h = elim (or_cases (f a) (list_any f (range_with_len (a + 1) n)) h) [
  | inl here ↦ (a, omega arith, omega arith, here)
  | inr later ↦ (let r = any-get f (a + 1) n later in (r.0, omega (arith, r.1), omega (arith, r.2), r.3))
]

pub any-none : (f : ℕ → Bool) (a n : ℕ) → ((k : ℕ) → a ≤ k → k < a + n → f k ≡ false) → list_any f (range_with_len a n) ≡ false
any-none f a zero h = refl
any-none f a (suc n) h = rw (h a (omega arith) (omega arith)) (any-none f (a + 1) n (λ k low high. h k (omega arith) (omega arith)))

pub any-grows : (f g : ℕ → Bool) (xs : List ℕ) → ((k : ℕ) → f k ≡ true → g k ≡ true) → list_any f xs ≡ true → list_any g xs ≡ true
any-grows f g [] grow h = h
any-grows f g (x ∷ xs) grow h = elim (or_cases (f x) (list_any f xs) h) [
  | inl here ↦ or_left (g x) (list_any g xs) (grow x here)
  | inr later ↦ or_right (g x) (list_any g xs) (any-grows f g xs grow later)
]

or_one : (fa ga c l m : Bool) → ga ≡ (fa || c) → m ≡ l → (ga || m) ≡ ((fa || l) || c)
or_one fa ga c l m e h = grind arith

or_more : (fa ga c l m : Bool) → ga ≡ (fa || (false && c)) → m ≡ (l || c) → (ga || m) ≡ ((fa || l) || c)
or_more fa ga c l m e h = grind arith

pub any-same : (f g : ℕ → Bool) (a n : ℕ) → ((k : ℕ) → a ≤ k → k < a + n → g k ≡ f k) → list_any g (range_with_len a n) ≡ list_any f (range_with_len a n)
any-same f g a zero h = refl
any-same f g a (suc n) h = rw (h a (omega arith) (omega arith), any-same f g (a + 1) n (λ k low high. h k (omega arith) (omega arith))) refl

-- the test changes at one place alone
pub any-one : (f g : ℕ → Bool) (c : Bool) (a n i : ℕ) → a ≤ i → i < a + n → ((k : ℕ) → a ≤ k → k < a + n → g k ≡ (f k || ((i == k) && c)))
    → list_any g (range_with_len a n) ≡ (list_any f (range_with_len a n) || c)
any-one f g c a zero i low high h = absurd (omega arith)
any-one f g c a (suc n) i low high h = elim (cases_eq i a) [
  | inl e ↦ or_one (f a) (g a) c (list_any f (range_with_len (a + 1) n)) (list_any g (range_with_len (a + 1) n))
      (subst (λ b. g a ≡ (f a || (b && c))) (eq-eqb i a e) (h a (omega arith) (omega arith)))
      (any-same f g (a + 1) n (λ k klow khigh. elim (cases_Bool (f k)) [
        | inl y ↦ h k (omega arith) (omega arith) ∙ (rw (ne_eqb i k (λ x. omega arith)) (rw y refl))
        | inr n ↦ h k (omega arith) (omega arith) ∙ (rw (ne_eqb i k (λ x. omega arith)) (rw n refl))
      ]))
  | inr ne ↦ or_more (f a) (g a) c (list_any f (range_with_len (a + 1) n)) (list_any g (range_with_len (a + 1) n))
      (subst (λ b. g a ≡ (f a || (b && c))) (ne_eqb i a ne) (h a (omega arith) (omega arith)))
      (any-one f g c (a + 1) n i (omega arith) (omega arith) (λ k klow khigh. h k (omega arith) (omega arith)))
]

-- the same from 0 on
pub at0 : (f : ℕ → Bool) (n k : ℕ) → k < n → f k ≡ true → list_any f (range_with_len 0 n) ≡ true
at0 f n k lt h = any-at f 0 n k (omega arith) (omega arith) h

pub get0 : (f : ℕ → Bool) (n : ℕ) → list_any f (range_with_len 0 n) ≡ true → (k : ℕ) × (k < n) × (f k ≡ true)
get0 f n h = let r = any-get f 0 n h in (r.0, omega (arith, r.2), r.3)

pub none0 : (f : ℕ → Bool) (n : ℕ) → ((k : ℕ) → k < n → f k ≡ false) → list_any f (range_with_len 0 n) ≡ false
none0 f n h = any-none f 0 n (λ k low high. h k (omega arith))

pub same0 : (f g : ℕ → Bool) (n : ℕ) → ((k : ℕ) → k < n → g k ≡ f k) → list_any g (range_with_len 0 n) ≡ list_any f (range_with_len 0 n)
same0 f g n h = any-same f g 0 n (λ k low high. h k (omega arith))

pub one0 : (f g : ℕ → Bool) (c : Bool) (n i : ℕ) → i < n → ((k : ℕ) → g k ≡ (f k || ((i == k) && c)))
    → list_any g (range_with_len 0 n) ≡ (list_any f (range_with_len 0 n) || c)
one0 f g c n i lt h = any-one f g c 0 n i (omega arith) (omega arith) (λ k low high. h k)

pub more_false : (f : ℕ → Bool) (n : ℕ) → ((j : ℕ) → j < n → f j ≡ false) → f n ≡ false → (j : ℕ) → j < n + 1 → f j ≡ false
more_false f n h here j lt = elim (cases_eq j n) [
  | inl e ↦ subst (λ x. f x ≡ false) (sym e) here
  | inr ne ↦ h j (omega arith)
]

fails-at : (f : ℕ → Bool) (a n k : ℕ) → a ≤ k → k < a + n → f k ≡ false → list_all f (range_with_len a n) ≡ false
fails-at f a zero k low high h = absurd (omega arith)
fails-at f a (suc n) k low high h = elim (cases_eq a k) [
  | inl e ↦ (let here : f a ≡ false = subst (λ x. f x ≡ false) (sym e) h in rw here refl)
  | inr ne ↦ elim (cases_Bool (f a)) [
    | inl y ↦ rw y (fails-at f (a + 1) n k (omega arith) (omega arith) h)
    | inr m ↦ rw m refl
  ]
]

pub fails0 : (f : ℕ → Bool) (n k : ℕ) → k < n → f k ≡ false → list_all f (range_with_len 0 n) ≡ false
fails0 f n k lt h = fails-at f 0 n k (omega arith) (omega arith) h

pub more_true : (f : ℕ → Bool) (n : ℕ) → ((j : ℕ) → j < n → f j ≡ true) → f n ≡ true → (j : ℕ) → j < n + 1 → f j ≡ true
more_true f n h here j lt = elim (cases_eq j n) [
  | inl e ↦ subst (λ x. f x ≡ true) (sym e) here
  | inr ne ↦ h j (omega arith)
]

all_range : (f : ℕ → Bool) (a n : ℕ) → ((k : ℕ) → a ≤ k → k < a + n → f k ≡ true) → list_all f (range_with_len a n) ≡ true
all_range f a zero h = refl
all_range f a (suc n) h =
    and_from (f a) (list_all f (range_with_len (a + 1) n)) (h a (omega arith) (omega arith))
    (all_range f (a + 1) n (λ k low high. h k (omega arith) (omega arith)))

pub all0 : (f : ℕ → Bool) (n : ℕ) → ((k : ℕ) → k < n → f k ≡ true) → list_all f (range_with_len 0 n) ≡ true
all0 f n h = all_range f 0 n (λ k low high. h k (omega arith))
