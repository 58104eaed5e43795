-- Lists of numbers in ascending order, and without doubles.
use Rattle.std.proofs.Common.{ℕ, Bool, true, false, ◌||◌, ◌&&◌, not, ◌==◌, inl, inr, List, [], ◌∷◌, ◌≡◌, refl, ap, sym, ◌∙◌, arith, ◌+◌, length, if◌then◌else◌, filter, nat_lt}
use Rattle.std.specs.List.{list_any, list_all}
use Rattle.std.proofs.lemmas.Bool.{eq-eqb, ne_eqb, and_parts, and_from, or_parts, or_cases, or_left, or_right, cases_Bool}
use Rattle.svc_base.specs.Blocks.{put_by}
use Rattle.svc_base.specs.NumberSets.{is_in, distinct, put_number, ascending}
use Rattle.svc_base.proofs.KeyLemmas.{all-weaker}
use Rattle.svc_base.proofs.Logic.{not_in, apart_from}

or_swap : (a b c : Bool) → (b || (a || c)) ≡ (a || (b || c))
or_swap a b c = grind arith

pub any-put : (test : ℕ → Bool) (n : ℕ) (xs : List ℕ) → list_any test (put_number n xs) ≡ (test n || list_any test xs)
any-put test n [] = refl
any-put test n (m ∷ more) = elim (cases_Bool (nat_lt n m)) [
  | inl below ↦ rw below refl
  | inr above ↦ rw above (ap (λ b. test m || b) (any-put test n more) ∙ or_swap (test n) (test m) (list_any test more))
]

pub any-ascending : (test : ℕ → Bool) (xs : List ℕ) → list_any test (ascending xs) ≡ list_any test xs
any-ascending test [] = refl
any-ascending test (n ∷ more) = any-put test n (ascending more) ∙ ap (λ b. test n || b) (any-ascending test more)

pub distinct-put : (n : ℕ) (xs : List ℕ) → is_in n xs ≡ false → distinct xs ≡ true → distinct (put_number n xs) ≡ true
distinct-put n [] none h = refl
distinct-put n (m ∷ more) none h = elim (cases_Bool (nat_lt n m)) [
  | inl below ↦ rw below (and_from (not (is_in n (m ∷ more))) (distinct (m ∷ more)) (not_in (is_in n (m ∷ more)) none) h)
  | inr above ↦ (let apart = or_parts (m == n) (is_in n more) none in
      let parts = and_parts (not (is_in m more)) (distinct more) h in
      let ne : (n == m) ≡ false = ne_eqb n m (λ e. let k = eq-eqb m n (sym e) in let f = apart.0 in cc) in
      let clear : is_in m (put_number n more) ≡ false = any-put (λ x. x == m) n more ∙ (rw (ne, apart_from (is_in m more) parts.0) refl) in
      rw above (and_from (not (is_in m (put_number n more))) (distinct (put_number n more)) (not_in (is_in m (put_number n more)) clear)
      (distinct-put n more apart.1 parts.1)))
]

pub distinct-ascending : (xs : List ℕ) → distinct xs ≡ true → distinct (ascending xs) ≡ true
distinct-ascending [] h = refl
distinct-ascending (n ∷ more) h =
    let parts = and_parts (not (is_in n more)) (distinct more) h in
    distinct-put n (ascending more) (any-ascending (λ x. x == n) more ∙ apart_from (is_in n more) parts.0) (distinct-ascending more parts.1)

-- the same as one more entry in ascending key
pub put-is : (n : ℕ) (xs : List ℕ) → put_by (λ (m : ℕ). m) n xs ≡ put_number n xs
put-is n [] = refl
put-is n (m ∷ more) = elim (cases_Bool (nat_lt n m)) [
  | inl below ↦ rw below refl
  | inr above ↦ rw above (ap (λ xs. m ∷ xs) (put-is n more))
]

pub length-put : (n : ℕ) (xs : List ℕ) → length (put_number n xs) ≡ length xs + 1
length-put n [] = refl
length-put n (m ∷ more) = elim (cases_Bool (nat_lt n m)) [
  | inl below ↦ rw below (omega arith)
  | inr above ↦ rw above (let h = length-put n more in omega arith)
]

-- each number is at least the one before it
abbrev pub rises : List ℕ → Bool
rises [] = true
rises (n ∷ more) = list_all (λ m. not (nat_lt m n)) more && rises more

pub all-grows : (f g : ℕ → Bool) (xs : List ℕ) → ((k : ℕ) → f k ≡ true → g k ≡ true) → list_all f xs ≡ true → list_all g xs ≡ true
all-grows f g xs grow h = all-weaker f g xs grow h

and_swap : (a b c : Bool) → (b && (a && c)) ≡ (a && (b && c))
and_swap a b c = grind arith

all-put : (test : ℕ → Bool) (n : ℕ) (xs : List ℕ) → list_all test (put_number n xs) ≡ (test n && list_all test xs)
all-put test n [] = refl
all-put test n (m ∷ more) = elim (cases_Bool (nat_lt n m)) [
  | inl below ↦ rw below refl
  | inr above ↦ rw above (ap (λ b. test m && b) (all-put test n more) ∙ and_swap (test n) (test m) (list_all test more))
]

not_below : (n m : ℕ) → nat_lt n m ≡ true → not (nat_lt m n) ≡ true
not_below n m h = grind arith

not_under : (n m k : ℕ) → nat_lt n m ≡ true → not (nat_lt k m) ≡ true → not (nat_lt k n) ≡ true
not_under n m k h g = grind arith

above_all : (n m k : ℕ) → nat_lt n m ≡ true → not (nat_lt k m) ≡ true → nat_lt n k ≡ true
above_all n m k h g = grind arith

pub rises-put : (n : ℕ) (xs : List ℕ) → rises xs ≡ true → rises (put_number n xs) ≡ true
rises-put n [] h = refl
rises-put n (m ∷ more) h =
    let parts = and_parts (list_all (λ k. not (nat_lt k m)) more) (rises more) h in
    elim (cases_Bool (nat_lt n m)) [
      | inl below ↦ rw below (and_from (list_all (λ k. not (nat_lt k n)) (m ∷ more)) (rises (m ∷ more))
          (and_from (not (nat_lt m n)) (list_all (λ k. not (nat_lt k n)) more) (not_below n m below)
          (all-grows (λ k. not (nat_lt k m)) (λ k. not (nat_lt k n)) more (λ k g. not_under n m k below g) parts.0)) h)
      | inr above ↦ rw above (and_from (list_all (λ k. not (nat_lt k m)) (put_number n more)) (rises (put_number n more))
          (all-put (λ k. not (nat_lt k m)) n more ∙ and_from (not (nat_lt n m)) (list_all (λ k. not (nat_lt k m)) more) (not_in (nat_lt n m) above) parts.0)
          (rises-put n more parts.1))
    ]

pub rises-ascending : (xs : List ℕ) → rises (ascending xs) ≡ true
rises-ascending [] = refl
rises-ascending (n ∷ more) = rises-put n (ascending more) (rises-ascending more)

pub all-filter : (test f : ℕ → Bool) (xs : List ℕ) → list_all test xs ≡ true → list_all test (filter f xs) ≡ true
all-filter test f [] h = refl
all-filter test f (x ∷ xs) h = let parts = and_parts (test x) (list_all test xs) h in elim (cases_Bool (f x)) [
  | inl y ↦ rw y (and_from (test x) (list_all test (filter f xs)) parts.0 (all-filter test f xs parts.1))
  | inr n ↦ rw n (all-filter test f xs parts.1)
]

put-first : (n : ℕ) (xs : List ℕ) → list_all (λ k. nat_lt n k) xs ≡ true → put_number n xs ≡ n ∷ xs
put-first n [] h = refl
put-first n (m ∷ more) h = let parts = and_parts (nat_lt n m) (list_all (λ k. nat_lt n k) more) h in rw parts.0 refl

-- what is left of a list that rises is in order
filter-put : (f : ℕ → Bool) (n : ℕ) (xs : List ℕ) → rises xs ≡ true → filter f (put_number n xs) ≡ (if f n then put_number n (filter f xs) else filter f xs)
filter-put f n [] h = refl
filter-put f n (m ∷ more) h =
    let parts = and_parts (list_all (λ k. not (nat_lt k m)) more) (rises more) h in
    elim (cases_Bool (nat_lt n m)) [
      | inl below ↦
          (let over : list_all (λ k. nat_lt n k) (m ∷ more) ≡ true =
          and_from (nat_lt n m) (list_all (λ k. nat_lt n k) more) below
          (all-grows (λ k. not (nat_lt k m)) (λ k. nat_lt n k) more (λ k g. above_all n m k below g) parts.0) in
          let front = put-first n (filter f (m ∷ more)) (all-filter (λ k. nat_lt n k) f (m ∷ more) over) in
          rw below (elim (cases_Bool (f n)) [ inl y ↦ rw y (sym front) | inr out ↦ rw out refl ]))
      | inr above ↦ (let ih = filter-put f n more parts.1 in
          rw above (elim (cases_Bool (f m)) [
            | inl y ↦ elim (cases_Bool (f n)) [
              | inl z ↦ rw (y, z, above) (ap (λ w. m ∷ w) (ih ∙ (rw z refl)))
              | inr out ↦ rw (y, out) (ap (λ w. m ∷ w) (ih ∙ (rw out refl)))
            ]
            | inr off ↦ rw off ih
          ]))
    ]

pub filter-ascending : (f : ℕ → Bool) (xs : List ℕ) → filter f (ascending xs) ≡ ascending (filter f xs)
filter-ascending f [] = refl
filter-ascending f (n ∷ more) =
    filter-put f n (ascending more) (rises-ascending more) ∙ ap (λ w. if f n then put_number n w else w) (filter-ascending f more) ∙ elim (cases_Bool (f n)) [
      | inl y ↦ rw y refl
      | inr out ↦ rw out refl
    ]

pub in-filter : (g : ℕ) (f : ℕ → Bool) (xs : List ℕ) → is_in g (filter f xs) ≡ true → is_in g xs ≡ true
in-filter g f [] h = h
in-filter g f (x ∷ xs) h = elim (cases_Bool (f x)) [
  | inl y ↦ elim (or_cases (x == g) (is_in g (filter f xs)) (rw y at h)) [
    | inl here ↦ or_left (x == g) (is_in g xs) here
    | inr later ↦ or_right (x == g) (is_in g xs) (in-filter g f xs later)
  ]
  | inr n ↦ or_right (x == g) (is_in g xs) (in-filter g f xs (rw n at h))
]
