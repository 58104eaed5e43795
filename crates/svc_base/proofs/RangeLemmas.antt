-- Numbers, kept as ranges.
use Rattle.std.proofs.Common.{ℕ, zero, suc, Bool, true, false, ◌||◌, ◌&&◌, ◌==◌, inl, inr, List, [], ◌∷◌, ◌++◌, ◌≡◌, refl, ap, sym, ◌∙◌, subst, arith, ◌+◌, ◌-◌, ◌<◌, ◌≤◌, ◌^◌, length, nat_lt, nat_le, if◌then◌else◌, append_assoc, Option, Some, None}
use Rattle.std.specs.Bool.{OnTrue, OnFalse}
use Rattle.std.specs.List.{list_all, list_any}
use Rattle.std.proofs.lemmas.Bool.{and_parts, and_from, or_parts, cases_Bool, ltb-true, lt-ltb, le-ltb, leb-true, le-leb, eqb-true, ne_eqb, eq-eqb}
use Rattle.std.proofs.lemmas.List.Folds.{list_any-append}
use Rattle.svc_base.specs.declared.number_ranges.NumberRange.{NumberRange}
use Rattle.svc_base.specs.Blocks.{put_by, has_key, is_over, StandsIn, StandsLast}
use Rattle.svc_base.specs.NumberSets.{is_in, put_number}
use Rattle.svc_base.specs.NumberRanges.{first_of, range, count_up, span, numbers_of, are_apart, AreRanges, last_from, without_next, attached, ends_at, EndsBefore, begins_with, stretches}
use Rattle.svc_base.proofs.KeyLemmas.{all-both, all-mid, all-weaker}
use Rattle.svc_base.proofs.Logic.{clash, neither}

-- a range holds the number
abbrev holds : ℕ → NumberRange → Bool
holds n r = nat_le r.first n && nat_le n r.last

-- so many numbers from f on
count-none : (n f : ℕ) → false ≡ (nat_le f n && nat_lt n (f + 0))
count-none n f = grind arith

count-more : (n f k : ℕ) → ((f == n) || (nat_le (f + 1) n && nat_lt n (f + 1 + k))) ≡ (nat_le f n && nat_lt n (f + suc k))
count-more n f k = grind arith

count-in : (n f k : ℕ) → is_in n (count_up f k) ≡ (nat_le f n && nat_lt n (f + k))
count-in n f zero = count-none n f
count-in n f (suc k) = ap (λ b. (f == n) || b) (count-in n (f + 1) k) ∙ count-more n f k

count-join : (f j k : ℕ) → count_up f (j + k) ≡ count_up f j ++ count_up (f + j) k
count-join f zero k =
    let a : 0 + k ≡ k = omega arith in
    let b : f + 0 ≡ f = omega arith in
    ap (count_up f) a ∙ ap (λ (n : ℕ). count_up n k) (sym b)
count-join f (suc j) k =
    let a : suc j + k ≡ suc (j + k) = omega arith in
    let b : f + 1 + j ≡ f + suc j = omega arith in
    ap (count_up f) a ∙ ap (λ (ns : List ℕ). f ∷ ns) (count-join (f + 1) j k ∙ ap (λ (n : ℕ). count_up (f + 1) j ++ count_up n k) b)

count-over : (n f k : ℕ) → n < f → list_all (λ m. nat_lt n m) (count_up f k) ≡ true
count-over n f zero lt = refl
count-over n f (suc k) lt = and_from (nat_lt n f) (list_all (λ m. nat_lt n m) (count_up (f + 1) k)) (lt-ltb n f lt) (count-over n (f + 1) k (omega arith))

-- one more number goes behind those that are less, and before those that are more
past-put : (n f k : ℕ) (xs : List ℕ) → f + k ≤ n → put_number n (count_up f k ++ xs) ≡ count_up f k ++ put_number n xs
past-put n f zero xs le = refl
past-put n f (suc k) xs le =
    let up : nat_lt n f ≡ false = le-ltb n f (omega arith) in
    rw up (ap (λ (ns : List ℕ). f ∷ ns) (past-put n (f + 1) k xs (omega arith)))

front-put : (n : ℕ) (xs : List ℕ) → list_all (λ m. nat_lt n m) xs ≡ true → put_number n xs ≡ n ∷ xs
front-put n [] h = refl
front-put n (m ∷ xs) h = rw ((and_parts (nat_lt n m) (list_all (λ m. nat_lt n m) xs) h).0) refl

-- the numbers of a range
span-first : (f l : ℕ) → f ≤ l → span (range f l) ≡ f ∷ span (range (f + 1) l)
span-first f l le =
    let a : l + 1 - f ≡ suc (l + 1 - (f + 1)) = omega arith in ap (count_up f) a

span-one : (n : ℕ) → span (range n n) ≡ n ∷ []
span-one n = let a : n + 1 - n ≡ 1 = omega arith in ap (count_up n) a

span-join : (f m n l : ℕ) → f ≤ m → m + 1 ≡ n → n ≤ l → span (range f l) ≡ span (range f m) ++ span (range n l)
span-join f m n l le e ge =
    let a : l + 1 - f ≡ m + 1 - f + (l + 1 - n) = omega arith in
    let b : f + (m + 1 - f) ≡ n = omega arith in
    ap (count_up f) a ∙ count-join f (m + 1 - f) (l + 1 - n) ∙ ap (λ (k : ℕ). span (range f m) ++ count_up k (l + 1 - n)) b

span-in : (n : ℕ) (r : NumberRange) → is_in n (span r) ≡ holds n r
span-in n r = count-in n r.first (r.last + 1 - r.first) ∙ same n r.first r.last
  where
    same : (n f l : ℕ) → (nat_le f n && nat_lt n (f + (l + 1 - f))) ≡ (nat_le f n && nat_le n l)
    same n f l = grind arith

-- the parts of what is said of ranges
record Parts (r : NumberRange) (more : List NumberRange) : Type 0 where
  sorted : r.first ≤ r.last
  gap : list_all (λ s. nat_lt (r.last + 1) s.first) more ≡ true
  apart : are_apart more ≡ true

parts-of : (r : NumberRange) (more : List NumberRange) → are_apart (r ∷ more) ≡ true → Parts r more
parts-of r more h =
    let both = and_parts (nat_le r.first r.last) (list_all (λ s. nat_lt (r.last + 1) s.first) more && are_apart more) h in
    let rest = and_parts (list_all (λ s. nat_lt (r.last + 1) s.first) more) (are_apart more) both.1 in
    record { sorted = leb-true r.first r.last both.0; gap = rest.0; apart = rest.1 }

from-parts : (r : NumberRange) (more : List NumberRange) → Parts r more → are_apart (r ∷ more) ≡ true
from-parts r more p = and_from (nat_le r.first r.last) (list_all (λ s. nat_lt (r.last + 1) s.first) more && are_apart more)
    (le-leb r.first r.last p.sorted) (and_from (list_all (λ s. nat_lt (r.last + 1) s.first) more) (are_apart more) p.gap p.apart)

over-weaker : (m n : ℕ) (xs : List NumberRange) → n ≤ m → list_all (λ s. nat_lt m s.first) xs ≡ true → list_all (λ s. nat_lt n s.first) xs ≡ true
over-weaker m n xs le h = all-weaker (λ (s : NumberRange). nat_lt m s.first) (λ (s : NumberRange). nat_lt n s.first) xs
    (λ s g. let k = ltb-true m s.first g in lt-ltb n s.first (omega arith)) h

numbers-over : (n : ℕ) (xs : List NumberRange) → list_all (λ s. nat_lt n s.first) xs ≡ true → list_all (λ m. nat_lt n m) (numbers_of xs) ≡ true
numbers-over n [] h = refl
numbers-over n (r ∷ more) h =
    let parts = and_parts (nat_lt n r.first) (list_all (λ s. nat_lt n s.first) more) h in
    all-both (λ m. nat_lt n m) (span r) (numbers_of more) (count-over n r.first (r.last + 1 - r.first) (ltb-true n r.first parts.0))
    (numbers-over n more parts.1)

-- a number is among them where a range holds it
numbers-in : (n : ℕ) (xs : List NumberRange) → is_in n (numbers_of xs) ≡ list_any (holds n) xs
numbers-in n [] = refl
numbers-in n (r ∷ more) =
    list_any-append (λ m. m == n) (span r) (numbers_of more) ∙ ap (λ b. b || is_in n (numbers_of more)) (span-in n r)
    ∙ ap (λ b. holds n r || b) (numbers-in n more)

none-holds : (n : ℕ) (xs : List NumberRange) → list_all (λ s. nat_lt n s.first) xs ≡ true → list_any (holds n) xs ≡ false
none-holds n [] h = refl
none-holds n (r ∷ more) h =
    let parts = and_parts (nat_lt n r.first) (list_all (λ s. nat_lt n s.first) more) h in
    neither (holds n r) (list_any (holds n) more) (outside n r.first r.last parts.0) (none-holds n more parts.1)
  where
    outside : (n f l : ℕ) → nat_lt n f ≡ true → (nat_le f n && nat_le n l) ≡ false
    outside n f l h = grind arith

last-holds : (n : ℕ) (front : List NumberRange) (x : NumberRange) (back : List NumberRange) → are_apart (front ++ x ∷ back) ≡ true → x.first ≤ n
    → list_all (λ s. nat_lt n s.first) back ≡ true → list_any (holds n) (front ++ x ∷ back) ≡ nat_le n x.last
last-holds n [] x back h le over =
    ap (λ b. holds n x || b) (none-holds n back over) ∙ same n x.first x.last le
  where
    same : (n f l : ℕ) → f ≤ n → ((nat_le f n && nat_le n l) || false) ≡ nat_le n l
    same n f l le = grind arith
last-holds n (r ∷ front) x back h le over =
    let p = parts-of r (front ++ x ∷ back) h in
    let lt = ltb-true (r.last + 1) x.first (all-mid (λ (s : NumberRange). nat_lt (r.last + 1) s.first) front x back p.gap) in
    ap (λ b. b || list_any (holds n) (front ++ x ∷ back)) (outside n r.first r.last (omega arith)) ∙ last-holds n front x back p.apart le over
  where
    outside : (n f l : ℕ) → l < n → (nat_le f n && nat_le n l) ≡ false
    outside n f l h = grind arith

pub found-in : (n : ℕ) (xs : List NumberRange) (x : NumberRange) → are_apart xs ≡ true → StandsLast first_of n xs x
    → nat_le n x.last ≡ is_in n (numbers_of xs)
found-in n xs x h s =
    sym (numbers-in n xs ∙ ap (list_any (holds n)) s.is ∙ last-holds n s.front x s.back (ap are_apart (sym s.is) ∙ h) s.most s.above)

pub absent-in : (n : ℕ) (xs : List NumberRange) → is_over first_of n xs ≡ true → false ≡ is_in n (numbers_of xs)
absent-in n xs h = sym (numbers-in n xs ∙ none-holds n xs h)

-- where all begin behind n + 1, none begins there
next-none : (n : ℕ) (xs : List NumberRange) → list_all (λ s. nat_lt (n + 1) s.first) xs ≡ true → (last_from n xs ≡ n) × (without_next n xs ≡ xs)
next-none n [] h = (refl, refl)
next-none n (r ∷ more) h =
    let parts = and_parts (nat_lt (n + 1) r.first) (list_all (λ s. nat_lt (n + 1) s.first) more) h in
    let lt = ltb-true (n + 1) r.first parts.0 in
    let ne : (r.first == n + 1) ≡ false = ne_eqb r.first (n + 1) (λ e. omega arith) in
    let rest = next-none n more parts.1 in
    (rw ne (rest.0), rw ne (ap (λ (xs : List NumberRange). r ∷ xs) rest.1))

-- a range that begins before all others goes to the front
attached-front : (x : NumberRange) (xs : List NumberRange) → list_all (λ s. nat_lt x.first s.first) xs ≡ true → are_apart xs ≡ true → attached x xs ≡ x ∷ xs
attached-front x [] h apart = refl
attached-front x (r ∷ more) h apart =
    let p = parts-of r more apart in
    let parts = and_parts (nat_lt x.first r.first) (list_all (λ s. nat_lt x.first s.first) more) h in
    let lt = ltb-true x.first r.first parts.0 in
    let sorted = p.sorted in
    let ne : (r.last + 1 == x.first) ≡ false = ne_eqb (r.last + 1) x.first (λ e. omega arith) in
    rw (ne, parts.0) refl

-- the ranges with one more number
abbrev pub with_number : ℕ → List NumberRange → List NumberRange
with_number n xs = attached (range n (last_from n xs)) (without_next n xs)

-- behind n, the number joins the range that begins right behind it
record Joined (n : ℕ) (xs : List NumberRange) : Type 0 where
  numbers : span (range n (last_from n xs)) ++ numbers_of (without_next n xs) ≡ n ∷ numbers_of xs
  apart : Parts (range n (last_from n xs)) (without_next n xs)

joined-here : (n : ℕ) (r : NumberRange) (more : List NumberRange) → are_apart (r ∷ more) ≡ true → r.first ≡ n + 1
    → (span (range n r.last) ++ numbers_of more ≡ n ∷ numbers_of (r ∷ more)) × Parts (range n r.last) more
joined-here n r more h e =
    let p = parts-of r more h in
    let sorted = p.sorted in (
      ap (λ (ns : List ℕ). ns ++ numbers_of more)
          (span-first n r.last (omega arith) ∙ ap (λ (f : ℕ). n ∷ span (range f r.last)) (sym e)),
      record { sorted = omega arith; gap = p.gap; apart = p.apart },
    )

joined-alone : (n : ℕ) (xs : List NumberRange) → are_apart xs ≡ true → list_all (λ s. nat_lt (n + 1) s.first) xs ≡ true → Joined n xs
joined-alone n xs h over =
    let none = next-none n xs over in
    record {
      numbers = ap (λ (m : ℕ). span (range n m) ++ numbers_of (without_next n xs)) none.0
          ∙ ap (λ (rs : List NumberRange). span (range n n) ++ numbers_of rs) none.1
          ∙ ap (λ (ns : List ℕ). ns ++ numbers_of xs) (span-one n);
      apart = subst (λ (m : ℕ). Parts (range n m) (without_next n xs)) (sym none.0)
          (subst (λ (rs : List NumberRange). Parts (range n n) rs) (sym none.1) (record { sorted = omega arith; gap = over; apart = h }));
    }

joined-next : (n : ℕ) (xs : List NumberRange) → are_apart xs ≡ true → list_all (λ s. nat_lt n s.first) xs ≡ true → Joined n xs
joined-next n [] h over = joined-alone n [] h refl
joined-next n (r ∷ more) h over = elim (cases_Bool (r.first == n + 1)) [
  | inl here ↦ (let both = joined-here n r more h (eqb-true r.first (n + 1) here) in record {
    numbers = rw here both.0;
    apart = rw here both.1;
  })
  | inr other ↦ (let p = parts-of r more h in
      let parts = and_parts (nat_lt n r.first) (list_all (λ s. nat_lt n s.first) more) over in
      let up = behind n r.first parts.0 other in
      let lt = ltb-true (n + 1) r.first up in
      let sorted = p.sorted in
      joined-alone n (r ∷ more) h
      (and_from (nat_lt (n + 1) r.first) (list_all (λ s. nat_lt (n + 1) s.first) more) up (over-weaker (r.last + 1) (n + 1) more (omega arith) p.gap)))
]
  where
    behind : (n f : ℕ) → nat_lt n f ≡ true → (f == n + 1) ≡ false → nat_lt (n + 1) f ≡ true
    behind n f h g = grind arith

-- what begins behind the number before is left so
next-keeps : (p : ℕ → Bool) (n : ℕ) (xs : List NumberRange) → list_all (λ s. p s.first) xs ≡ true → list_all (λ s. p s.first) (without_next n xs) ≡ true
next-keeps p n [] h = refl
next-keeps p n (r ∷ more) h =
    let parts = and_parts (p r.first) (list_all (λ s. p s.first) more) h in
    elim (cases_Bool (r.first == n + 1)) [
      | inl here ↦ rw here parts.1
      | inr other ↦ rw other (and_from (p r.first) (list_all (λ s. p s.first) (without_next n more)) parts.0 (next-keeps p n more parts.1))
    ]

attached-keeps : (p : ℕ → Bool) (x : NumberRange) (xs : List NumberRange) → p x.first ≡ true → list_all (λ s. p s.first) xs ≡ true
    → list_all (λ s. p s.first) (attached x xs) ≡ true
attached-keeps p x [] one h = and_from (p x.first) true one refl
attached-keeps p x (r ∷ more) one h =
    let parts = and_parts (p r.first) (list_all (λ s. p s.first) more) h in
    elim (cases_Bool (r.last + 1 == x.first)) [
      | inl joins ↦ rw joins h
      | inr other ↦ elim (cases_Bool (nat_lt x.first r.first)) [
        | inl before ↦ rw (other, before) (and_from (p x.first) (list_all (λ s. p s.first) (r ∷ more)) one h)
        | inr behind ↦ rw (other, behind)
            (and_from (p r.first) (list_all (λ s. p s.first) (attached x more)) parts.0 (attached-keeps p x more one parts.1))
      ]
    ]

with-keeps : (p : ℕ → Bool) (n : ℕ) (xs : List NumberRange) → p n ≡ true → list_all (λ s. p s.first) xs ≡ true
    → list_all (λ s. p s.first) (with_number n xs) ≡ true
with-keeps p n xs one h = attached-keeps p (range n (last_from n xs)) (without_next n xs) one (next-keeps p n xs h)

-- the ranges with one more number have it, and stay apart
record With (n : ℕ) (xs : List NumberRange) : Type 0 where
  numbers : numbers_of (with_number n xs) ≡ put_number n (numbers_of xs)
  apart : are_apart (with_number n xs) ≡ true

-- before the first range, or joined to it
with-front : (n : ℕ) (r : NumberRange) (more : List NumberRange) → are_apart (r ∷ more) ≡ true → nat_lt n r.first ≡ true → With n (r ∷ more)
with-front n r more h before =
    let p = parts-of r more h in
    let sorted = p.sorted in
    let lt = ltb-true n r.first before in
    let over = and_from (nat_lt n r.first) (list_all (λ s. nat_lt n s.first) more) before (over-weaker (r.last + 1) n more (omega arith) p.gap) in
    let j = joined-next n (r ∷ more) h over in
    let front = attached-front (range n (last_from n (r ∷ more))) (without_next n (r ∷ more)) (next-keeps (nat_lt n) n (r ∷ more) over) j.apart.apart in
    record {
      numbers = ap numbers_of front ∙ j.numbers ∙ sym (front-put n (numbers_of (r ∷ more)) (numbers-over n (r ∷ more) over));
      apart = ap are_apart front ∙ from-parts (range n (last_from n (r ∷ more))) (without_next n (r ∷ more)) j.apart;
    }

-- joined to the range that ends right before it
with-joined : (n : ℕ) (r : NumberRange) (more : List NumberRange) → are_apart (r ∷ more) ≡ true → r.last + 1 ≡ n
    → (numbers_of (range r.first (last_from n more) ∷ without_next n more) ≡ put_number n (numbers_of (r ∷ more)))
    × (are_apart (range r.first (last_from n more) ∷ without_next n more) ≡ true)
with-joined n r more h ends =
    let p = parts-of r more h in
    let sorted = p.sorted in
    let over = over-weaker (r.last + 1) n more (omega arith) p.gap in
    let j = joined-next n more p.apart over in
    let up = j.apart.sorted in (
      ap (λ (ns : List ℕ). ns ++ numbers_of (without_next n more)) (span-join r.first r.last n (last_from n more) sorted ends up)
          ∙ append_assoc (span r) (span (range n (last_from n more))) (numbers_of (without_next n more))
          ∙ ap (λ (ns : List ℕ). span r ++ ns) (j.numbers ∙ sym (front-put n (numbers_of more) (numbers-over n more over)))
          ∙ sym (past-put n r.first (r.last + 1 - r.first) (numbers_of more) (omega arith)),
      from-parts (range r.first (last_from n more)) (without_next n more) (record { sorted = omega arith; gap = j.apart.gap; apart = j.apart.apart }),
    )

-- behind the first range
with-behind : (n : ℕ) (r : NumberRange) (more : List NumberRange) → are_apart (r ∷ more) ≡ true → r.last + 1 < n → With n more
    → (numbers_of (r ∷ with_number n more) ≡ put_number n (numbers_of (r ∷ more))) × (are_apart (r ∷ with_number n more) ≡ true)
with-behind n r more h lt w =
    let p = parts-of r more h in
    let sorted = p.sorted in (
      ap (λ (ns : List ℕ). span r ++ ns) w.numbers ∙ sym (past-put n r.first (r.last + 1 - r.first) (numbers_of more) (omega arith)),
      from-parts r (with_number n more) (record {
        sorted = sorted;
        gap = with-keeps (nat_lt (r.last + 1)) n more (lt-ltb (r.last + 1) n lt) p.gap;
        apart = w.apart;
      }),
    )

with-is : (n : ℕ) (xs : List NumberRange) → are_apart xs ≡ true → list_any (holds n) xs ≡ false → With n xs
with-is n [] h out = record {
  numbers = ap (λ (ns : List ℕ). ns ++ []) (span-one n);
  apart = from-parts (range n n) [] (record { sorted = omega arith; gap = refl; apart = refl });
}
with-is n (r ∷ more) h out =
    let outs = or_parts (holds n r) (list_any (holds n) more) out in
    let p = parts-of r more h in
    elim (cases_Bool (nat_lt n r.first)) [
      | inl before ↦ with-front n r more h before
      | inr up ↦ (let under = ended n r.first r.last outs.0 up in
          let sorted = p.sorted in
          let ne : (r.first == n + 1) ≡ false = ne_eqb r.first (n + 1) (λ e. omega arith) in
          elim (cases_Bool (r.last + 1 == n)) [
            | inl joins ↦ (let both = with-joined n r more h (eqb-true (r.last + 1) n joins) in record {
              numbers = rw (ne, joins) both.0;
              apart = rw (ne, joins) both.1;
            })
            | inr apart ↦ (let both = with-behind n r more h (gapped n r.last under apart) (with-is n more p.apart outs.1) in record {
              numbers = rw (ne, apart, up) both.0;
              apart = rw (ne, apart, up) both.1;
            })
          ])
    ]
  where
    ended : (n f l : ℕ) → (nat_le f n && nat_le n l) ≡ false → nat_lt n f ≡ false → l < n
    ended n f l h g = grind arith

    gapped : (n l : ℕ) → l < n → (l + 1 == n) ≡ false → l + 1 < n
    gapped n l lt h = grind arith

pub with-numbers : (n : ℕ) (xs : List NumberRange) → AreRanges xs → is_in n (numbers_of xs) ≡ false
    → numbers_of (with_number n xs) ≡ put_number n (numbers_of xs)
with-numbers n xs a new = (with-is n xs a.apart (sym (numbers-in n xs) ∙ new)).numbers

pub with-ranges : (n : ℕ) (xs : List NumberRange) → n < 2 ^ 64 → AreRanges xs → is_in n (numbers_of xs) ≡ false → AreRanges (with_number n xs)
with-ranges n xs lt a new = record {
  apart = (with-is n xs a.apart (sym (numbers-in n xs) ∙ new)).apart;
  short = with-keeps (λ (m : ℕ). nat_lt m (2 ^ 64)) n xs (lt-ltb n (2 ^ 64) lt) a.short;
}

-- what a search for the range that begins right behind n means
pub next-absent : (n : ℕ) (xs : List NumberRange) → has_key first_of (n + 1) xs ≡ false → (last_from n xs ≡ n) × (without_next n xs ≡ xs)
next-absent n [] h = (refl, refl)
next-absent n (r ∷ more) h =
    let parts = or_parts (r.first == n + 1) (has_key first_of (n + 1) more) h in
    let rest = next-absent n more parts.1 in
    (rw parts.0 (rest.0), rw parts.0 (ap (λ (xs : List NumberRange). r ∷ xs) rest.1))

-- nothing begins behind the greatest number
pub next-most : (xs : List NumberRange) (n : ℕ) → n + 1 ≡ 2 ^ 64 → list_all (λ s. nat_lt s.first (2 ^ 64)) xs ≡ true → has_key first_of (n + 1) xs ≡ false
next-most [] n e h = refl
next-most (r ∷ more) n e h =
    let parts = and_parts (nat_lt r.first (2 ^ 64)) (list_all (λ s. nat_lt s.first (2 ^ 64)) more) h in
    let lt = ltb-true r.first (2 ^ 64) parts.0 in
    neither (r.first == n + 1) (has_key first_of (n + 1) more) (ne_eqb r.first (n + 1) (λ k. omega arith)) (next-most more n e parts.1)

next-mid : (n : ℕ) (front : List NumberRange) (x : NumberRange) (back : List NumberRange) → are_apart (front ++ x ∷ back) ≡ true → x.first ≡ n + 1
    → (last_from n (front ++ x ∷ back) ≡ x.last) × (without_next n (front ++ x ∷ back) ≡ front ++ back)
next-mid n [] x back h e = let here : (x.first == n + 1) ≡ true = eq-eqb x.first (n + 1) e in (rw here refl, rw here refl)
next-mid n (r ∷ front) x back h e =
    let p = parts-of r (front ++ x ∷ back) h in
    let sorted = p.sorted in
    let lt = ltb-true (r.last + 1) x.first (all-mid (λ (s : NumberRange). nat_lt (r.last + 1) s.first) front x back p.gap) in
    let ne : (r.first == n + 1) ≡ false = ne_eqb r.first (n + 1) (λ k. omega arith) in
    let rest = next-mid n front x back p.apart e in
    (rw ne (rest.0), rw ne (ap (λ (xs : List NumberRange). r ∷ xs) rest.1))

pub next-found : (n : ℕ) (xs : List NumberRange) (x : NumberRange) → are_apart xs ≡ true → (s : StandsIn first_of (n + 1) xs x)
    → (last_from n xs ≡ x.last) × (without_next n xs ≡ s.front ++ s.back)
next-found n xs x h s =
    let both = next-mid n s.front x s.back (ap are_apart (sym s.is) ∙ h) s.has in
    (ap (last_from n) s.is ∙ both.0, ap (without_next n) s.is ∙ both.1)

pub next-apart : (n : ℕ) (xs : List NumberRange) → are_apart xs ≡ true → are_apart (without_next n xs) ≡ true
next-apart n [] h = refl
next-apart n (r ∷ more) h =
    let p = parts-of r more h in
    elim (cases_Bool (r.first == n + 1)) [
      | inl here ↦ rw here p.apart
      | inr other ↦ rw other (from-parts r (without_next n more) (record {
        sorted = p.sorted;
        gap = next-keeps (nat_lt (r.last + 1)) n more p.gap;
        apart = next-apart n more p.apart;
      }))
    ]

-- where none ends right before it, a range goes where its first number does
pub attached-put : (x : NumberRange) (xs : List NumberRange) → ends_at x.first xs ≡ false → put_by first_of x xs ≡ attached x xs
attached-put x [] h = refl
attached-put x (r ∷ more) h =
    let parts = or_parts (r.last + 1 == x.first) (ends_at x.first more) h in
    elim (cases_Bool (nat_lt x.first r.first)) [
      | inl before ↦ rw (parts.0, before) refl
      | inr behind ↦ rw (parts.0, behind) (ap (λ (xs : List NumberRange). r ∷ xs) (attached-put x more parts.1))
    ]

-- and else in place of the one that does
attached-mid : (x : NumberRange) (front : List NumberRange) (y : NumberRange) (back : List NumberRange) → are_apart (front ++ y ∷ back) ≡ true
    → y.last + 1 ≡ x.first → attached x (front ++ y ∷ back) ≡ front ++ range y.first x.last ∷ back
attached-mid x [] y back h e = let joins : (y.last + 1 == x.first) ≡ true = eq-eqb (y.last + 1) x.first e in rw joins refl
attached-mid x (r ∷ front) y back h e =
    let p = parts-of r (front ++ y ∷ back) h in
    let sorted = p.sorted in
    let lt = ltb-true (r.last + 1) y.first (all-mid (λ (s : NumberRange). nat_lt (r.last + 1) s.first) front y back p.gap) in
    let ends = mid-sorted front y back p.apart in
    let ne : (r.last + 1 == x.first) ≡ false = ne_eqb (r.last + 1) x.first (λ k. omega arith) in
    let up : nat_lt x.first r.first ≡ false = le-ltb x.first r.first (omega arith) in
    rw (ne, up) (ap (λ (xs : List NumberRange). r ∷ xs) (attached-mid x front y back p.apart e))
  where
    mid-sorted : (front : List NumberRange) (y : NumberRange) (back : List NumberRange) → are_apart (front ++ y ∷ back) ≡ true → y.first ≤ y.last
    mid-sorted [] y back h = (parts-of y back h).sorted
    mid-sorted (r ∷ front) y back h = mid-sorted front y back (parts-of r (front ++ y ∷ back) h).apart

-- the range that begins at a number
abbrev begun_at : ℕ → List NumberRange → Option NumberRange
begun_at n [] = None
begun_at n (r ∷ more) = if r.first == n then Some r else begun_at n more

begun-mid : (front : List NumberRange) (x : NumberRange) (back : List NumberRange) → are_apart (front ++ x ∷ back) ≡ true
    → begun_at x.first (front ++ x ∷ back) ≡ Some x
begun-mid [] x back h = let here : (x.first == x.first) ≡ true = eq-eqb x.first x.first refl in rw here refl
begun-mid (r ∷ front) x back h =
    let p = parts-of r (front ++ x ∷ back) h in
    let sorted = p.sorted in
    let lt = ltb-true (r.last + 1) x.first (all-mid (λ (s : NumberRange). nat_lt (r.last + 1) s.first) front x back p.gap) in
    let ne : (r.first == x.first) ≡ false = ne_eqb r.first x.first (λ k. omega arith) in
    rw ne (begun-mid front x back p.apart)

attached-other : (x y : NumberRange) (xs : List NumberRange) (e : EndsBefore x.first xs y) → are_apart xs ≡ true
    → (z : NumberRange) (s : StandsIn first_of y.first xs z) → s.front ++ range y.first x.last ∷ s.back ≡ attached x xs
attached-other x y xs e h z s =
    let one : begun_at y.first xs ≡ Some y = ap (begun_at y.first) e.is ∙ begun-mid e.front y e.back (ap are_apart (sym e.is) ∙ h) in
    let two : begun_at y.first xs ≡ Some z =
    ap (λ (n : ℕ). begun_at n xs) (sym s.has) ∙ ap (begun_at z.first) s.is ∙ begun-mid s.front z s.back (ap are_apart (sym s.is) ∙ h) in
    let same : z ≡ y = some-same z y (sym two ∙ one) in
    let at : xs ≡ s.front ++ y ∷ s.back = s.is ∙ ap (λ (r : NumberRange). s.front ++ r ∷ s.back) same in
    sym (ap (attached x) at ∙ attached-mid x s.front y s.back (ap are_apart (sym at) ∙ h) e.ends)
  where
    some-same : (z y : NumberRange) → Some z ≡ Some y → z ≡ y
    some-same z y e = cc

or_true : (b : Bool) → (b || true) ≡ true
or_true b = grind arith

-- so it begins where the one before it did
ends-key : (n : ℕ) (xs : List NumberRange) (y : NumberRange) → EndsBefore n xs y → has_key first_of y.first xs ≡ true
ends-key n xs y e = ap (has_key first_of y.first) e.is ∙ mid e.front
  where
    mid : (front : List NumberRange) → has_key first_of y.first (front ++ y ∷ e.back) ≡ true
    mid [] = let here : (y.first == y.first) ≡ true = eq-eqb y.first y.first refl in rw here refl
    mid (r ∷ front) = ap (λ b. (r.first == y.first) || b) (mid front) ∙ or_true (r.first == y.first)

-- what becomes of a range that is put in its place
pub replaced-is : (x y : NumberRange) (xs new : List NumberRange) (r : Bool)
    → OnTrue r ((z : NumberRange) × (s : StandsIn first_of y.first xs z) × (new ≡ s.front ++ range y.first x.last ∷ s.back))
    → OnFalse r (has_key first_of y.first xs ≡ false) → EndsBefore x.first xs y → are_apart xs ≡ true → new ≡ attached x xs
replaced-is x y xs new true found absent e h = found.2 ∙ attached-other x y xs e h found.0 found.1
replaced-is x y xs new false found absent e h = absurd (clash (has_key first_of y.first xs) (ends-key x.first xs y e) absent)

-- what a search for the last range that begins at most at n says of the one that ends right before n
ends-over : (n : ℕ) (xs : List NumberRange) → are_apart xs ≡ true → list_all (λ s. nat_lt n s.first) xs ≡ true → ends_at n xs ≡ false
ends-over n [] h over = refl
ends-over n (r ∷ more) h over =
    let p = parts-of r more h in
    let sorted = p.sorted in
    let parts = and_parts (nat_lt n r.first) (list_all (λ s. nat_lt n s.first) more) over in
    let lt = ltb-true n r.first parts.0 in
    neither (r.last + 1 == n) (ends_at n more) (ne_eqb (r.last + 1) n (λ k. omega arith)) (ends-over n more p.apart parts.1)

pub ends-absent : (n : ℕ) (xs : List NumberRange) → are_apart xs ≡ true → is_over first_of n xs ≡ true → ends_at n xs ≡ false
ends-absent n xs h over = ends-over n xs h over

ends-mid : (n : ℕ) (front : List NumberRange) (x : NumberRange) (back : List NumberRange) → are_apart (front ++ x ∷ back) ≡ true → x.first ≤ n
    → list_all (λ s. nat_lt n s.first) back ≡ true → (x.last + 1 == n) ≡ false → ends_at n (front ++ x ∷ back) ≡ false
ends-mid n [] x back h le over other = neither (x.last + 1 == n) (ends_at n back) other (ends-over n back (parts-of x back h).apart over)
ends-mid n (r ∷ front) x back h le over other =
    let p = parts-of r (front ++ x ∷ back) h in
    let lt = ltb-true (r.last + 1) x.first (all-mid (λ (s : NumberRange). nat_lt (r.last + 1) s.first) front x back p.gap) in
    neither (r.last + 1 == n) (ends_at n (front ++ x ∷ back)) (ne_eqb (r.last + 1) n (λ k. omega arith)) (ends-mid n front x back p.apart le over other)

pub ends-other : (n : ℕ) (xs : List NumberRange) (x : NumberRange) → are_apart xs ≡ true → StandsLast first_of n xs x → (x.last + 1 ≡ n → ⊥)
    → ends_at n xs ≡ false
ends-other n xs x h s other =
    ap (ends_at n) s.is ∙ ends-mid n s.front x s.back (ap are_apart (sym s.is) ∙ h) s.most s.above (ne_eqb (x.last + 1) n other)

pub ends-here : (n : ℕ) (xs : List NumberRange) (x : NumberRange) → StandsLast first_of n xs x → x.last + 1 ≡ n → EndsBefore n xs x
ends-here n xs x s e = record { front = s.front; back = s.back; is = s.is; ends = e }

-- how many ranges there are
begins-over : (n : ℕ) (xs : List NumberRange) → are_apart xs ≡ true → list_all (λ s. nat_lt n s.first) xs ≡ true → begins_with n (numbers_of xs) ≡ false
begins-over n [] h over = refl
begins-over n (r ∷ more) h over =
    let p = parts-of r more h in
    let lt = ltb-true n r.first (and_parts (nat_lt n r.first) (list_all (λ s. nat_lt n s.first) more) over).0 in
    ap (λ (ns : List ℕ). begins_with n (ns ++ numbers_of more)) (span-first r.first r.last p.sorted) ∙ ne_eqb r.first n (λ k. omega arith)

stretch-count : (f k : ℕ) (rest : List ℕ) → begins_with (f + k + 1) rest ≡ false → stretches (count_up f (suc k) ++ rest) ≡ stretches rest + 1
stretch-count f zero rest h = let e : f + 0 + 1 ≡ f + 1 = omega arith in rw (ap (λ (n : ℕ). begins_with n rest) (sym e) ∙ h) refl
stretch-count f (suc k) rest h =
    let here : (f + 1 == f + 1) ≡ true = eq-eqb (f + 1) (f + 1) refl in
    let e : f + 1 + k + 1 ≡ f + suc k + 1 = omega arith in
    rw here (stretch-count (f + 1) k rest (ap (λ (n : ℕ). begins_with n rest) e ∙ h))

pub stretches-count : (xs : List NumberRange) → are_apart xs ≡ true → length xs ≡ stretches (numbers_of xs)
stretches-count [] h = refl
stretches-count (r ∷ more) h =
    let p = parts-of r more h in
    let sorted = p.sorted in
    let a : r.last + 1 - r.first ≡ suc (r.last - r.first) = omega arith in
    let b : r.first + (r.last - r.first) + 1 ≡ r.last + 1 = omega arith in
    let ih = stretches-count more p.apart in
    let step = ap (λ (k : ℕ). stretches (count_up r.first k ++ numbers_of more)) a
    ∙ stretch-count r.first (r.last - r.first) (numbers_of more)
    (ap (λ (n : ℕ). begins_with n (numbers_of more)) b ∙ begins-over (r.last + 1) more p.apart p.gap) in
    omega arith

pub stretches-one : (n k : ℕ) → stretches (count_up n k) ≤ 1
stretches-one n zero = omega arith
stretches-one n (suc zero) = omega arith
stretches-one n (suc (suc k)) =
    let here : (n + 1 == n + 1) ≡ true = eq-eqb (n + 1) (n + 1) refl in rw here (stretches-one (n + 1) (suc k))
