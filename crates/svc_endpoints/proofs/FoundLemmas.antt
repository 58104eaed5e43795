-- The entries of sums find what is live of an address.
use Rattle.std.proofs.Common.{ℕ, true, not, ◌||◌, ◌==◌, inl, inr, List, [], ◌∷◌, ◌++◌, ◌≡◌, refl, ap, sym, ◌∙◌, arith, ◌≤◌, Option, Some, nat_le}
use Rattle.std.specs.List.{list_all}
use Rattle.std.proofs.lemmas.Bool.{cases_Bool, and_parts, or_cases, or_left, or_right, eq-eqb, eqb-true, leb-true}
use Rattle.svc_base.specs.Blocks.{rises_by, StandsIn}
use Rattle.svc_base.specs.NumberSets.{is_in}
use Rattle.svc_record.specs.Plans.{same_address}
use Rattle.svc_endpoints.specs.declared.table.Open.{Open}
use Rattle.svc_endpoints.specs.EndpointsState.{numbers_with}
use Rattle.svc_endpoints.specs.Effects.{first_of}
use Rattle.svc_endpoints.specs.Sums.{sum_of}
use Rattle.svc_endpoints.specs.Firsts.{has_sum, count_with, are_from}
use Rattle.svc_endpoints.proofs.LiveLemmas.{same_eq}

abbrev pub number : Open → ℕ
number o = o.fd

-- one with the address has its sum
same_sum : (a : List ℕ) (o : Open) → same_address o.address (Some a) ≡ true → has_sum (sum_of a) o.address ≡ true
same_sum a o same = ap (has_sum (sum_of a)) (same_eq o.address (Some a) same) ∙ eq-eqb (sum_of a) (sum_of a) refl

-- where none has the sum, none has the address
pub none-with : (a : List ℕ) (t : List Open) → count_with (sum_of a) t ≡ 0 → numbers_with t (Some a) ≡ []
none-with a [] h = refl
none-with a (o ∷ t) h = elim (cases_Bool (same_address o.address (Some a))) [
  | inl same ↦ absurd (let some = rw (same_sum a o same) at h in omega (arith, some))
  | inr other ↦ rw other (none-with a t (elim (cases_Bool (has_sum (sum_of a) o.address)) [
    | inl y ↦ absurd (let some = rw y at h in omega (arith, some))
    | inr n ↦ rw n at h
  ]))
]

-- none with the address has a lesser number
pub least-with : (a : List ℕ) (fd : ℕ) (t : List Open) → are_from (sum_of a) fd t ≡ true → (n : ℕ) → is_in n (numbers_with t (Some a)) ≡ true → fd ≤ n
least-with a fd [] h n there = absurd (cc)
least-with a fd (o ∷ t) h n there =
    let parts = and_parts (not (has_sum (sum_of a) o.address) || nat_le fd o.fd) (are_from (sum_of a) fd t) h in
    elim (cases_Bool (same_address o.address (Some a))) [
      | inl same ↦ elim (or_cases (o.fd == n) (is_in n (numbers_with t (Some a))) (rw same at there)) [
        | inl here ↦ (let most = leb-true fd o.fd (rw (same_sum a o same) at (parts.0)) in let is = eqb-true o.fd n here in omega (arith, most, is))
        | inr later ↦ least-with a fd t parts.1 n later
      ]
      | inr other ↦ least-with a fd t parts.1 n (rw other at there)
    ]

-- the least number of those with an address is the first one
above : (fd : ℕ) (t : List Open) (a : Option (List ℕ)) → list_all (λ o. nat_le fd (number o)) t ≡ true → (n : ℕ) → is_in n (numbers_with t a) ≡ true → fd ≤ n
above fd [] a h n there = absurd (cc)
above fd (o ∷ t) a h n there =
    let parts = and_parts (nat_le fd o.fd) (list_all (λ x. nat_le fd (number x)) t) h in
    elim (cases_Bool (same_address o.address a)) [
      | inl same ↦ elim (or_cases (o.fd == n) (is_in n (numbers_with t a)) (rw same at there)) [
        | inl here ↦ (let is = eqb-true o.fd n here in let most = leb-true fd o.fd parts.0 in omega arith)
        | inr later ↦ above fd t a parts.1 n later
      ]
      | inr other ↦ above fd t a parts.1 n (rw other at there)
    ]

pub least-first : (t : List Open) (a : Option (List ℕ)) (fd : ℕ) → rises_by number t ≡ true → is_in fd (numbers_with t a) ≡ true
    → ((n : ℕ) → is_in n (numbers_with t a) ≡ true → fd ≤ n) → Some fd ≡ first_of (numbers_with t a)
least-first [] a fd rise there least = absurd (cc)
least-first (o ∷ t) a fd rise there least =
    let parts = and_parts (list_all (λ x. nat_le (number o) (number x)) t) (rises_by number t) rise in
    elim (cases_Bool (same_address o.address a)) [
      | inl same ↦ rw same (ap Some (first same parts.0))
      | inr other ↦ rw other (least-first t a fd parts.1 (rw other at there) (λ n h. least n (rw other h)))
    ]
  where
    first : same_address o.address a ≡ true → list_all (λ x. nat_le (number o) (number x)) t ≡ true → fd ≡ o.fd
    first same rest =
        let most : fd ≤ o.fd = least o.fd (rw same (or_left (o.fd == o.fd) (is_in o.fd (numbers_with t a)) (eq-eqb o.fd o.fd refl))) in
        elim (or_cases (o.fd == fd) (is_in fd (numbers_with t a)) (rw same at there)) [
          | inl here ↦ sym (eqb-true o.fd fd here)
          | inr later ↦ (let low = above o.fd t a rest fd later in omega (arith, most, low))
        ]

-- one that stands in the table, and has the address, is among them
pub stands-with : (t : List Open) (a : Option (List ℕ)) (fd : ℕ) (o : Open) → StandsIn number fd t o → same_address o.address a ≡ true
    → is_in fd (numbers_with t a) ≡ true
stands-with t a fd o s same = ap (λ (l : List Open). is_in fd (numbers_with l a)) s.is ∙ mid s.front
  where
    mid : (front : List Open) → is_in fd (numbers_with (front ++ o ∷ s.back) a) ≡ true
    mid [] = rw same (or_left (o.fd == fd) (is_in fd (numbers_with s.back a)) (eq-eqb o.fd fd s.has))
    mid (x ∷ front) = elim (cases_Bool (same_address x.address a)) [
      | inl y ↦ rw y (or_right (x.fd == fd) (is_in fd (numbers_with (front ++ o ∷ s.back) a)) (mid front))
      | inr n ↦ rw n (mid front)
    ]
