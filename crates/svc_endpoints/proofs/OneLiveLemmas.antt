-- Where the table has one descriptor of an address at most, so has the record.
use Rattle.std.proofs.Common.{ℕ, Bool, true, inl, inr, List, [], ◌∷◌, ◌≡◌, refl, subst, arith, ◌≤◌, length, Option, Some, None, map, filter}
use Rattle.std.specs.List.{list_any}
use Rattle.std.proofs.lemmas.Bool.{cases_Bool, or_cases}
use Rattle.svc_record.specs.declared.plan.Plan.{Plan}
use Rattle.svc_record.specs.Record.{Record}
use Rattle.svc_record.specs.Plans.{same_address}
use Rattle.svc_record.specs.Descriptors.{Descriptor, live_descriptors, one_live, apart}
use Rattle.svc_endpoints.specs.EndpointsData.{EndpointsData}
use Rattle.svc_endpoints.specs.EndpointsState.{StatesKept, StatesStand}
use Rattle.svc_endpoints.proofs.LiveLemmas.{same_self}

abbrev numbers : List Descriptor → Option (List ℕ) → List ℕ
numbers xs a = map (λ (x : Descriptor). x.number) (filter (λ (x : Descriptor). same_address x.address a) xs)

some_number : (xs : List Descriptor) (a : Option (List ℕ)) → list_any (λ (x : Descriptor). same_address x.address a) xs ≡ true → 1 ≤ length (numbers xs a)
some_number [] a h = absurd (cc)
some_number (x ∷ xs) a h = elim (cases_Bool (same_address x.address a)) [
  | inl y ↦ rw y (omega arith)
  | inr n ↦ rw n (some_number xs a (rw n at h))
]

self_same : (a : Option (List ℕ)) (b : Option (List ℕ)) → same_address b a ≡ true → same_address a a ≡ true
self_same (Some x) b h = same_self x
self_same None (Some y) h = absurd (cc)
self_same None None h = absurd (cc)

first_alone : (d : Descriptor) (more : List Descriptor) → length (numbers (d ∷ more) d.address) ≤ 1
    → list_any (λ (x : Descriptor). same_address x.address d.address) more ≡ true → ⊥
first_alone d more h e =
    let some = any_found (λ (x : Descriptor). same_address x.address d.address) more e in
    let self = self_same d.address some.0.address some.1 in
    let two : length (d.number ∷ numbers more d.address) ≤ 1 = rw self at h in
    let one = some_number more d.address e in omega (arith, two, one)
  where
    any_found : (f : Descriptor → Bool) (xs : List Descriptor) → list_any f xs ≡ true → (x : Descriptor) × (f x ≡ true)
    any_found f [] h = absurd (cc)
    any_found f (x ∷ xs) h = elim (or_cases (f x) (list_any f xs) h) [ inl y ↦ (x, y) | inr m ↦ any_found f xs m ]

fewer : (x : Descriptor) (xs : List Descriptor) (a : Option (List ℕ)) → length (numbers (x ∷ xs) a) ≤ 1 → length (numbers xs a) ≤ 1
fewer x xs a h = elim (cases_Bool (same_address x.address a)) [
  | inl y ↦ (let g : length (x.number ∷ numbers xs a) ≤ 1 = rw y at h in omega (arith, g))
  | inr n ↦ rw n at h
]

apart-from : (xs : List Descriptor) → ((a : Option (List ℕ)) → length (numbers xs a) ≤ 1) → apart xs ≡ true
apart-from [] h = refl
apart-from (d ∷ more) h = elim (cases_Bool (list_any (λ (x : Descriptor). same_address x.address d.address) more)) [
  | inl y ↦ absurd (first_alone d more (h d.address) y)
  | inr n ↦ rw n (apart-from more (λ a. fewer d more a (h a)))
]

pub one_live-is : (p : Plan) (d : EndpointsData) (q : Record) → StatesKept p d → StatesStand p d q → one_live p q ≡ true
one_live-is p d q kept was = apart-from (live_descriptors p q) (λ a. subst (λ (w : List ℕ). length w ≤ 1) (was.with_is a) (kept.one a))
