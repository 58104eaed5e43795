-- A service that hasn't failed has no endpoint of an abandoned address.
use Rattle.std.proofs.Common.{ℕ, Bool, true, false, zero, suc, ◌||◌, ◌&&◌, not, ◌⊎◌, inl, inr, List, [], ◌∷◌, bytes_eq, ◌≡◌, refl, ap, sym, subst, arith, ◌<◌, ◌+◌, length, Option, Some, None, slice_get}
use Rattle.std.specs.List.{list_any, list_all, range_with_len}
use Rattle.std.proofs.lemmas.Bool.{cases_Bool, and_parts, or_left, or_right}
use Rattle.svc_graph.specs.declared.plan.EndpointPlan.{EndpointPlan}
use Rattle.svc_record.specs.declared.plan.Plan.{Plan}
use Rattle.svc_record.specs.Record.{Record}
use Rattle.svc_record.specs.Plans.{address, services, service_count, endpoints, names, declares}
use Rattle.svc_record.specs.Failed.{has_failed}
use Rattle.svc_record.specs.Closes.{is_abandoned}
use Rattle.svc_endpoints.specs.EndpointsData.{EndpointsData}
use Rattle.svc_endpoints.specs.EndpointsState.{StatesStand, failed_at}
use Rattle.svc_endpoints.specs.Effects.{is_abandoned_by}
use Rattle.svc_endpoints.proofs.RangeLemmas.{fails0}
use Rattle.svc_endpoints.proofs.LiveLemmas.{same_self}

all_get : (f : ℕ → Bool) (n s : ℕ) → s < n → list_all f (range_with_len 0 n) ≡ true → f s ≡ true
all_get f n s lt h = elim (cases_Bool (f s)) [
  | inl y ↦ y
  | inr m ↦ absurd (let none = fails0 f n s lt m in cc)
]

abbrev pub address_at : Option EndpointPlan → Option (List ℕ)
address_at (Some x) = Some x.address
address_at None = None

named_by : (xs : List EndpointPlan) (i : ℕ) (a : List ℕ) → address_at (slice_get xs i) ≡ Some a
    → list_any (λ (x : EndpointPlan). bytes_eq x.address a) xs ≡ true
named_by [] i a e = absurd (cc)
named_by (x ∷ xs) zero a e =
    or_left (bytes_eq x.address a) (list_any (λ (y : EndpointPlan). bytes_eq y.address a) xs)
    (subst (λ w. bytes_eq w a ≡ true) (sym (some_same x.address a e)) (same_self a))
  where
    some_same : (x y : List ℕ) → Some x ≡ Some y → x ≡ y
    some_same x y e = cc
named_by (x ∷ xs) (suc i) a e = or_right (bytes_eq x.address a) (list_any (λ (y : EndpointPlan). bytes_eq y.address a) xs) (named_by xs i a e)

cases_of : {X : Type 0} (x : Option X) → (x ≡ None) ⊎ ((y : X) × (x ≡ Some y))
cases_of None = inl refl
cases_of (Some y) = inr (y, refl)

get_inside : {X : Type 0} (xs : List X) (i : ℕ) (x : X) → slice_get xs i ≡ Some x → i < length xs
get_inside [] i x e = absurd (cc)
get_inside (y ∷ ys) zero x e = omega arith
get_inside (y ∷ ys) (suc i) x e = let h = get_inside ys i x e in omega (arith, h)

pub named-inside : (p : Plan) (s i : ℕ) (a : List ℕ) → address p s i ≡ Some a → s < service_count p
named-inside p s i a e = elim (cases_of (slice_get p.services s)) [
  | inl none ↦ absurd (let off = rw none at e in cc)
  | inr some ↦ get_inside p.services s some.0 some.1
]

pub unneeded : (p : Plan) (failed : List Bool) (d : EndpointsData) → d.failed ≡ failed → (a : List ℕ) → is_abandoned_by p failed a ≡ true → (s i : ℕ)
    → s < service_count p → failed_at d s ≡ false → address p s i ≡ Some a → ⊥
unneeded p failed d same a h s i lt free e =
    let here : is_abandoned_by p d.failed a ≡ true = subst (λ w. is_abandoned_by p w a ≡ true) (sym same) h in
    let parts = and_parts (list_any (λ u. names p u a) (services p)) (list_all (λ u. not (names p u a) || failed_at d u) (services p)) here in
    let each : (not (names p s a) || failed_at d s) ≡ true = all_get (λ u. not (names p u a) || failed_at d u) (service_count p) s lt parts.1 in
    let named : names p s a ≡ true =
    or_right (declares p s a) (list_any (λ (x : EndpointPlan). bytes_eq x.address a) (endpoints p s)) (named_by (endpoints p s) i a e) in
    clash (names p s a) (failed_at d s) named free each
  where
    clash : (n f : Bool) → n ≡ true → f ≡ false → (not n || f) ≡ true → ⊥
    clash n f h g e = grind arith

pub all-same : (f g : ℕ → Bool) (a n : ℕ) → ((k : ℕ) → k < a + n → f k ≡ g k) → list_all f (range_with_len a n) ≡ list_all g (range_with_len a n)
all-same f g a zero h = refl
all-same f g a (suc n) h = rw (h a (omega arith), all-same f g (a + 1) n (λ k lt. h k (omega arith))) refl

-- the flags say what the record says
pub abandoned-is : (p : Plan) (d : EndpointsData) (q : Record) → StatesStand p d q → (a : List ℕ) → is_abandoned_by p d.failed a ≡ is_abandoned p q a
abandoned-is p d q was a = ap (λ b. list_any (λ s. names p s a) (services p) && b)
    (all-same (λ s. not (names p s a) || failed_at d s) (λ s. not (names p s a) || has_failed p q s) 0 (service_count p)
    (λ s lt. ap (λ b. not (names p s a) || b) (was.failed_is s (omega arith))))
