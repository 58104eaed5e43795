-- What the crates above build on: what a record says of asks and numbers where the endpoints stand for it, and what asks leave.
use Rattle.std.proofs.Common.{ℕ, zero, suc, true, inl, inr, ◌⊎◌, List, [], ◌∷◌, ◌≡◌, refl, arith, ◌<◌, length, Option, Some, None, slice_get, nat_lt}
use Rattle.std.proofs.lemmas.Bool.Decides.{Decides-ltb}
use Rattle.svc_record.specs.declared.plan.Plan.{Plan}
use Rattle.svc_record.specs.declared.plan.ServicePlan.{ServicePlan}
use Rattle.svc_record.specs.Plans.{service_count, endpoints, is_endpoint}

cases_service : (x : Option ServicePlan) → (x ≡ None) ⊎ ((y : ServicePlan) × (x ≡ Some y))
cases_service None = inl refl
cases_service (Some y) = inr (y, refl)

get_inside : (xs : List ServicePlan) (i : ℕ) (x : ServicePlan) → slice_get xs i ≡ Some x → i < length xs
get_inside [] i x e = absurd (cc)
get_inside (y ∷ ys) zero x e = omega arith
get_inside (y ∷ ys) (suc i) x e = let h = get_inside ys i x e in omega (arith, h)

-- an endpoint of the plan is one of a service of it
pub endpoint-inside : (p : Plan) (s i : ℕ) → is_endpoint p s i ≡ true → (s < service_count p) × (i < length (endpoints p s))
endpoint-inside p s i h = (
  elim (cases_service (slice_get p.services s)) [
    | inl none ↦ absurd (let off = rw none at h in absurd_lt i off)
    | inr some ↦ get_inside p.services s some.0 some.1
  ],
  (Decides-ltb i (length (endpoints p s))).0 h,
)
  where
    absurd_lt : (i : ℕ) → nat_lt i 0 ≡ true → ⊥
    absurd_lt i e = let lt : i < 0 = (Decides-ltb i 0).0 e in omega arith
