-- Addresses that were read are texts.
use Rattle.std.proofs.Common.{ℕ, List, ◌≡◌, refl, subst, Option, Some, None, IsUtf8}
use Rattle.std.specs.Prelude.{All, slice_get}
use Rattle.std.proofs.lemmas.Option.{get_or_from_slice_get, slice_get_within}
use Rattle.std.proofs.lemmas.List.Elements.{All-get_or}
use Rattle.svc_graph.specs.declared.plan.EndpointPlan.{EndpointPlan}
use Rattle.svc_record.specs.declared.plan.Plan.{Plan}
use Rattle.svc_record.specs.declared.plan.ServicePlan.{ServicePlan}
use Rattle.svc_record.specs.Plans.{address}
use Rattle.svc_handover.specs.Law.{IsTextOr, AreTextual, HasTexts}

-- what holds of each element holds of the one at this place
at-place : {X : Type 0} (P : X → Type 0) (xs : List X) (i : ℕ) (x : X) → All P xs → slice_get xs i ≡ Some x → P x
at-place P xs i x all here = subst P (get_or_from_slice_get xs i x x here) (All-get_or P xs i x (slice_get_within xs i x here) all)

-- where each endpoint's address is a text, so is each address of the plan
pub has-texts : (p : Plan) → All (λ (s : ServicePlan). AreTextual s.endpoints) p.services → HasTexts p
has-texts p all s i = by (slice_get p.services s) refl
  where
    within : (x : ServicePlan) → slice_get p.services s ≡ Some x → (o : Option EndpointPlan) → slice_get x.endpoints i ≡ o → IsTextOr (address p s i)
    within x e None f = rw (e, f) tt
    within x e (Some y) f =
        rw (e, f) (at-place (λ (z : EndpointPlan). IsUtf8 z.address) x.endpoints i y
        (at-place (λ (z : ServicePlan). AreTextual z.endpoints) p.services s x all e) f)

    by : (o : Option ServicePlan) → slice_get p.services s ≡ o → IsTextOr (address p s i)
    by None e = rw e tt
    by (Some x) e = within x e (slice_get x.endpoints i) refl
