-- The tests of a plan.
use Rattle.std.proofs.Common.{ℕ, inl, inr, List, refl, subst, arith, ◌<◌, ◌≤◌, length, All}
use Rattle.std.specs.Prelude.{Option, Some, None, IfSome, IfNone, IsTrue, ◌↔◌, is_some}
use Rattle.std.proofs.lemmas.Option.{slice_get_cases}
use Rattle.svc_graph.specs.GraphData.{GraphData}
use Rattle.svc_graph.specs.Graphs.{IsGraph}
use Rattle.svc_graph.specs.declared.plan.EndpointPlan.{EndpointPlan}
use Rattle.svc_record.specs.declared.plan.Plan.{Plan}
use Rattle.svc_record.specs.declared.plan.ServicePlan.{ServicePlan}
use Rattle.svc_record.specs.Plans.{service_count, endpoints}
use Rattle.svc_record.specs.Building.{KeepsLimits, DependsWell, IsGraphUpTo}
use Rattle.svc_record.specs.Validity.{IsAddress, IsValid}
use Rattle.svc_record.proofs.OrderLemmas.{depends-well}

-- what holds of each service's endpoints
pub endpoints-All : (P : List EndpointPlan → Type 0) (p : Plan) → All (λ (x : ServicePlan). P x.endpoints) p.services → (s : ℕ) → s < service_count p
    → P (endpoints p s)
endpoints-All P p all s lt =
    elim (slice_get_cases p.services s).1 [
      | inl at ↦ rw at.2 (subst (λ (x : ServicePlan). P x.endpoints) at.3 (all s at.0 at.1))
      | inr past ↦ absurd (let le = past.0 in omega arith)
    ]

pub valid-plan : (p : Plan) → KeepsLimits p → DependsWell p → IsValid p
valid-plan p limits well = record {
  few = limits.few;
  few_endpoints = λ s lt. (endpoints-All (λ es. (length es ≤ 64) × All IsAddress es) p limits.endpoints s lt).0;
  addresses = λ s lt. (endpoints-All (λ es. (length es ≤ 64) × All IsAddress es) p limits.endpoints s lt).1;
  inside = well.inside;
  acyclic = well.acyclic;
  tasks = limits.tasks;
}

-- a plan that keeps the limits is valid exactly where its graph was made
pub valid-test : (p : Plan) (found : Option GraphData) → KeepsLimits p
    → IfSome found (λ g. IsGraphUpTo p (service_count p) g) → IfSome found (λ g. IsGraph g) → IfNone found (DependsWell p → ⊥)
    → IsTrue (is_some found) ↔ IsValid p
valid-test p (Some g) limits whole graph none = (λ yes. valid-plan p limits (depends-well p g whole graph), λ valid. refl)
valid-test p None limits whole graph none = (λ no. absurd (cc), λ valid. absurd (none (record { inside = valid.inside; acyclic = valid.acyclic })))
