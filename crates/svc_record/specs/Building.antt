-- Parts of the tests of a plan: what a graph of its services holds, and what is asked of each service.
use Rattle.std.specs.Prelude.{ℕ, nat_lt, ◌&&◌, ◌||◌, ◌==◌, ◌≡◌, ◌<◌, ◌≤◌, List, length, All}
use Rattle.svc_graph.specs.Paths.{Edges, IsAcyclic}
use Rattle.svc_graph.specs.GraphData.{GraphData}
use Rattle.svc_graph.specs.Graphs.{node_count, is_edge}
use Rattle.svc_record.specs.declared.plan.Plan.{Plan}
use Rattle.svc_record.specs.declared.plan.ServicePlan.{ServicePlan}
use Rattle.svc_record.specs.Plans.{service_count, depends}
use Rattle.svc_record.specs.Validity.{IsAddress, depends_on, is_listed}

-- the plan keeps the limits
pub record KeepsLimits (p : Plan) : Type 0 where
  pub few : service_count p ≤ 1024
  pub tasks : 0 < p.tasks
  pub endpoints : All (λ (s : ServicePlan). (length s.endpoints ≤ 64) × All IsAddress s.endpoints) p.services

-- each dependency is a service, and no service depends on itself by any chain
pub record DependsWell (p : Plan) : Type 0 where
  pub inside : (s : ℕ) → s < service_count p → All (λ d. d < service_count p) (depends p s)
  pub acyclic : IsAcyclic (depends_on p)

-- the edges with those from s to each of the row
abbrev pub with_row : Edges → ℕ → List ℕ → Edges
with_row g s row a b = g a b || (a == s && is_listed row b)

-- the graph has a node for each service, and the dependencies of those below n
pub record IsGraphUpTo (p : Plan) (n : ℕ) (g : GraphData) : Type 0 where
  pub nodes : node_count g ≡ service_count p
  pub edges : (a b : ℕ) → is_edge g a b ≡ (nat_lt a n && depends_on p a b)
