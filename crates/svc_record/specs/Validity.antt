-- Which plans a server can be run by, and the order in which their services start.
use Rattle.std.specs.Prelude.{ℕ, Bool, true, false, ◌≡◌, ◌<◌, ◌≤◌, ◌==◌, List, length, take, All, slice_index}
use Rattle.std.specs.List.{list_any}
use Rattle.svc_graph.specs.Paths.{IsAcyclic}
use Rattle.svc_graph.specs.declared.plan.EndpointPlan.{EndpointPlan}
use Rattle.svc_record.specs.declared.plan.Plan.{Plan}
use Rattle.svc_record.specs.Plans.{service_count, depends, endpoints}

-- s depends on d
abbrev pub depends_on : Plan → ℕ → ℕ → Bool
depends_on p s d = list_any (λ x. x == d) (depends p s)

-- an address's text has 1 to 4,096 bytes
abbrev pub IsAddress : EndpointPlan → Type 0
IsAddress e = (1 ≤ length e.address) × (length e.address ≤ 4096)

-- a server can be run by the plan: it keeps the limits, each dependency is a service of it, and no service depends on itself by any chain
pub record IsValid (p : Plan) : Type 0 where
  pub few : service_count p ≤ 1024
  pub few_endpoints : (s : ℕ) → s < service_count p → length (endpoints p s) ≤ 64
  pub addresses : (s : ℕ) → s < service_count p → All IsAddress (endpoints p s)
  pub inside : (s : ℕ) → s < service_count p → All (λ d. d < service_count p) (depends p s)
  pub acyclic : IsAcyclic (depends_on p)
  pub tasks : 0 < p.tasks

-- s is among those listed
abbrev pub is_listed : List ℕ → ℕ → Bool
is_listed listed s = list_any (λ x. x == s) listed

-- s is the least service that isn't listed yet, and whose dependencies are
pub record IsNext (p : Plan) (listed : List ℕ) (s : ℕ) : Type 0 where
  pub inside : s < service_count p
  pub fresh : is_listed listed s ≡ false
  pub due : All (λ d. is_listed listed d ≡ true) (depends p s)
  pub least : (t : ℕ) → t < s → is_listed listed t ≡ false → All (λ d. is_listed listed d ≡ true) (depends p t) → ⊥

-- the startup order: always the least service whose dependencies are listed, until all are
pub record IsStartupOrder (p : Plan) (order : List ℕ) : Type 0 where
  pub next : (k : ℕ) → k < length order → IsNext p (take k order) (slice_index order k)
  pub all_listed : (s : ℕ) → s < service_count p → is_listed order s ≡ true

-- each service stands in the order, after all that it depends on
pub record IsInOrder (p : Plan) (order : List ℕ) : Type 0 where
  pub inside : (k : ℕ) → k < length order → slice_index order k < service_count p
  pub each : (s : ℕ) → s < service_count p → (k : ℕ) × (k < length order) × (slice_index order k ≡ s)
  pub after : (j k : ℕ) → j ≤ k → k < length order → depends_on p (slice_index order j) (slice_index order k) ≡ false
  pub short : length order ≤ 1024
