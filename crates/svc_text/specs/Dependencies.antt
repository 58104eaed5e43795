-- The first service whose dependencies a script may not have.
use Rattle.std.specs.Prelude.{ℕ, ◌+◌, ◌<◌, ◌≤◌, ◌==◌, ◌&&◌, ◌⊎◌, nat_lt, List, length, All, Any}
use Rattle.std.specs.List.{list_any}
use Rattle.svc_graph.specs.Paths.{Edges, Path, IsAcyclic}
use Rattle.svc_text.specs.declared.service.ServiceLine.{ServiceLine}
use Rattle.svc_text.specs.Accepted.{after_at}

-- the dependencies of the first n services
abbrev pub edges_up_to : List ServiceLine → ℕ → Edges
edges_up_to services n a b = nat_lt a n && list_any (λ x. x == b) (after_at services a)

-- the first n services depend on services alone, and close no cycle
pub record AreSoundUpTo (services : List ServiceLine) (n : ℕ) : Type 0 where
  pub known : (a : ℕ) → a < n → All (λ b. b < length services) (after_at services a)
  pub acyclic : IsAcyclic (edges_up_to services n)

-- one of the dependencies is none of so many services, or the edges have a cycle
abbrev pub IsUnsound : ℕ → Edges → List ℕ → Type 0
IsUnsound n edges after = Any (λ b. n ≤ b) after ⊎ ((a : ℕ) × Path edges a a)

-- service k is the first that is refused: it depends on one that isn't there, or closes a cycle with those before it
pub record RefusesAt (services : List ServiceLine) (k : ℕ) : Type 0 where
  pub here : k < length services
  pub before : AreSoundUpTo services k
  pub refused : IsUnsound (length services) (edges_up_to services (k + 1)) (after_at services k)

-- none is refused
abbrev pub RefusesNone : List ServiceLine → Type 0
RefusesNone services = AreSoundUpTo services (length services)
