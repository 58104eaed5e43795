-- The graph while the dependencies of services are added.
use Rattle.std.specs.Prelude.{ℕ, ◌≡◌, ◌<◌, ◌==◌, ◌&&◌, ◌||◌, List, All}
use Rattle.std.specs.List.{list_any}
use Rattle.svc_graph.specs.Paths.{Edges, IsAcyclic}
use Rattle.svc_graph.specs.GraphData.{GraphData}
use Rattle.svc_graph.specs.Graphs.{node_count, is_edge}

-- the edges with those from a to each of the nodes
abbrev pub with_row : Edges → ℕ → List ℕ → Edges
with_row edges a nodes c d = edges c d || (c == a && list_any (λ x. x == d) nodes)

-- the graph has so many nodes, and exactly these edges, which close no cycle
pub record HasEdges (g : GraphData) (n : ℕ) (edges : Edges) : Type 0 where
  pub count : node_count g ≡ n
  pub same : (a b : ℕ) → is_edge g a b ≡ edges a b
  pub acyclic : IsAcyclic (is_edge g)

-- a depends on these too, which are nodes
pub record HasTaken (old new : GraphData) (a : ℕ) (after : List ℕ) : Type 0 where
  pub edges : HasEdges new (node_count old) (with_row (is_edge old) a after)
  pub known : All (λ b. b < node_count old) after
