use Rattle.std.proofs.Common.{ℕ, ◌≡◌, take}
use Rattle.svc_graph.specs.Graphs.{node_count, is_edge, IsGraph}
use Rattle.svc_record.specs.Building.{with_row}
use Rattle.svc_record.proofs.validity.add_dependencies.Given as goal

abbrev pub invariant-loop-dependency : goal.invariant-loop-dependency
invariant-loop-dependency l = record {
  names : node_count l.graph ≡ node_count l.initial.graph;
  graph : IsGraph l.graph;
  edges : (a b : ℕ) → is_edge l.graph a b ≡ with_row (is_edge l.initial.graph) l.service (take l.dependency-index l.dependencies) a b;
}
