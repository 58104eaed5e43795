use Rattle.std.proofs.Common.{ℕ, ◌≡◌, false}
use Rattle.svc_graph.specs.Graphs.{node_count, is_edge, IsGraph}
use Rattle.svc_record.proofs.validity.nodes.Given as goal

abbrev pub invariant-loop-service : goal.invariant-loop-service
invariant-loop-service l = record {
  count : node_count l.graph ≡ l.service-index;
  graph : IsGraph l.graph;
  edges : (a b : ℕ) → is_edge l.graph a b ≡ false;
}
