use Rattle.svc_graph.specs.Graphs.{IsGraph}
use Rattle.svc_record.specs.Building.{IsGraphUpTo}
use Rattle.svc_record.proofs.validity.graph_of.Given as goal

abbrev pub invariant-loop-service : goal.invariant-loop-service
invariant-loop-service l = record {
  so_far : IsGraphUpTo l.plan l.service l.graph;
  graph : IsGraph l.graph;
}
