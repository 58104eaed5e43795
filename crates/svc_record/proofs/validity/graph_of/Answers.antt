use Rattle.std.proofs.Common.{ℕ, ◌≡◌, arith, ap, All, subst, length, ◌<◌}
use Rattle.svc_graph.specs.Paths.{IsAcyclic}
use Rattle.svc_graph.specs.Graphs.{node_count, is_edge}
use Rattle.svc_record.specs.Building.{with_row}
use Rattle.svc_record.proofs.GraphLemmas.{graph-cause, graph-step}
use Rattle.svc_record.proofs.validity.graph_of.Goals as goal

pub returns-then-not-branch-clause-none : goal.returns-then-not-branch-clause-none
returns-then-not-branch-clause-none c =
    graph-cause c.args.plan.now c.loop-service.graph c.loop-service.service
    (omega (arith, ap length c.as_slice-service-end.ensures)) c.loop-service.invariant.so_far
    (subst (λ row. All (λ d. d < node_count c.loop-service.graph) row → IsAcyclic (with_row (is_edge c.loop-service.graph) c.loop-service.service row) → ⊥)
    c.depends.ensures (c.in_ok-add_dependencies.ensures.refused c.if-not-branch.true))

pub loop-service-preserved : goal.loop-service-preserved
loop-service-preserved c = record {
  so_far =
      graph-step c.args.plan.now c.loop-service.graph c.add_dependencies.new.graph c.loop-service.service c.loop-service.invariant.so_far
      c.in_ok-add_dependencies.ensures.names
      (subst (λ row. (a b : ℕ) → is_edge c.add_dependencies.new.graph a b ≡ with_row (is_edge c.loop-service.graph) c.loop-service.service row a b)
      c.depends.ensures (c.in_ok-add_dependencies.ensures.added c.if-not-branch.false));
  graph = c.in_ok-add_dependencies.ensures.graph;
}
