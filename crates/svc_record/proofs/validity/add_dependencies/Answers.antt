use Rattle.std.proofs.Common.{◌∙◌, ap, subst, length, inl, slice_index_or}
use Rattle.svc_graph.specs.declared.graph.DependencyError.{DependencyError}
use Rattle.svc_graph.specs.Graphs.{is_edge}
use Rattle.svc_graph.specs.Refusals.{RefusalFits}
use Rattle.svc_record.proofs.GraphLemmas.{row-step, refusal-cause}
use Rattle.svc_record.proofs.validity.add_dependencies.Goals as goal

pub returns-in-Circular-clause-refused : goal.returns-in-Circular-clause-refused
returns-in-Circular-clause-refused c =
    let refusal =
    subst (λ (error : DependencyError). RefusalFits c.loop-dependency.graph c.args.service
    (slice_index_or c.args.dependencies.now c.loop-dependency.dependency-index 0) error)
    c.in-Circular.is c.in-Err.ensures.refusal in
    λ no. refusal-cause c.args.graph.now c.loop-dependency.graph c.args.service c.args.dependencies.now c.loop-dependency.dependency-index 0
    c.requires.service c.loop-dependency-test.true c.loop-dependency.invariant.names c.loop-dependency.invariant.edges (inl refusal.2)

pub loop-dependency-preserved : goal.loop-dependency-preserved
loop-dependency-preserved c = record {
  names = ap length c.in_default.ensures.names ∙ c.loop-dependency.invariant.names;
  graph = c.in_default.ensures.graph;
  edges = row-step (is_edge c.args.graph.now) (is_edge c.loop-dependency.graph) (is_edge c.add_dependency.new.self) c.args.service c.args.dependencies.now
      c.loop-dependency.dependency-index 0 c.loop-dependency-test.true c.loop-dependency.invariant.edges c.in_default.ensures.edges;
}
