use Rattle.std.proofs.Common.{◌∙◌}
use Rattle.svc_text.proofs.EdgeLemmas.{taken_next, unknown_next, circular_next}
use Rattle.svc_text.proofs.refused.add_row.Goals as goal

pub returns-in-Err-UnknownService-clause-taken : goal.returns-in-Err-UnknownService-clause-taken
returns-in-Err-UnknownService-clause-taken c =
    unknown_next c.args.graph.now c.loop-dependency.graph c.args.dependent c.args.after.now c.loop-dependency.dependency-index _
    c.loop-dependency.invariant.taken c.requires.node c.loop-dependency-test.true
    (rw c.in-Err-UnknownService.field-0-is at c.in-Err-UnknownService.ensures.refusal)

pub returns-in-Err-Circular-clause-taken : goal.returns-in-Err-Circular-clause-taken
returns-in-Err-Circular-clause-taken c =
    let refusal = rw c.in-Err-Circular.field-0-is at c.in-Err-Circular.ensures.refusal in
    circular_next c.args.graph.now c.loop-dependency.graph c.args.dependent c.args.after.now c.loop-dependency.dependency-index _
    c.loop-dependency.invariant.taken c.loop-dependency-test.true refusal.2

pub loop-dependency-preserved : goal.loop-dependency-preserved
loop-dependency-preserved c = record {
  taken = taken_next c.args.graph.now c.loop-dependency.graph c.add_dependency.new.self c.args.dependent c.args.after.now c.loop-dependency.dependency-index _
      c.loop-dependency.invariant.taken c.loop-dependency-test.true c.in-Ok.ensures.added c.in-Ok.ensures.edges c.in-Ok.ensures.graph.acyclic
      (λ unknown. let e = c.in-Ok.ensures.unknown unknown in absurd cc);
  names = c.in-Ok.ensures.names ∙ c.loop-dependency.invariant.names;
}
