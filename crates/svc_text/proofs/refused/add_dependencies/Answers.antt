use Rattle.std.proofs.Common.{ℕ, ◌≡◌, length, refl, subst, ◌∙◌, arith}
use Rattle.svc_text.specs.Dependencies.{edges_up_to}
use Rattle.svc_text.specs.Edges.{HasEdges}
use Rattle.svc_text.proofs.EdgeLemmas.{services_none, services_more, services_refused, services_all, after_read}
use Rattle.svc_text.proofs.refused.add_dependencies.Goals as goal

pub loop-number-init : goal.loop-number-init
loop-number-init c = record { services = services_none c.args.graph.now c.args.services.now c.requires.nodes; names = refl }

pub returns-then-not-branch-clause-refused : goal.returns-then-not-branch-clause-refused
returns-then-not-branch-clause-refused c =
    services_refused c.loop-number.graph c.args.services.now c.loop-number.number _ c.loop-number.invariant.services c.loop-number-test.true
    (c.dependencies-after.ensures
    ∙ after_read c.args.services.now c.loop-number.number c.index-services-number.result c.loop-number-test.true c.index-services-number.is)
    (rw c.if-not-branch.true at c.in_ok-add_row.ensures.taken)

pub loop-number-preserved : goal.loop-number-preserved
loop-number-preserved c = record {
  services = services_more c.loop-number.graph c.add_row.new.graph c.args.services.now c.loop-number.number _ c.loop-number.invariant.services
      (c.dependencies-after.ensures
      ∙ after_read c.args.services.now c.loop-number.number c.index-services-number.result c.loop-number-test.true c.index-services-number.is)
      (rw c.if-not-branch.false at c.in_ok-add_row.ensures.taken);
  names = c.in_ok-add_row.ensures.names ∙ c.loop-number.invariant.names;
}

pub returns-clause-refused : goal.returns-clause-refused
returns-clause-refused c = services_all c.loop-number.graph c.args.services.now c.loop-number.number (omega arith) c.loop-number.invariant.services

pub returns-clause-added : goal.returns-clause-added
returns-clause-added c =
    let all : c.loop-number.number ≡ length c.args.services.now = omega arith in
    subst (λ (n : ℕ). HasEdges c.loop-number.graph (length c.args.services.now) (edges_up_to c.args.services.now n)) all c.loop-number.invariant.services.edges
