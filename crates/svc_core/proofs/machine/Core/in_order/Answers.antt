use Rattle.std.proofs.Common.{arith, rules, ◌&&◌, ◌∙◌, ap}
use Rattle.std.proofs.lemmas.Bool.{lt-ltb}
use Rattle.svc_record.specs.Validity.{depends_on}
use Rattle.svc_core.proofs.CountLemmas.{and_clash}
use Rattle.svc_core.proofs.WaitsLemmas.{watched-open}
use Rattle.svc_core.proofs.machine.Core.in_order.Goals as goal

pub invariant_of-result : goal.invariant_of-result
invariant_of-result c = record {
  formed = search rules;
  watched = watched-open c.args.plan c.args.order.items c.in_ok-starts.starts c.in_ok-endpoints.endpoints.parts c.in_ok-waits.waits
      (c.in_ok-waits.ensures.count ∙ c.requires.graph.nodes)
      (λ a b lt. c.in_ok-waits.ensures.edges a b ∙ c.requires.graph.edges a b
      ∙ ap (λ x. x && depends_on c.args.plan a b) (lt-ltb a _ lt))
      c.in_ok-waits.ensures.none (λ k lt. c.in_ok-waits.ensures.open k (omega arith)) c.in_ok-waits.ensures.stale;
  late = λ on. and_clash c.in_ok-waits.waits.complete on c.in_ok-waits.ensures.early _;
}

pub returns-clause-first : goal.returns-clause-first
returns-clause-first c = record {
  drain = search rules;
  offer = search rules;
  starts = search rules;
  ends = search rules;
  boot = search rules;
  connections = search rules;
  unbegun = search rules;
  idle = search rules;
  unoffered = search rules;
  unasked = search rules;
}
