use Rattle.std.proofs.Common.{IsUtf8, subst}
use Rattle.std.proofs.lemmas.List.{take_all}
use Rattle.std.proofs.lemmas.List.Elements.{All-more}
use Rattle.svc_graph.specs.declared.plan.EndpointPlan.{EndpointPlan}
use Rattle.svc_handover.specs.Law.{AreTextual}
use Rattle.svc_handover.proofs.addresses.read_endpoints.Goals as goal

pub loop-endpoint-preserved : goal.loop-endpoint-preserved
loop-endpoint-preserved c =
    All-more (λ (e : EndpointPlan). IsUtf8 e.address) c.args.endpoints.now c.loop-endpoint.endpoint-index c.endpoint-item.result c.loop-endpoint-test.true
    c.loop-endpoint.invariant
    (subst (λ (e : EndpointPlan). IsUtf8 e.address) c.endpoint-item.is c.read_address.ensures)

pub returns : goal.returns
returns c = subst AreTextual (take_all c.loop-endpoint.endpoint-index c.args.endpoints.now c.loop-endpoint-test.false) c.loop-endpoint.invariant
