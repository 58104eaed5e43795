use Rattle.std.proofs.Common.{arith, subst}
use Rattle.std.specs.Prelude.{Option, IfSome}
use Rattle.svc_graph.specs.GraphData.{GraphData}
use Rattle.svc_record.specs.Plans.{service_count}
use Rattle.svc_record.specs.Building.{IsGraphUpTo}
use Rattle.svc_record.proofs.OrderLemmas.{order-plan, in-order}
use Rattle.svc_record.proofs.validity.startup_graph.Goals as goal

pub returns-in-Ok-clause-graph : goal.returns-in-Ok-clause-graph
returns-in-Ok-clause-graph c = subst
    (λ (found : Option GraphData). IfSome found (λ graph. IsGraphUpTo c.args.plan.now (service_count c.args.plan.now) graph)) c.in-Some.is
    c.in_ok-graph.ensures.some

pub returns-in-Ok-clause-least : goal.returns-in-Ok-clause-least
returns-in-Ok-clause-least c =
    let graph : IsGraphUpTo c.args.plan.now (service_count c.args.plan.now) c.in-Some.graph = subst
    (λ (found : Option GraphData). IfSome found (λ graph. IsGraphUpTo c.args.plan.now (service_count c.args.plan.now) graph)) c.in-Some.is
    c.in_ok-graph.ensures.some in
    order-plan c.args.plan.now c.in-Some.graph graph c.in-Ok.ensures.graph c.in-Ok.order.items c.in-Ok.ensures.order

pub returns-in-Ok-clause-in_order : goal.returns-in-Ok-clause-in_order
returns-in-Ok-clause-in_order c =
    let graph : IsGraphUpTo c.args.plan.now (service_count c.args.plan.now) c.in-Some.graph = subst
    (λ (found : Option GraphData). IfSome found (λ graph. IsGraphUpTo c.args.plan.now (service_count c.args.plan.now) graph)) c.in-Some.is
    c.in_ok-graph.ensures.some in
    in-order c.args.plan.now c.in-Ok.order.items (omega (arith, c.in-Ok.order.ok.0, c.in-Ok.ensures.size, graph.nodes, c.requires.few))
    (order-plan c.args.plan.now c.in-Some.graph graph c.in-Ok.ensures.graph c.in-Ok.order.items c.in-Ok.ensures.order)
