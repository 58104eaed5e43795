use Rattle.std.proofs.Common.{arith}
use Rattle.svc_record.proofs.OrderLemmas.{order-plan, in-order}
use Rattle.svc_core.proofs.machine.Core.with_graph.Goals as goal

pub in_order-requires-clause-least : goal.in_order-requires-clause-least
in_order-requires-clause-least c =
    order-plan c.args.plan c.args.graph.now c.requires.graph c.in-Ok.ensures.graph c.in-Ok.order.items c.in-Ok.ensures.order

pub in_order-requires-clause-in_order : goal.in_order-requires-clause-in_order
in_order-requires-clause-in_order c =
    in-order c.args.plan c.in-Ok.order.items (omega (arith, c.in-Ok.order.ok.0, c.in-Ok.ensures.size, c.requires.graph.nodes, c.requires.valid.few))
    (order-plan c.args.plan c.args.graph.now c.requires.graph c.in-Ok.ensures.graph c.in-Ok.order.items c.in-Ok.ensures.order)
