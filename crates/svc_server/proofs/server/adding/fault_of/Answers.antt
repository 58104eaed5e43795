use Rattle.std.proofs.Common.{sym, ap, ◌∙◌, List, arith, ◌<◌}
use Rattle.svc_graph.specs.Graphs.{node_count}
use Rattle.svc_graph.specs.declared.plan.EndpointPlan.{EndpointPlan}
use Rattle.svc_server.specs.Servers.{answer_of}
use Rattle.svc_server.specs.Additions.{first_cause, endpoint_causes}
use Rattle.svc_server.proofs.AddLemmas.{fault-room}
use Rattle.svc_server.proofs.server.adding.fault_of.Goals as goal

pub returns : goal.returns
returns g c =
    let room : node_count c.args.graph.now < 1024 = omega (arith, c.if-len-ge-NODE_LIMIT.false, c.len.ensures.count) in
    c.endpoints_fault.ensures
    ∙ ap (λ (es : List EndpointPlan). first_cause (endpoint_causes c.args.filters es)) (c.deref.ensures.value ∙ c.in_ok-endpoints.ensures)
    ∙ sym (fault-room c.args.graph.now c.args.filters (answer_of g.B.ServiceWithDependents c.args.service.now) room)
