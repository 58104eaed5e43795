use Rattle.std.proofs.Common.{◌≡◌, false, take, bytes_eq}
use Rattle.std.specs.List.{list_any}
use Rattle.svc_graph.specs.declared.plan.EndpointPlan.{EndpointPlan}
use Rattle.svc_endpoints.proofs.naming.has_endpoint.Given as goal

abbrev pub invariant-loop-endpoint : goal.invariant-loop-endpoint
invariant-loop-endpoint l = list_any (λ (x : EndpointPlan). bytes_eq x.address l.address) (take l.endpoint-index l.list) ≡ false
