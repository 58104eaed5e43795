use Rattle.std.proofs.Common.{◌≡◌, ℕ, List, [], take, map, None, false}
use Rattle.svc_graph.specs.declared.plan.EndpointPlan.{EndpointPlan}
use Rattle.svc_tests_server.proofs.servers.ListenerServiceWithDependents.listener_configs.Given as goal

abbrev pub invariant-loop-address : goal.invariant-loop-address
invariant-loop-address l = l.endpoints.items ≡ map endpoint (take l.address-index l.address-items)
  where
    endpoint : List ℕ → EndpointPlan
    endpoint address = record { address = address; unix = false; options = []; filter = None }
