use Rattle.std.proofs.Common.{◌≡◌, drop}
use Rattle.svc_endpoints.specs.EndpointsState.{all_new}
use Rattle.svc_endpoints.proofs.endpoints.Endpoints.are_new.Given as goal

-- what is left tells
abbrev pub invariant-loop-k : goal.invariant-loop-k
invariant-loop-k l = all_new l.self.parts.came (drop l.k l.fds) ≡ all_new l.self.parts.came l.fds
