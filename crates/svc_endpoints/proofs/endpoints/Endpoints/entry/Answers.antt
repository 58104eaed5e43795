use Rattle.std.proofs.Common.{subst, ◌≡◌, true}
use Rattle.svc_base.specs.NumberSets.{distinct}
use Rattle.svc_endpoints.specs.EndpointsData.{EndpointsRoom}
use Rattle.svc_endpoints.specs.EndpointsState.{open_numbers}
use Rattle.svc_endpoints.proofs.endpoints.Endpoints.entry.Goals as goal

pub returns-clause-once : goal.returns-clause-once
returns-clause-once c = subst (λ (e : EndpointsRoom). distinct (open_numbers e.parts) ≡ true) c.self.view_is c.self.invariant.1.once
