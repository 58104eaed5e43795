use Rattle.std.proofs.Common.{Some, IfSome, subst, ◌≡◌, true}
use Rattle.svc_base.specs.NumberSets.{is_in}
use Rattle.svc_endpoints.specs.EndpointsData.{EndpointsRoom}
use Rattle.svc_endpoints.proofs.CountedLemmas.{found-came}
use Rattle.svc_endpoints.proofs.endpoints.Endpoints.find.Goals as goal

pub returns-clause-came : goal.returns-clause-came
returns-clause-came c =
    subst (λ (e : EndpointsRoom). IfSome c.find.result (λ fd. is_in fd e.parts.came ≡ true)) c.self.view_is
    (found-came _ _ c.self.invariant.1 (Some c.args.address.now) c.find.result c.find.ensures)
