use Rattle.std.proofs.Common.{ap, sym, subst, ◌∙◌}
use Rattle.svc_base.specs.NumberSets.{is_in}
use Rattle.svc_endpoints.specs.EndpointsData.{EndpointsRoom}
use Rattle.svc_endpoints.specs.EndpointsState.{open_numbers}
use Rattle.svc_endpoints.proofs.CountedLemmas.{drained-counted}
use Rattle.svc_endpoints.specs.Uses.{is_drained_by}
use Rattle.svc_endpoints.specs.EndpointsState.{IsEndpointsSized}
use Rattle.svc_endpoints.proofs.endpoints.Endpoints.is_drained.Goals as goal

pub returns : goal.returns
returns c =
    λ live. c.is_let_go.ensures
    ∙ drained-counted _ _ c.self.invariant.1 c.args.plan.now
    (subst (λ (e : EndpointsRoom). IsEndpointsSized c.args.plan.now e.parts) (sym c.self.view_is) c.requires.sized) c.args.fd
    (ap (λ (e : EndpointsRoom). is_in c.args.fd (open_numbers e.parts)) c.self.view_is ∙ live)
    ∙ ap (λ (e : EndpointsRoom). is_drained_by c.args.plan.now e.parts c.args.fd) c.self.view_is
