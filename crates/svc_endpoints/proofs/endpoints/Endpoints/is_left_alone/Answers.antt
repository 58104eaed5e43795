use Rattle.std.proofs.Common.{ap, sym, ◌∙◌, bytes_eq}
use Rattle.std.specs.List.{list_any}
use Rattle.svc_graph.specs.declared.plan.EndpointPlan.{EndpointPlan}
use Rattle.svc_endpoints.proofs.OwnLemmas.{alone-left}
use Rattle.svc_endpoints.proofs.endpoints.Endpoints.is_left_alone.Goals as goal

pub returns : goal.returns
returns c = λ named.
    alone-left c.args.plan.now c.args.self.now.parts c.args.s c.args.address.now c.requires.sized.shared c.requires.service
    (sym c.has_failed.ensures ∙ c.if-not-has_failed.false) (sym c.may_share.ensures ∙ c.if-may_share.false)
    (ap (list_any (λ (x : EndpointPlan). bytes_eq x.address c.args.address.now)) (sym c.endpoints_of.ensures) ∙ sym c.has_endpoint.ensures ∙ named)
