use Rattle.std.proofs.Common.{◌∙◌}
use Rattle.svc_server.proofs.PlanLemmas.{same_plan}
use Rattle.svc_server.proofs.server.planning.service_plan.Goals as goal

pub returns-in-Ok-endpoints_of : goal.returns-in-Ok-endpoints_of
returns-in-Ok-endpoints_of g c =
    same_plan _ _ _ _ _ _ _ _ _ _ (c.in_ok-name.ensures ∙ c.name.ensures) c.kind.ensures c.in-Ok.ensures c.in-Ok-declared_of.ensures
    c.in-Ok-endpoints_of.ensures
