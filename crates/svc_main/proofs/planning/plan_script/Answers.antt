use Rattle.std.proofs.Common.{ap, ◌∙◌}
use Rattle.svc_text.specs.Outcome.{parts_of}
use Rattle.svc_server.specs.Servers.{answers_of}
use Rattle.svc_services.specs.contracts.script_service.ScriptServiceServiceWithDependents as services
use Rattle.svc_services.proofs.ServerLemmas.{server_is, same_plan}
use Rattle.svc_main.proofs.planning.plan_script.Goals as goal

pub returns-in-Ok-plan-clause-plan : goal.returns-in-Ok-plan-clause-plan
returns-in-Ok-plan-clause-plan c =
    let set = c.configured-server.ensures in
    let server =
    server_is c.args.opt
    (parts_of c.args.script) _ _ _ _ _ _ _ _ _ _ set.configuration set.options c.in-Ok.ensures.eager set.eager set.dependencies set.filters
    (ap (answers_of services.TheImpl.ghosts) set.services) c.in-Ok.ensures.lines in
    c.in-Ok-plan.ensures.plan ∙ same_plan c.args.opt (parts_of c.args.script) _ _ _ _ _ _ server
