use Rattle.std.proofs.Common.{ap, length}
use Rattle.svc_text.specs.Outcome.{parts_of}
use Rattle.svc_server.specs.Servers.{answers_of}
use Rattle.svc_services.specs.contracts.script_service.ScriptServiceServiceWithDependents as services
use Rattle.svc_services.proofs.ServerLemmas.{filtered_server_is}
use Rattle.svc_services.proofs.services.filtered_script.Goals as goal

pub returns-in-Ok-clause-server : goal.returns-in-Ok-clause-server
returns-in-Ok-clause-server g c =
    let set = c.with_script.ensures in
    filtered_server_is c.args.opt
    (parts_of c.args.script) _ _ _ _ _ _ _ _ _ _ set.configuration set.options c.in-Ok.ensures.eager set.eager set.dependencies (ap length set.filters)
    (ap (answers_of services.TheImpl.ghosts) set.services) c.in-Ok.ensures.services
