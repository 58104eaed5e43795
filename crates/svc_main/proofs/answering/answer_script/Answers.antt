use Rattle.std.proofs.Common.{ap, refl}
use Rattle.svc_text.specs.Outcome.{parts_of}
use Rattle.svc_server.specs.Servers.{answers_of}
use Rattle.svc_services.specs.contracts.script_service.ScriptServiceServiceWithDependents as services
use Rattle.svc_services.proofs.ServerLemmas.{server_is}
use Rattle.svc_main.proofs.ScriptAnswerLemmas.{if_ok, ran_answer}
use Rattle.svc_main.proofs.answering.answer_script.Goals as goal

pub returns-in-Ok : goal.returns-in-Ok
returns-in-Ok c =
    let set = c.configured-server.ensures in
    let server =
    server_is c.args.opt
    (parts_of c.args.script) _ _ _ _ _ _ _ _ _ _ set.configuration set.options c.in-Ok.ensures.eager set.eager set.dependencies set.filters
    (ap (answers_of services.TheImpl.ghosts) set.services) c.in-Ok.ensures.lines in
    if_ok _ _ c.run_script.result (c.run_script.ensures c.args.opt (parts_of c.args.script) server refl)
    (λ a h. ran_answer c.args.opt (parts_of c.args.script) c.args.script.lines.items a.line _ c.in-Ok.ensures.edges h)
