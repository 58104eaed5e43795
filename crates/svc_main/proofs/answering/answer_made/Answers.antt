use Rattle.std.proofs.Common.{ap, sym, subst, ◌∙◌, All}
use Rattle.svc_text.specs.Accepted.{AreAccepted, BringsFew}
use Rattle.svc_text.specs.Dependencies.{RefusesNone}
use Rattle.svc_server.specs.Servers.{answers_of}
use Rattle.svc_services.specs.contracts.script_service.ScriptServiceServiceWithDependents as services
use Rattle.svc_main.proofs.GeneratorLemmas.{services_accepted, services_sound, events_few}
use Rattle.svc_main.proofs.MadeServer.{made_lines, made_server}
use Rattle.svc_main.proofs.answering.answer_made.Goals as goal

pub server_of_services-requires-clause-accepted : goal.server_of_services-requires-clause-accepted
server_of_services-requires-clause-accepted c =
    subst AreAccepted (sym (c.as_slice.ensures.value ∙ c.in_ok-services.ensures)) (services_accepted c.args.n c.requires)

pub server_of_services-requires-clause-edges : goal.server_of_services-requires-clause-edges
server_of_services-requires-clause-edges c = subst RefusesNone (sym (c.as_slice.ensures.value ∙ c.in_ok-services.ensures)) (services_sound c.args.n)

pub run_made-requires-clause-few : goal.run_made-requires-clause-few
run_made-requires-clause-few c = subst (All BringsFew) (sym c.in-Ok-made_items.ensures) (events_few c.args.n)

pub run_made-requires-clause-lines : goal.run_made-requires-clause-lines
run_made-requires-clause-lines c =
    let set = c.configured-server.ensures in
    made_lines c.args.n _ _ _ _ _ _ _ (c.as_slice.ensures.value ∙ c.in_ok-services.ensures) set.dependencies set.filters
    (ap (answers_of services.TheImpl.ghosts) set.services) c.in-Ok.ensures.lines

pub run_made-requires-clause-server : goal.run_made-requires-clause-server
run_made-requires-clause-server c =
    let set = c.configured-server.ensures in
    made_server c.args.n _ _ _ _ _ _ _ _ _ _ _ _ _
    (c.as_slice.ensures.value ∙ c.in_ok-services.ensures) c.no_flags.ensures c.in-Ok-default.ensures set.configuration set.options c.in-Ok.ensures.eager
    set.eager set.dependencies set.filters
    (ap (answers_of services.TheImpl.ghosts) set.services) c.in-Ok.ensures.lines
