use Rattle.std.proofs.Common.{refl, sym, ap, ◌∙◌, arith, length}
use Rattle.svc_server.specs.Servers.{plan_of, answers_of, is_test}
use Rattle.svc_job_host.specs.contracts.service.JobServiceServiceWithDependents as services
use Rattle.svc_job_host.specs.Dues.{due_runs}
use Rattle.svc_job_host.specs.Timetables.{periods_of}
use Rattle.svc_job_host.proofs.EndLemmas.{all_notify}
use Rattle.svc_main.proofs.ScriptAnswerLemmas.{if_ok}
use Rattle.svc_jobs.proofs.RunLemmas.{may_answer, job_run, leaves_jobs}
use Rattle.svc_jobs.proofs.runs.run_host.Goals as goal

pub end_of-requires : goal.end_of-requires
end_of-requires c =
    let ran = c.run_jobs-answer.ensures in
    let periods = periods_of c.args.host.now.plans in
    let p = plan_of c.args.server.configuration c.args.server.options c.args.server.eager c.args.server.dependencies
    (answers_of services.TheImpl.ghosts c.args.server.services.items) in
    may_answer _ p c.args.turns c.run_jobs-answer.result c.args.server.configuration c.run_jobs-answer.new.host
    periods c.args.host.now.items (ap is_test c.requires.bare.0) ran.periods ran.items c.requires.turns
    (leaves_jobs _ p c.args.turns c.run_jobs-answer.result c.args.server.configuration c.run_jobs-answer.new.host periods ran.periods
    ran.jobs ran.words ran.next ran.order ran.tells.ends (λ key e. (ran.config key).0 e) c.read_kept.ensures.words)

pub returns-clause-run : goal.returns-clause-run
returns-clause-run c = λ parts server paced given.
    let ran = c.run_jobs-answer.ensures in
    let periods = periods_of c.args.host.now.plans in
    let p = plan_of c.args.server.configuration c.args.server.options c.args.server.eager c.args.server.dependencies
    (answers_of services.TheImpl.ghosts c.args.server.services.items) in
    if_ok _ _ c.end_of.result c.end_of.ensures (λ end is.
    job_run _ parts end c.args.turns c.run_jobs-answer.result c.args.server.configuration c.args.server.options c.args.server.eager
    c.args.server.dependencies _
    (answers_of services.TheImpl.ghosts c.args.server.services.items) c.run_jobs-answer.new.host server
    (all_notify services.TheImpl.ghosts c.args.server.configuration c.args.server.options c.args.server.eager c.args.server.dependencies
    c.args.server.services.items (λ b. refl)) is (ran.periods ∙ sym paced) (ran.items ∙ sym given)
    (omega (arith, c.requires.turns, ap length paced, ap length given))
    (leaves_jobs _ p c.args.turns c.run_jobs-answer.result c.args.server.configuration c.run_jobs-answer.new.host periods ran.periods
    ran.jobs ran.words ran.next ran.order ran.tells.ends (λ key e. (ran.config key).0 e) c.read_kept.ensures.words))

pub returns-clause-due : goal.returns-clause-due
returns-clause-due c =
    c.run_jobs-answer.ensures.jobs.runs
    ∙ ap (λ ps. due_runs ps c.run_jobs-answer.new.host.entries) c.run_jobs-answer.ensures.periods
