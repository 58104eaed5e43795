use Rattle.std.proofs.Common.{◌≡◌, ℕ, List, true, refl, subst, ap, map, ◌∙◌}
use Rattle.svc_record.specs.Record.{EachEntry}
use Rattle.svc_server.specs.Hosts.{HostMake}
use Rattle.svc_server.specs.Servers.{plan_of, answers_of}
use Rattle.svc_job_host.specs.contracts.service.JobServiceServiceWithDependents as services
use Rattle.svc_job_host.specs.Dues.{due_runs}
use Rattle.svc_job_host.specs.JobRuns.{EndsTold, start_after_runs}
use Rattle.svc_job_host.specs.Timetables.{periods_of}
use Rattle.svc_job_host.proofs.EndLemmas.{ends_told, all_notify, risen}
use Rattle.svc_job_host.proofs.AfterLemmas.{after_run, all_bare}
use Rattle.svc_job_host.proofs.MakeLemmas.{heard_since, make_is, none_yet}
use Rattle.svc_job_host.proofs.run.run_jobs.Goals as goal

pub returns-clause-periods : goal.returns-clause-periods
returns-clause-periods g c = ap (λ (m : HostMake). m.numbers) (make_is _ _ c.run-answer.ensures.made)

pub returns-clause-items : goal.returns-clause-items
returns-clause-items g c = ap (λ (m : HostMake). m.items) (make_is _ _ c.run-answer.ensures.made)

pub returns-clause-heard : goal.returns-clause-heard
returns-clause-heard g c =
    heard_since (map g.J.Job.told c.args.host.now.jobs) (map g.J.Job.told c.run-answer.new.host.jobs) c.args.host.now.runs c.run-answer.new.host.runs
    (c.read_kept.ensures.tells.runs ∙ ap (due_runs (periods_of c.args.host.now.plans)) (none_yet _ _ c.requires.first))
    c.read_kept-2.ensures.tells.heard
    (ap (λ (m : HostMake). m.told) (make_is _ _ c.run-answer.ensures.made))

pub returns-clause-words : goal.returns-clause-words
returns-clause-words g c =
    subst (λ (ps : List ℕ). EndsTold c.run-answer.result ps c.run-answer.new.host.entries)
    (ap (λ (m : HostMake). m.numbers) (make_is _ _ c.run-answer.ensures.made))
    (ends_told _ c.args.args.turns c.run-answer.result (periods_of c.run-answer.new.host.plans) c.run-answer.new.host.entries
    (all_notify _ c.args.server.configuration c.args.server.options c.args.server.eager c.args.server.dependencies c.args.server.services.items (λ b. refl))
    c.read_kept-2.ensures.words c.run-answer.ensures.tells.ends
    (λ e. c.read_kept-2.ensures.faulted_last (risen _ _ (rw e at c.run-answer.ensures.counts).0))
    (λ e. c.read_kept-2.ensures.finished_last (risen _ _ (rw e at c.run-answer.ensures.counts).1)))

pub returns-clause-order : goal.returns-clause-order
returns-clause-order g c =
    subst (λ (ps : List ℕ). EachEntry (λ e before. start_after_runs (plan_of c.args.server.configuration c.args.server.options c.args.server.eager
    c.args.server.dependencies (answers_of services.TheImpl.ghosts c.args.server.services.items)) ps e before ≡ true) c.run-answer.new.host.entries)
    (ap (λ (m : HostMake). m.numbers) (make_is _ _ c.run-answer.ensures.made))
    (after_run _ (periods_of c.run-answer.new.host.plans) c.args.args.turns c.run-answer.result c.run-answer.new.host.entries
    (all_notify _ c.args.server.configuration c.args.server.options c.args.server.eager c.args.server.dependencies c.args.server.services.items (λ b. refl))
    (all_bare _ c.args.server.configuration c.args.server.options c.args.server.eager c.args.server.dependencies c.args.server.services.items (λ b. refl))
    c.read_kept-2.ensures.words c.run-answer.ensures.tells.ends)
