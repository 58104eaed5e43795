use Rattle.std.proofs.Common.{ap, List, Some}
use Rattle.svc_job_host.specs.declared.plan.JobRun.{JobRun}
use Rattle.svc_job_host.specs.JobMakes.{make_of}
use Rattle.svc_job_host.specs.Timetables.{periods_of}
use Rattle.svc_job_host.proofs.TableLemmas.{runs-noted}
use Rattle.svc_job_host.proofs.HostLemmas.{keeps_told}
use Rattle.svc_job_host.proofs.runner.JobRunnerInnerHost.note.Goals as goal

pub returns-clause-keeps : goal.returns-clause-keeps
returns-clause-keeps g c =
    rw (c.note.ensures, ← c.self.view_is)
    (λ q faults idles kept. record {
      jobs = keeps_told
          (periods_of c.self.inside.plans.items) c.self.inside.timetable c.self.inside.items.items c.self.inside.given q faults idles c.args.action.now
          kept.jobs;
      heard = rw (runs-noted c.self.inside.timetable c.args.action.now) kept.heard;
    })

pub returns-clause-made : goal.returns-clause-made
returns-clause-made g c =
    rw (c.note.ensures, ← c.self.view_is)
    (λ q faults idles kept.
    ap (λ (runs : List JobRun). Some (make_of g.J.Job.told c.self.inside.plans.items c.self.inside.items.items c.self.inside.jobs.items runs))
    (runs-noted c.self.inside.timetable c.args.action.now))
