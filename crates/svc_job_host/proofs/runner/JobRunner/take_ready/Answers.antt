use Rattle.svc_job_host.specs.Timetables.{periods_of}
use Rattle.svc_job_host.proofs.HostLemmas.{keeps_ready}
use Rattle.svc_job_host.proofs.runner.JobRunner.take_ready.Goals as goal

pub returns-clause-keeps : goal.returns-clause-keeps
returns-clause-keeps g c =
    rw (c.take_ready.ensures, ← c.self.view_is)
    (λ q faults idles kept first. record {
      jobs = keeps_ready
          (periods_of c.self.inside.plans.items) c.self.inside.timetable c.self.inside.items.items c.self.inside.given q faults idles c.args.s kept.jobs first;
      heard = kept.heard;
    })
