use Rattle.svc_server.specs.InnerHosts.{counted}
use Rattle.svc_job_host.specs.Timetables.{periods_of}
use Rattle.svc_job_host.proofs.RangeLemmas.{nothing_past}
use Rattle.svc_job_host.proofs.HostLemmas.{keeps_signal, keeps_end}
use Rattle.svc_job_host.proofs.runner.JobRunner.give_item.Goals as goal

pub returns-in-Signal-clause-keeps : goal.returns-in-Signal-clause-keeps
returns-in-Signal-clause-keeps g c =
    let next = rw c.deref.ensures.value at c.in-Signal.ensures in
    rw (← c.self.view_is)
    (λ q faults idles kept none. record {
      jobs = keeps_signal
          (periods_of c.self.inside.plans.items) c.self.inside.timetable c.self.inside.items.items c.self.inside.given q faults idles c.in-Signal.kind kept.jobs
          none next;
      heard = kept.heard;
    })

pub returns-in-Nothing-clause-keeps : goal.returns-in-Nothing-clause-keeps
returns-in-Nothing-clause-keeps g c =
    let next = rw c.deref.ensures.value at c.in-Nothing.ensures in
    rw (← c.self.view_is)
    (λ q faults idles kept none. record {
      jobs = keeps_end (periods_of c.self.inside.plans.items) c.self.inside.timetable c.self.inside.items.items c.self.inside.given q faults idles
          (counted idles) kept.jobs none
          (nothing_past c.self.inside.items.items c.self.inside.given next);
      heard = kept.heard;
    })
