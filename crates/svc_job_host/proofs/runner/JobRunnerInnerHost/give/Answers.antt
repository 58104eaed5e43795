use Rattle.std.proofs.Common.{ap, Some}
use Rattle.svc_server.specs.Hosts.{HostMake}
use Rattle.svc_job_host.specs.Timetables.{periods_of}
use Rattle.svc_job_host.proofs.runner.JobRunnerInnerHost.give.Goals as goal

pub returns-in-Some-clause-keeps : goal.returns-in-Some-clause-keeps
returns-in-Some-clause-keeps g c =
    let keeps = rw (← c.self.view_is) at c.take_ready.ensures.keeps in
    rw (← c.self.view_is) (λ q faults idles kept. keeps q faults idles kept (c.in-Some.ensures.owing (periods_of c.self.inside.plans.items) q kept.jobs.table))

pub returns-in-None-clause-keeps : goal.returns-in-None-clause-keeps
returns-in-None-clause-keeps g c =
    let keeps = rw (← c.self.view_is) at c.give_item.ensures.keeps in
    rw (← c.self.view_is) (λ q faults idles kept. keeps q faults idles kept (c.in-None.ensures.owing (periods_of c.self.inside.plans.items) q kept.jobs.table))

pub returns-in-None-clause-made : goal.returns-in-None-clause-made
returns-in-None-clause-made g c =
    let made = rw (← c.self.view_is) at c.give_item.ensures.made in
    rw (← c.self.view_is) (λ q faults idles kept. ap (λ (m : HostMake). Some m) (made q faults idles kept))
