use Rattle.std.proofs.Common.{map}
use Rattle.svc_job_host.specs.Timetables.{periods_of}
use Rattle.svc_job_host.proofs.HeardLemmas.{heard_none}
use Rattle.svc_job_host.proofs.HostLemmas.{keeps_new}
use Rattle.svc_job_host.proofs.host.JobHost.new.Goals as goal

pub new-host-requires : goal.new-host-requires
new-host-requires g c =
    let table = rw c.deref-2.ensures.value at c.in-Ok.ensures.table in
    rw c.new-runner.ensures
    (record {
      jobs = keeps_new (periods_of c.args.plans.items) c.in-Ok.timetable c.args.items.items table;
      heard = heard_none (map g.J.Job.told c.args.jobs.items) c.in-Ok.timetable.runs table.runs_are;
    })
