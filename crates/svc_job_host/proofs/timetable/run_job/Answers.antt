use Rattle.std.proofs.Common.{map}
use Rattle.svc_job_host.proofs.HeardLemmas.{heard, unheard}
use Rattle.svc_job_host.proofs.timetable.run_job.Goals as goal

pub returns-then-due-ne0 : goal.returns-then-due-ne0
returns-then-due-ne0 g c =
    λ told at. heard g.J.Job.told c.args.jobs.now c.args.s c.args.due c.run.new.self c.index-jobs-s.result told at c.if-due-ne0.true c.run.ensures

pub returns-else-due-ne0 : goal.returns-else-due-ne0
returns-else-due-ne0 g c = λ told at. unheard (map g.J.Job.told c.args.jobs.now) c.args.s c.args.due told at c.if-due-ne0.false
