-- The jobs that were passed ran, and the others are as they were.
use Rattle.std.proofs.Common.{map}
use Rattle.svc_job_host.proofs.RunLemmas.{RanUpTo}
use Rattle.svc_job_host.proofs.timetable.run_all.Given as goal

abbrev pub invariant-loop-s : goal.invariant-loop-s
invariant-loop-s g l = RanUpTo l.fn.rows l.rows (map g.J.Job.told l.fn.jobs) (map g.J.Job.told l.jobs) l.fn.runs l.runs l.last l.moment l.s
