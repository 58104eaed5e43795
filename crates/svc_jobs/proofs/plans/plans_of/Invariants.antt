use Rattle.std.proofs.Common.{◌≡◌, take}
use Rattle.svc_job_host.specs.Timetables.{periods_of}
use Rattle.svc_jobs.proofs.plans.plans_of.Given as goal

abbrev pub invariant-loop-s : goal.invariant-loop-s
invariant-loop-s l = periods_of l.plans.items ≡ take l.s l.periods
