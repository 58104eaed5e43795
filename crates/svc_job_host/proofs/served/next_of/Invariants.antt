use Rattle.svc_moments.specs.Least.{IsLeast}
use Rattle.svc_job_host.specs.Rows.{IsDueAmong}
use Rattle.svc_job_host.proofs.served.next_of.Given as goal

abbrev pub invariant-loop-s : goal.invariant-loop-s
invariant-loop-s l = IsLeast (IsDueAmong l.rows l.last l.s) l.least
