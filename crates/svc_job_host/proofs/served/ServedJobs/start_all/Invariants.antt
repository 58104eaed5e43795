-- Those of the jobs that were passed have started that were to start.
use Rattle.svc_job_host.specs.JobRecords.{with_starts}
use Rattle.svc_job_host.specs.ServedJobs.{StartBy}
use Rattle.svc_job_host.proofs.served.ServedJobs.start_all.Given as goal

abbrev pub invariant-loop-s : goal.invariant-loop-s
invariant-loop-s l = StartBy l.fn.self l.self (λ q. with_starts l.fn.self.plans q l.s)
