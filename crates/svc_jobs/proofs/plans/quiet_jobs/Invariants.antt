use Rattle.std.proofs.Common.{◌≡◌, length}
use Rattle.svc_jobs.proofs.plans.quiet_jobs.Given as goal

abbrev pub invariant-loop-k : goal.invariant-loop-k
invariant-loop-k l = length l.jobs.items ≡ l.k
