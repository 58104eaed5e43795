use Rattle.svc_job_host.proofs.ServedLemmas.{starts-more}
use Rattle.svc_job_host.proofs.served.ServedJobs.start_all.Goals as goal

pub loop-s-preserved : goal.loop-s-preserved
loop-s-preserved c = starts-more _ c.loop-s.self c.start_one.new.self c.loop-s.s c.loop-s.invariant c.start_one.ensures
