use Rattle.std.proofs.Common.{length}
use Rattle.svc_jobs.proofs.PeriodLemmas.{only_memory}
use Rattle.svc_jobs.proofs.runs.host_of.Goals as goal

pub memory_alone-requires : goal.memory_alone-requires
memory_alone-requires c =
    only_memory c.in-Ok.plans.items (length c.in-Ok-quiet_jobs.jobs.items) c.args.periods.now c.in-Err-new.refused.reason c.in-Ok.ensures
    c.in-Ok-quiet_jobs.ensures c.requires.few c.requires.paced c.in-Err-new.ensures.cause
