use Rattle.std.proofs.Common.{arith}
use Rattle.std.proofs.lemmas.List.{length-map}
use Rattle.svc_job_host.specs.declared.plan.JobPlan.{JobPlan}
use Rattle.svc_job_host.proofs.ServedLemmas.{starts-one}
use Rattle.svc_job_host.proofs.served.ServedJobs.start_one.Goals as goal

pub returns-then-may_start : goal.returns-then-may_start
returns-then-may_start c =
    let starts = rw (c.as_slice.ensures.value, c.rows.ensures.rows) at c.may_start.ensures in
    rw (← c.self.view_is, c.note_start.ensures)
    (starts-one _ c.args.s c.may_start.result c.if-may_start.true
    (λ q known. starts q (λ k lt. known.rows_are k (omega (arith, lt, length-map c.self.inside.plans.items (λ (p : JobPlan). p.every))))))
