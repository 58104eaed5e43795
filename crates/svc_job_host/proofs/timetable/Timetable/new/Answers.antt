use Rattle.std.proofs.Common.{sym, subst, List, [], false}
use Rattle.svc_base.specs.Items.{spare}
use Rattle.svc_job_host.specs.declared.plan.JobRun.{JobRun}
use Rattle.svc_job_host.specs.Timetables.{IsTimetableOf, periods_of}
use Rattle.svc_job_host.proofs.TableLemmas.{table_new, paced_new, few_rows}
use Rattle.svc_job_host.proofs.timetable.Timetable.new.Goals as goal

pub invariant_of-result : goal.invariant_of-result
invariant_of-result c = (
  paced_new c.args.plans.now c.in_ok-rows.rows.items c.in_ok-rows.ensures c.requires.periods,
  few_rows c.args.plans.now c.in_ok-rows.rows.items c.in_ok-rows.ensures c.requires.few,
)

pub returns : goal.returns
returns c = record {
  table = subst
      (λ (runs : List JobRun). IsTimetableOf (periods_of c.args.plans.now)
      (record { rows = c.in_ok-rows.rows.items; last = 0; shut = false; runs = runs; spare = spare c.new.result }) [])
      (sym c.new.ensures) (table_new c.args.plans.now c.in_ok-rows.rows.items (spare c.new.result) c.in_ok-rows.ensures);
}
