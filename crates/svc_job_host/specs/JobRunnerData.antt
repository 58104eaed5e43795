-- What contracts see of what a host of jobs does by itself.
use Rattle.std.specs.Prelude.{ℕ, List}
use Rattle.svc_record.specs.declared.item.Item.{Item}
use Rattle.svc_job_host.specs.declared.plan.JobPlan.{JobPlan}
use Rattle.svc_job_host.specs.TimetableData.{TimetableData}

-- the plans and the jobs, by number; the items that it gives, and how many of them it gave; what is known of the jobs, and their runs
pub record JobRunnerData (J : Type 0) : Type 0 where
  pub plans : List JobPlan
  pub jobs : List J
  pub items : List Item
  pub given : ℕ
  pub timetable : TimetableData
