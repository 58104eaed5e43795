-- What contracts see of the jobs of a service that is served.
use Rattle.std.specs.Prelude.{ℕ, Bool, List}
use Rattle.svc_job_host.specs.declared.plan.JobPlan.{JobPlan}
use Rattle.svc_job_host.specs.TimetableData.{TimetableData}

-- the service's number, the plans of the jobs by their numbers, what is known of the jobs, and whether the service was started
pub record ServedJobsData : Type 0 where
  pub service : ℕ
  pub plans : List JobPlan
  pub timetable : TimetableData
  pub started : Bool
