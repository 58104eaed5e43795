-- What contracts see of a timetable.
use Rattle.std.specs.Prelude.{ℕ, Bool, List}
use Rattle.svc_job_host.specs.declared.plan.JobRun.{JobRun}
use Rattle.svc_job_host.specs.declared.row.JobRow.{JobRow}

-- what is known of each job, by number; the last moment; whether the shutdown has begun; the runs, the oldest first; and for how many more of them
-- there is memory
pub record TimetableData : Type 0 where
  pub rows : List JobRow
  pub last : ℕ
  pub shut : Bool
  pub runs : List JobRun
  pub spare : ℕ
