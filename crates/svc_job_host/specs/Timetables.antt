-- What a timetable keeps of a record.
use Rattle.std.specs.Prelude.{ℕ, true, false, ◌≡◌, ◌<◌, List, length, map, Option, Some, None, slice_get, slice_set}
use Rattle.svc_record.specs.declared.action.Action.{Action}
use Rattle.svc_record.specs.declared.action.Action.TheVariants.{Start, Broadcast, Phase}
use Rattle.svc_record.specs.declared.action.ExecutionPhase.TheVariants.{ShutdownRuntimes}
use Rattle.svc_record.specs.Record.{Record, has, now}
use Rattle.svc_job_host.specs.declared.plan.JobPlan.{JobPlan}
use Rattle.svc_job_host.specs.declared.row.JobRow.{JobRow}
use Rattle.svc_job_host.specs.Dues.{is_shutdown, due_runs}
use Rattle.svc_job_host.specs.Rows.{row_of}
use Rattle.svc_job_host.specs.TimetableData.{TimetableData}

-- the periods of the plans
abbrev pub periods_of : List JobPlan → List ℕ
periods_of plans = map (λ (p : JobPlan). p.every) plans

-- it is of the record: what it knows of each job, the last moment, the shutdown and the runs are the record's
pub record IsTimetableOf (periods : List ℕ) (t : TimetableData) (q : Record) : Type 0 where
  pub rows_are : (s : ℕ) → s < length periods → slice_get t.rows s ≡ Some (row_of periods q s)
  pub sized : length t.rows ≡ length periods
  pub last_is : t.last ≡ now q
  pub shut_is : t.shut ≡ has is_shutdown q
  pub runs_are : t.runs ≡ due_runs periods q

-- the row of a job that was started at this moment
abbrev pub started_row : JobRow → ℕ → JobRow
started_row row moment = record row { started = Some moment }

-- the row of a job that has said that it is ready
abbrev pub told_row : JobRow → JobRow
told_row row = record row { owes = false }

-- the rows with this one at the place, if there is one
abbrev pub with_row : List JobRow → ℕ → (JobRow → JobRow) → List JobRow
with_row rows s change = put (slice_get rows s)
  where
    put : Option JobRow → List JobRow
    put None = rows
    put (Some row) = slice_set rows s (change row)

-- the timetable after an action
abbrev pub noted : TimetableData → Action → TimetableData
noted t (Start s) = record t { rows = with_row t.rows s (λ row. started_row row t.last) }
noted t Broadcast = record t { shut = true }
noted t (Phase ShutdownRuntimes ms) = record t { shut = true }
noted t _ = t

-- the timetable after a job has said that it is ready
abbrev pub readied : TimetableData → ℕ → TimetableData
readied t s = record t { rows = with_row t.rows s told_row }
