-- What a timetable knows of each job.
use Rattle.std.specs.Prelude.{ℕ, Bool, true, false, ◌≡◌, ◌==◌, ◌<◌, not, ◌&&◌, ◌||◌, List, [], ◌∷◌, ◌++◌, map, Option, Some, None, slice_get, filter, if◌then◌else◌}
use Rattle.std.specs.Option.{option_map}
use Rattle.std.specs.List.{flat_map, range_with_len}
use Rattle.svc_record.specs.declared.entry.Entry.TheVariants.{Got}
use Rattle.svc_record.specs.declared.event.Event.TheVariants.{Moment, Ready}
use Rattle.svc_record.specs.Record.{Record}
use Rattle.svc_job_host.specs.declared.plan.JobPlan.{JobPlan}
use Rattle.svc_job_host.specs.declared.plan.JobRun.{JobRun}
use Rattle.svc_job_host.specs.declared.row.JobRow.{JobRow}
use Rattle.svc_job_host.specs.Dues.{period, jobs_of, start_moment, due_since, run_of, has_run, runs_first}

-- job s has run, and hasn't said yet that it is ready
abbrev pub owes : List ℕ → Record → ℕ → Bool
owes periods [] s = false
owes periods (Got (Moment m) ∷ before) s = owes periods before s || runs_first periods before m s
owes periods (Got (Ready k) ∷ before) s = owes periods before s && not (k == s)
owes periods (e ∷ before) s = owes periods before s

-- the jobs that owe it, in ascending number
abbrev pub owing : List ℕ → Record → List ℕ
owing periods q = filter (owes periods q) (jobs_of periods)

-- what stands of job s after the record
abbrev pub row_of : List ℕ → Record → ℕ → JobRow
row_of periods q s = record { every = period periods s; started = start_moment q s; ran = has_run periods q s; owes = owes periods q s }

-- how many due moments the job has since the last moment
abbrev pub row_due : JobRow → ℕ → ℕ → ℕ
row_due row last m = due_since row.every row.started last m

-- the row of a job that ran for so many due moments
abbrev pub ran_row : JobRow → ℕ → JobRow
ran_row row due = if due == 0 then row else record row { ran = true; owes = row.owes || not row.ran }

-- the due moments of the job in the row, where there is one
abbrev pub due_in : Option JobRow → ℕ → ℕ → ℕ
due_in None last m = 0
due_in (Some row) last m = row_due row last m

-- the job in the row, where there is one, has run
abbrev pub has_run_in : Option JobRow → Bool
has_run_in None = false
has_run_in (Some row) = row.ran

-- one of the first n jobs has due moments
pub record IsDueAmong (rows : List JobRow) (last n m : ℕ) : Type 0 where
  pub job : ℕ
  pub there : job < n
  pub due : 0 < due_in (slice_get rows job) last m

-- the runs of the first n jobs
abbrev pub runs_in : List JobRow → ℕ → ℕ → ℕ → List JobRun
runs_in rows last m n = flat_map (λ s. run_of s (due_in (slice_get rows s) last m) m) (range_with_len 0 n)

-- each of the jobs has a period
abbrev pub ArePaced : List JobRow → Type 0
ArePaced rows = (s : ℕ) (row : JobRow) → slice_get rows s ≡ Some row → 0 < row.every

-- each plan has a period
abbrev pub HavePeriods : List JobPlan → Type 0
HavePeriods plans = (s : ℕ) (plan : JobPlan) → slice_get plans s ≡ Some plan → 0 < plan.every

-- a row for each plan, of a job that wasn't started yet
abbrev pub AreNewRows : List JobPlan → List JobRow → Type 0
AreNewRows plans rows = rows ≡ map (λ (plan : JobPlan). record { every = plan.every; started = None; ran = false; owes = false }) plans

-- what a job was told, after a run for so many due moments
abbrev pub told_after : Option (List ℕ) → ℕ → Option (List ℕ)
told_after told due = if due == 0 then told else option_map (λ numbers. numbers ++ due ∷ []) told
