-- When jobs run. The jobs' periods stand by their numbers, in milliseconds; `q` is a record, whose newest entry stands first.
use Rattle.std.specs.Prelude.{ℕ, Bool, false, ◌==◌, ◌-◌, ◌/◌, not, ◌&&◌, ◌||◌, List, [], ◌∷◌, ◌++◌, length, Option, Some, None, nat_lt, slice_index, filter, if◌then◌else◌}
use Rattle.std.specs.List.{flat_map, range_with_len}
use Rattle.svc_record.specs.declared.entry.Entry.{Entry}
use Rattle.svc_record.specs.declared.entry.Entry.TheVariants.{Got, Told}
use Rattle.svc_record.specs.declared.event.Event.TheVariants.{Moment}
use Rattle.svc_record.specs.declared.action.Action.TheVariants.{Start}
use Rattle.svc_record.specs.Record.{Record, has, now, is_runtimes}
use Rattle.svc_record.specs.Closes.{is_broadcast}
use Rattle.svc_job_host.specs.declared.plan.JobRun.{JobRun}

-- the shutdown's broadcast, or the phase that ends the runtimes
abbrev pub is_shutdown : Entry → Bool
is_shutdown e = is_broadcast e || is_runtimes e

-- the moment at which the job was started, if it was
abbrev pub start_moment : Record → ℕ → Option ℕ
start_moment [] s = None
start_moment (Told (Start t) ∷ before) s = if t == s then Some (now before) else start_moment before s
start_moment (e ∷ before) s = start_moment before s

-- the period of job s
abbrev pub period : List ℕ → ℕ → ℕ
period periods s = slice_index periods s

-- the numbers of the jobs, ascending
abbrev pub jobs_of : List ℕ → List ℕ
jobs_of periods = range_with_len 0 (length periods)

-- how many of the moments t + every, t + 2 * every and so on lie after `last` and up to m
abbrev pub due_between : ℕ → ℕ → ℕ → ℕ → ℕ
due_between every t last m = (m - t) / every - (last - t) / every

-- the same of a job that was started at t; none of one that wasn't
abbrev pub due_since : ℕ → Option ℕ → ℕ → ℕ → ℕ
due_since every None last m = 0
due_since every (Some t) last m = due_between every t last m

-- how many due moments of job s are counted at the moment m, which comes after q: those since the last moment; none from the shutdown on, and none
-- where time goes back
abbrev pub due_at : List ℕ → Record → ℕ → ℕ → ℕ
due_at periods q m s = if has is_shutdown q || nat_lt m (now q) then 0 else due_since (period periods s) (start_moment q s) (now q) m

-- a job that has due moments runs once, for all of them
abbrev pub run_of : ℕ → ℕ → ℕ → List JobRun
run_of s due m = if due == 0 then [] else record { job = s; due = due; moment = m } ∷ []

-- the runs at the moment m, which comes after q, in ascending number of the jobs
abbrev pub runs_at : List ℕ → Record → ℕ → List JobRun
runs_at periods q m = flat_map (λ s. run_of s (due_at periods q m s) m) (jobs_of periods)

-- all runs that are due by the record, the oldest first
abbrev pub due_runs : List ℕ → Record → List JobRun
due_runs periods [] = []
due_runs periods (Got (Moment m) ∷ before) = due_runs periods before ++ runs_at periods before m
due_runs periods (e ∷ before) = due_runs periods before

-- job s has run
abbrev pub has_run : List ℕ → Record → ℕ → Bool
has_run periods [] s = false
has_run periods (Got (Moment m) ∷ before) s = has_run periods before s || not (due_at periods before m s == 0)
has_run periods (e ∷ before) s = has_run periods before s

-- job s runs at the moment m, which comes after q, for the first time
abbrev pub runs_first : List ℕ → Record → ℕ → ℕ → Bool
runs_first periods q m s = not (due_at periods q m s == 0) && not (has_run periods q s)

-- the jobs that do, in ascending number
abbrev pub firsts_at : List ℕ → Record → ℕ → List ℕ
firsts_at periods q m = filter (runs_first periods q m) (jobs_of periods)
