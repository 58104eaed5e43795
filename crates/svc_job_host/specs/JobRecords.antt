-- The record of the jobs of one service, by the record of the server that has the service: moments and the shutdown come to both, and as the
-- service is started, and at each moment from then on, those jobs start that come after no others, or after others that have run. `q` is the
-- jobs' record; the newest entry stands first in both.
use Rattle.std.specs.Prelude.{ℕ, zero, suc, Bool, ◌==◌, ◌&&◌, List, [], ◌∷◌, length, Option, Some, None, is_none, nat_lt, slice_get, if◌then◌else◌}
use Rattle.std.specs.List.{list_all}
use Rattle.svc_record.specs.declared.entry.Entry.{Entry}
use Rattle.svc_record.specs.declared.entry.Entry.TheVariants.{Got, Told}
use Rattle.svc_record.specs.declared.event.Event.TheVariants.{Moment}
use Rattle.svc_record.specs.declared.action.Action.TheVariants.{Start, Broadcast, Phase}
use Rattle.svc_record.specs.declared.action.ExecutionPhase.TheVariants.{ShutdownRuntimes}
use Rattle.svc_record.specs.Record.{Record}
use Rattle.svc_record.specs.Starts.{is_started}
use Rattle.svc_job_host.specs.declared.plan.JobPlan.{JobPlan}
use Rattle.svc_job_host.specs.Dues.{start_moment, has_run}
use Rattle.svc_job_host.specs.Timetables.{periods_of}

-- the numbers of the jobs that job s comes after
abbrev pub waits_of : List JobPlan → ℕ → List ℕ
waits_of plans s = waits_in (slice_get plans s)
  where
    waits_in : Option JobPlan → List ℕ
    waits_in None = []
    waits_in (Some plan) = plan.depends

-- there is a job s, and it has run
abbrev pub is_done : List JobPlan → Record → ℕ → Bool
is_done plans q s = nat_lt s (length plans) && has_run (periods_of plans) q s

-- job s is to start: it wasn't started, and each job that it comes after has run
abbrev pub may_start : List JobPlan → Record → ℕ → Bool
may_start plans q s = is_none (start_moment q s) && list_all (is_done plans q) (waits_of plans s)

-- the record with the start of job s, where that is to start
abbrev pub with_start : List JobPlan → Record → ℕ → Record
with_start plans q s = if may_start plans q s then Told (Start s) ∷ q else q

-- the record with the starts of those of the first n jobs that are to start
abbrev pub with_starts : List JobPlan → Record → ℕ → Record
with_starts plans q zero = q
with_starts plans q (suc s) = with_start plans (with_starts plans q s) s

-- the record with the starts of all jobs that are to start
abbrev pub with_all : List JobPlan → Record → Record
with_all plans q = with_starts plans q (length plans)

-- the jobs' record after an entry of the server's, where the service was started before or not
abbrev pub with_entry : List JobPlan → ℕ → Bool → Entry → Record → Record
with_entry plans service started (Got (Moment m)) q = if started then with_all plans (Got (Moment m) ∷ q) else Got (Moment m) ∷ q
with_entry plans service started (Told (Start s)) q = if s == service then with_all plans q else q
with_entry plans service started (Told Broadcast) q = Told Broadcast ∷ q
with_entry plans service started (Told (Phase ShutdownRuntimes ms)) q = Told (Phase ShutdownRuntimes ms) ∷ q
with_entry plans service started e q = q

-- the record of the service's jobs
abbrev pub jobs_record : List JobPlan → ℕ → Record → Record
jobs_record plans service [] = []
jobs_record plans service (e ∷ before) = with_entry plans service (is_started before service) e (jobs_record plans service before)
