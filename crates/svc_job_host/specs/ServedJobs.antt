-- What the jobs of a service that is served keep of the server's record.
use Rattle.std.specs.Prelude.{ℕ, ◌≡◌, ◌<◌, ◌||◌, List, ◌∷◌, ◌++◌, length, Option, Some}
use Rattle.svc_record.specs.declared.entry.Entry.{Entry}
use Rattle.svc_record.specs.Record.{Record}
use Rattle.svc_record.specs.Starts.{is_start, is_started}
use Rattle.svc_job_host.specs.declared.plan.JobRun.{JobRun}
use Rattle.svc_job_host.specs.Dues.{due_at, due_runs}
use Rattle.svc_job_host.specs.JobRecords.{with_entry, jobs_record}
use Rattle.svc_job_host.specs.ServedJobsData.{ServedJobsData}
use Rattle.svc_job_host.specs.Tellers.{named}
use Rattle.svc_job_host.specs.TimetableData.{TimetableData}
use Rattle.svc_job_host.specs.Timetables.{IsTimetableOf, periods_of}

-- but for the runs, which it doesn't keep, it is of the jobs' record
abbrev pub IsKnownOf : List ℕ → TimetableData → Record → Type 0
IsKnownOf periods t q = IsTimetableOf periods (record t { runs = due_runs periods q }) q

-- the record of the jobs
abbrev pub record_of : ServedJobsData → Record → Record
record_of jobs q = jobs_record jobs.plans jobs.service q

-- they are those of the server's record
pub record AreServedBy (jobs : ServedJobsData) (q : Record) : Type 0 where
  pub known : IsKnownOf (periods_of jobs.plans) jobs.timetable (record_of jobs q)
  pub started_is : jobs.started ≡ is_started q jobs.service

-- some of them were started, by which their record became another
pub record StartBy (old new : ServedJobsData) (change : Record → Record) : Type 0 where
  pub service_stays : new.service ≡ old.service
  pub plans_stay : new.plans ≡ old.plans
  pub started_stays : new.started ≡ old.started
  pub known : (q : Record) → IsKnownOf (periods_of old.plans) old.timetable q → IsKnownOf (periods_of old.plans) new.timetable (change q)

-- they go on by an entry of a server's record, by which their record becomes another
pub record StepBy (old new : ServedJobsData) (e : Entry) : Type 0 where
  pub service_stays : new.service ≡ old.service
  pub plans_stay : new.plans ≡ old.plans
  pub started_is : new.started ≡ (is_start old.service e || old.started)
  pub known : (q : Record) → IsKnownOf (periods_of old.plans) old.timetable q
      → IsKnownOf (periods_of old.plans) new.timetable (with_entry old.plans old.service old.started e q)

-- they go on by an entry of the server's record
pub record GoOn (old new : ServedJobsData) (e : Entry) : Type 0 where
  pub service_stays : new.service ≡ old.service
  pub plans_stay : new.plans ≡ old.plans
  pub served : (q : Record) → AreServedBy old q → AreServedBy new (e ∷ q)

-- the runs that are due by the server's record, each with the name of its job
abbrev pub runs_by : ServedJobsData → Record → List (List ℕ × JobRun)
runs_by jobs q = named jobs.plans (due_runs (periods_of jobs.plans) (record_of jobs q))

-- who was told the runs that are due by a record has been told those that are due by it with this entry
abbrev pub TellsDue : ServedJobsData → Entry → Option (List (List ℕ × JobRun)) → Option (List (List ℕ × JobRun)) → Type 0
TellsDue jobs e before after = (q : Record) (runs : List (List ℕ × JobRun)) → AreServedBy jobs q → before ≡ Some (runs ++ runs_by jobs q)
    → after ≡ Some (runs ++ runs_by jobs (e ∷ q))

-- some job runs at the moment m, which comes after the server's record
pub record RunsSome (jobs : ServedJobsData) (q : Record) (m : ℕ) : Type 0 where
  pub job : ℕ
  pub there : job < length jobs.plans
  pub due : 0 < due_at (periods_of jobs.plans) (record_of jobs q) m job
