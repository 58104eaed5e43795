-- What a host of jobs keeps with its record.
use Rattle.std.specs.Prelude.{ℕ, ◌+◌, ◌/◌, List, length, map, Option}
use Rattle.svc_record.specs.Record.{Record}
use Rattle.svc_job_host.specs.JobHosts.{KeepsJobs, AreHeard}
use Rattle.svc_job_host.specs.JobRunnerData.{JobRunnerData}
use Rattle.svc_job_host.specs.Timetables.{periods_of}

-- its items and the jobs' words are those of the record, and each job that tells what it was told was told the due numbers of its runs last
pub record KeepsRunner {J : Type 0} (told : J → Option (List ℕ)) (h : JobRunnerData J) (q : Record) (faults idles : ℕ) : Type 0 where
  pub jobs : KeepsJobs (periods_of h.plans) h.timetable h.items h.given q faults idles
  pub heard : AreHeard (map told h.jobs) h.timetable.runs

-- for how many moments it has memory: each job may run at one
abbrev pub moments_left : {J : Type 0} → JobRunnerData J → ℕ
moments_left h = h.timetable.spare / (length h.jobs + 1)
