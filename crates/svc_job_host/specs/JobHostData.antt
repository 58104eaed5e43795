-- What contracts see of a host of jobs.
use Rattle.std.specs.Prelude.{ℕ, List, Option}
use Rattle.svc_record.specs.declared.event.Event.{Event}
use Rattle.svc_record.specs.declared.item.Item.{Item}
use Rattle.svc_record.specs.Record.{Record}
use Rattle.svc_job_host.specs.declared.plan.JobPlan.{JobPlan}
use Rattle.svc_job_host.specs.declared.plan.JobRun.{JobRun}
use Rattle.svc_job_host.specs.declared.service.JobService.{JobService}

-- the plans and the jobs, by number; the items that it gives, and how many of them it gave; its record and the services that it was handed, each with
-- its number, both with the newest first; the runs, the oldest first; how often it failed, how often nothing was left to give, and how often it gave
-- an event that tells a failure; its room; the last event that it gave
pub record JobHostData (J : Type 0) : Type 0 where
  pub plans : List JobPlan
  pub jobs : List J
  pub items : List Item
  pub given : ℕ
  pub entries : Record
  pub handed : List (ℕ × JobService)
  pub runs : List JobRun
  pub faults : ℕ
  pub idles : ℕ
  pub failures : ℕ
  pub spare : ℕ
  pub last : Option Event
