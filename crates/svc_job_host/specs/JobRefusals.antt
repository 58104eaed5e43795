-- Why a host of jobs isn't made.
use Rattle.std.specs.Prelude.{ℕ, Bool, ◌==◌, ◌≡◌, ◌⊎◌, ◌^◌, List, length, position, Option, Some, nat_le, if◌then◌else◌}
use Rattle.std.specs.Option.{option_map}
use Rattle.svc_job_host.specs.declared.plan.JobPlan.{JobPlan}
use Rattle.svc_job_host.specs.declared.refusals.JobError.{JobError}
use Rattle.svc_job_host.specs.declared.refusals.JobError.TheVariants.{Unequal, TooMany, ZeroPeriod, NoMemory}

-- the plan has no period
abbrev pub is_idle : JobPlan → Bool
is_idle plan = plan.every == 0

-- why no host is made of these plans, of which there are as many as jobs
abbrev pub plans_fault : List JobPlan → Option JobError
plans_fault plans = if nat_le (length plans) (2 ^ 32) then option_map ZeroPeriod (position is_idle plans) else Some TooMany

-- why no host is made of these plans and so many jobs: the first cause that stands
abbrev pub fault_of : List JobPlan → ℕ → Option JobError
fault_of plans jobs = if length plans == jobs then plans_fault plans else Some Unequal

-- the reason of a refusal: want of memory, or the cause that stands
abbrev pub IsReason : Option JobError → JobError → Type 0
IsReason fault reason = (reason ≡ NoMemory) ⊎ (fault ≡ Some reason)
