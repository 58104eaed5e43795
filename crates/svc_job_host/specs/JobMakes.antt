-- What a host of jobs was made of: it stays, whatever the host gives and is told.
use Rattle.std.specs.Prelude.{ℕ, ◌+◌, ◌-◌, List, [], ◌∷◌, ◌++◌, length, map, take, Option}
use Rattle.std.specs.Option.{option_map}
use Rattle.svc_record.specs.declared.item.Item.{Item}
use Rattle.svc_server.specs.Hosts.{HostMake}
use Rattle.svc_job_host.specs.declared.plan.JobPlan.{JobPlan}
use Rattle.svc_job_host.specs.declared.plan.JobRun.{JobRun}
use Rattle.svc_job_host.specs.JobHosts.{dues_of}
use Rattle.svc_job_host.specs.JobRunnerData.{JobRunnerData}
use Rattle.svc_job_host.specs.JobHostData.{JobHostData}
use Rattle.svc_job_host.specs.Timetables.{periods_of}

-- what job s had been told before these runs, which it was told last
abbrev pub told_before : ℕ → List JobRun → Option (List ℕ) → Option (List ℕ)
told_before s runs told = option_map (λ (numbers : List ℕ). take (length numbers - length (dues_of s runs)) numbers) told

-- what the jobs from s on had been told before these runs
abbrev pub heard_before : ℕ → List JobRun → List (Option (List ℕ)) → List (Option (List ℕ))
heard_before s runs [] = []
heard_before s runs (told ∷ more) = told_before s runs told ∷ heard_before (s + 1) runs more

-- what the jobs from s on were told after these runs
abbrev pub heard_after : ℕ → List JobRun → List (Option (List ℕ)) → List (Option (List ℕ))
heard_after s runs [] = []
heard_after s runs (told ∷ more) = option_map (λ (numbers : List ℕ). numbers ++ dues_of s runs) told ∷ heard_after (s + 1) runs more

-- the periods, the items, and what each job had been told before the runs
abbrev pub make_of : {J : Type 0} → (J → Option (List ℕ)) → List JobPlan → List Item → List J → List JobRun → HostMake
make_of told plans items jobs runs = record { numbers = periods_of plans; items = items; told = heard_before 0 runs (map told jobs) }

-- what the jobs and items of a host were made of
abbrev pub runner_make : {J : Type 0} → (J → Option (List ℕ)) → JobRunnerData J → HostMake
runner_make told h = make_of told h.plans h.items h.jobs h.timetable.runs

-- what a host of jobs was made of
abbrev pub host_make : {J : Type 0} → (J → Option (List ℕ)) → JobHostData J → HostMake
host_make told h = make_of told h.plans h.items h.jobs h.runs
