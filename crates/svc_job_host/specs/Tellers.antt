-- What is told of the runs of jobs.
use Rattle.std.specs.Prelude.{ℕ, ◌≡◌, List, [], ◌++◌, map, Option, Some, None, slice_get}
use Rattle.svc_job_host.specs.declared.plan.JobPlan.{JobPlan}
use Rattle.svc_job_host.specs.declared.plan.JobRun.{JobRun}

-- the name of job s
abbrev pub name_of : List JobPlan → ℕ → List ℕ
name_of plans s = name_in (slice_get plans s)
  where
    name_in : Option JobPlan → List ℕ
    name_in None = []
    name_in (Some plan) = plan.name

-- the runs, each with the name of its job
abbrev pub named : List JobPlan → List JobRun → List (List ℕ × JobRun)
named plans runs = map (λ (run : JobRun). (name_of plans run.job, run)) runs

-- who was told these runs, where that is known, has been told these more since
abbrev pub TellsMore : Option (List (List ℕ × JobRun)) → Option (List (List ℕ × JobRun)) → List (List ℕ × JobRun) → Type 0
TellsMore before after more = (runs : List (List ℕ × JobRun)) → before ≡ Some runs → after ≡ Some (runs ++ more)
