-- A chain that is being served, and what a step makes of it.
use Rattle.std.specs.Prelude.{◌≡◌, ◌≤◌, ℕ, ◌+◌, true, false, List, ◌∷◌, drop, length, Option, Some, None}
use Rattle.svc_generations.specs.declared.serving.Serving.{Serving}
use Rattle.svc_generations.specs.declared.steps.Step.{Step}
use Rattle.svc_generations.specs.declared.outcome.StepRefusal.{StepRefusal}
use Rattle.svc_generations.specs.Inputs.{BlockParts}
use Rattle.svc_generations.specs.PlanReadings.{MayBeginEach, lines_in}
use Rattle.svc_generations.specs.Serving.{plans_of, services_of, LeftBy, RefusesStep}
use Rattle.svc_generations.specs.ChainTells.{Leaves, StopsAt}

-- these steps, the newest first, have left the chain; the plans of the other blocks are there, and the services of all
pub record IsServing (blocks : List BlockParts) (before : List Step) (s : Serving) : Type 0 where
  pub left : LeftBy blocks before s.chain.generations
  pub unfinished : s.chain.finished ≡ false
  pub plans : s.plans ≡ drop (length s.chain.generations) (plans_of blocks)
  pub services : lines_in s.services ≡ services_of blocks

-- the chain isn't finished, and by each of the plans that are left a further generation can be run
pub record IsOpen (s : Serving) : Type 0 where
  pub unfinished : s.chain.finished ≡ false
  pub each : MayBeginEach true s.plans
  pub few : length s.chain.generations + length s.plans ≤ 64

-- the step was refused, and the chain is as it was
pub record RefusesOne (blocks : List BlockParts) (step : Step) (old new : Serving) (refusal : StepRefusal) : Type 0 where
  pub refuses : RefusesStep blocks old.chain.generations step refusal
  pub same : new.chain ≡ old.chain

-- the step was taken, or why not
abbrev pub TookOrNot : List BlockParts → List Step → Step → Serving → Serving → Option StepRefusal → Type 0
TookOrNot blocks before step old new None = IsServing blocks (step ∷ before) new
TookOrNot blocks before step old new (Some refusal) = RefusesOne blocks step old new refusal

-- how the steps ended: all were taken, or one of them is the first that wasn't
abbrev pub EndsAt : List BlockParts → List Step → Serving → Option (ℕ × StepRefusal) → Type 0
EndsAt blocks steps s None = Leaves blocks steps s.chain.generations
EndsAt blocks steps s (Some refused) = StopsAt blocks steps s.chain.generations refused.0 refused.1
