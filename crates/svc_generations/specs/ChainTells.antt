-- What the records of a chain tell of the steps that it took.
use Rattle.std.specs.Prelude.{◌≡◌, ℕ, ◌+◌, ◌==◌, Bool, if◌then◌else◌, List, [], ◌∷◌, ◌++◌, length, take, slice_get, Some, reverse}
use Rattle.svc_record.specs.declared.plan.Plan.{Plan}
use Rattle.svc_record.specs.declared.event.Event.{Event}
use Rattle.svc_record.specs.declared.entry.Entry.TheVariants.{Got, Told}
use Rattle.svc_record.specs.declared.action.Action.TheVariants.{Judged}
use Rattle.svc_record.specs.Record.{Record}
use Rattle.svc_record.specs.Judging.{judged_at}
use Rattle.svc_server.specs.Runs.{events_of}
use Rattle.svc_supervisor.specs.ChainData.{GenerationData}
use Rattle.svc_supervisor.specs.Kept.{ChainKept}
use Rattle.svc_generations.specs.declared.steps.Step.{Step}
use Rattle.svc_generations.specs.declared.steps.Step.TheVariants as steps
use Rattle.svc_generations.specs.declared.outcome.StepRefusal.{StepRefusal}
use Rattle.svc_generations.specs.Inputs.{BlockParts}
use Rattle.svc_generations.specs.Serving.{plans_of, said_to, LeftBy, RefusesStep}

-- how many of the steps launch a generation
abbrev pub launch_count : List Step → ℕ
launch_count [] = 0
launch_count (steps.Launch ∷ more) = launch_count more + 1
launch_count (steps.Event g e ∷ more) = launch_count more

-- the event that the step gives to the generation with this number, if it gives it one
abbrev pub event_to : ℕ → Step → List Event
event_to k steps.Launch = []
event_to k (steps.Event g e) = if g == k then e ∷ [] else []

-- the events that the steps give to it, in order
abbrev pub events_to : ℕ → List Step → List Event
events_to k [] = []
events_to k (step ∷ more) = event_to k step ++ events_to k more

-- behind each event of the record exactly that is judged which was said at it; `since` was judged behind the record
abbrev pub JudgesEach : (Event → Bool) → Plan → List (ℕ × Bool) → Record → Type 0
JudgesEach said p since [] = Unit {0}
JudgesEach said p since (Got e ∷ before) = (since ≡ judged_at p e (said e)) × JudgesEach said p [] before
JudgesEach said p since (Told (Judged c b) ∷ before) = JudgesEach said p ((c, b) ∷ since) before
JudgesEach said p since (_ ∷ before) = JudgesEach said p since before

-- the generation with this number is run by its block's plan; its record's events are those that the steps gave to it, in order; and at each it
-- judged as the services' lines say
pub record TellsGeneration (blocks : List BlockParts) (taken : List Step) (k : ℕ) (g : GenerationData) : Type 0 where
  pub plan : slice_get (plans_of blocks) k ≡ Some g.plan
  pub events : events_of g.history ≡ events_to k taken
  pub judges : JudgesEach (said_to blocks k) g.plan [] g.history

-- there is one generation more than the steps launch; each tells its steps; each record is right, neighbours are scheduled, and the law of a chain holds
pub record TellsChain (blocks : List BlockParts) (taken : List Step) (gs : List GenerationData) : Type 0 where
  pub count : length gs ≡ launch_count taken + 1
  pub each : (k : ℕ) (g : GenerationData) → slice_get gs k ≡ Some g → TellsGeneration blocks taken k g
  pub kept : ChainKept gs

-- the steps, in order, leave this chain, whose records tell them
pub record Leaves (blocks : List BlockParts) (taken : List Step) (gs : List GenerationData) : Type 0 where
  pub left : LeftBy blocks (reverse taken) gs
  pub tells : TellsChain blocks taken gs

-- step k, from one, is the first that isn't taken, and why; those before it leave this chain
pub record StopsAt (blocks : List BlockParts) (all : List Step) (gs : List GenerationData) (k : ℕ) (refusal : StepRefusal) : Type 0 where
  pub before : ℕ
  pub number : k ≡ before + 1
  pub step : Step
  pub here : slice_get all before ≡ Some step
  pub leaves : Leaves blocks (take before all) gs
  pub refuses : RefusesStep blocks gs step refusal
