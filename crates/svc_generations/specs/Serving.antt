-- The chain that an input's steps leave.
use Rattle.std.specs.Prelude.{◌≡◌, ◌<◌, ◌≤◌, ℕ, ◌+◌, Bool, true, false, not, List, [], ◌∷◌, ◌++◌, length, slice_get, Option, Some, None, codes, reverse}
use Rattle.std.specs.Fmt.{decimal}
use Rattle.svc_conf.specs.declared.server.configuration.Opt.{Opt}
use Rattle.svc_socket.specs.declared.peer.Peer.{Peer}
use Rattle.svc_socket.specs.declared.peer.Peer.TheVariants.{Inet}
use Rattle.svc_record.specs.declared.plan.Plan.{Plan}
use Rattle.svc_record.specs.declared.action.StepEnd.{StepEnd}
use Rattle.svc_record.specs.declared.event.Event.{Event}
use Rattle.svc_record.specs.declared.event.Event.TheVariants.{Arrived}
use Rattle.svc_record.specs.Text.{text_of}
use Rattle.svc_text.specs.declared.service.ServiceLine.{ServiceLine}
use Rattle.svc_text.specs.Filters.{is_blocked}
use Rattle.svc_text.specs.ScriptPlans.{plan_of}
use Rattle.svc_generations.specs.declared.steps.Step.{Step}
use Rattle.svc_generations.specs.declared.steps.Step.TheVariants as steps
use Rattle.svc_generations.specs.declared.outcome.StepRefusal.{StepRefusal}
use Rattle.svc_generations.specs.declared.outcome.StepRefusal.TheVariants.{NoMore, NotReady, Unknown, Early, Stray}
use Rattle.svc_supervisor.specs.ChainData.{GenerationData}
use Rattle.svc_supervisor.specs.Chains.{BeginsChain, Launches, Steps, is_ready, is_early, may_come_at}
use Rattle.svc_generations.specs.Inputs.{BlockParts}
use Rattle.svc_supervisor.specs.Kept.{ChainKept}

-- the flags of a generation: each but the first takes over
abbrev pub flags_of : Bool → Opt
flags_of later = record { upgrade = later; daemon = false; nocapture = false; test = false; conf = None }

-- the plans of the blocks, in order
abbrev pub plans_from : Bool → List BlockParts → List Plan
plans_from later [] = []
plans_from later (b ∷ more) = plan_of (flags_of later) b.parts ∷ plans_from true more

abbrev pub plans_of : List BlockParts → List Plan
plans_of blocks = plans_from false blocks

-- the services' lines of the blocks, in order
abbrev pub services_of : List BlockParts → List (List ServiceLine)
services_of [] = []
services_of (b ∷ more) = b.parts.services ∷ services_of more

-- what the filter of a service says to a peer: no exactly where the service blocks the peer's address
abbrev pub says : Option ServiceLine → Peer → Bool
says (Some line) (Inet addr) = not (is_blocked line.blocked (Some addr))
says line peer = true

-- what is said at the event
abbrev pub said_at : List ServiceLine → Event → Bool
said_at services (Arrived s i c peer) = says (slice_get services s) peer
said_at services e = true

-- the same of services that may not be there
abbrev pub said_by : Option (List ServiceLine) → Event → Bool
said_by None e = true
said_by (Some services) e = said_at services e

-- what is said at an event of the generation with this number
abbrev pub said_to : List BlockParts → ℕ → Event → Bool
said_to blocks g e = said_by (slice_get (services_of blocks) g) e

-- the next generation is launched, by the plan of the next block
pub record LaunchesNext (blocks : List BlockParts) (old new : List GenerationData) : Type 0 where
  pub plan : Plan
  pub next : slice_get (plans_of blocks) (length old) ≡ Some plan
  pub launches : Launches old new plan

-- the generation took the event, with what its filters say
pub record StepsTo (blocks : List BlockParts) (old new : List GenerationData) (g : ℕ) (e : Event) : Type 0 where
  pub end : StepEnd
  pub steps : Steps old new g e (said_to blocks g e) end

-- the step was taken
abbrev pub TakesStep : List BlockParts → List GenerationData → List GenerationData → Step → Type 0
TakesStep blocks old new steps.Launch = LaunchesNext blocks old new
TakesStep blocks old new (steps.Event g e) = StepsTo blocks old new g e

-- the first generation began by the plan of the first block
pub record BeginsFirst (blocks : List BlockParts) (gs : List GenerationData) : Type 0 where
  pub plan : Plan
  pub first : slice_get (plans_of blocks) 0 ≡ Some plan
  pub begins : BeginsChain plan gs

-- the chain that these steps leave, the newest step first: the law of a chain holds after each
abbrev pub LeftBy : List BlockParts → List Step → List GenerationData → Type 0
LeftBy blocks [] gs = BeginsFirst blocks gs × ChainKept gs
LeftBy blocks (step ∷ before) gs = (old : List GenerationData) × LeftBy blocks before old × TakesStep blocks old gs step × ChainKept gs

-- no block is left for a further generation
abbrev pub NoneIsLeft : List BlockParts → List GenerationData → Type 0
NoneIsLeft blocks gs = length (plans_of blocks) ≤ length gs

-- why the step isn't taken
abbrev pub RefusesStep : List BlockParts → List GenerationData → Step → StepRefusal → Type 0
RefusesStep blocks gs steps.Launch NoMore = NoneIsLeft blocks gs
RefusesStep blocks gs steps.Launch NotReady = (length gs < length (plans_of blocks)) × (is_ready gs ≡ false)
RefusesStep blocks gs (steps.Event g e) Unknown = length gs ≤ g
RefusesStep blocks gs (steps.Event g e) Early = (g < length gs) × (is_early gs g e ≡ true)
RefusesStep blocks gs (steps.Event g e) Stray = (g < length gs) × (is_early gs g e ≡ false) × (may_come_at gs g e ≡ false)
RefusesStep blocks gs step refusal = ⊥

-- a generation's number, as a line
abbrev pub number_line : ℕ → List ℕ
number_line n = codes "generation " ++ (decimal n ++ 10 ∷ [])

-- the same with its record
abbrev pub generation_text : ℕ → GenerationData → List ℕ
generation_text n g = number_line n ++ text_of (reverse g.history)

-- the text of generations, numbered from n
abbrev pub chain_text : ℕ → List GenerationData → List ℕ
chain_text n [] = []
chain_text n (g ∷ more) = generation_text n g ++ chain_text (n + 1) more
