-- A chain of generations: which steps it allows, what a step and a launch make of it, and what holds of it.
use Rattle.std.specs.Prelude.{ℕ, zero, suc, Bool, true, false, not, ◌&&◌, ◌≡◌, ◌<◌, ◌-◌, List, [], ◌∷◌, ◌++◌, Option, Some, None, length, map, slice_get, slice_set}
use Rattle.svc_record.specs.declared.plan.Plan.{Plan}
use Rattle.svc_record.specs.declared.action.Action.{Action}
use Rattle.svc_record.specs.declared.action.StepEnd.{StepEnd}
use Rattle.svc_record.specs.declared.entry.Entry.TheVariants.{Got}
use Rattle.svc_record.specs.declared.event.Event.{Event}
use Rattle.svc_record.specs.Record.{tell, is_signal}
use Rattle.svc_record.specs.Ends.{step_end}
use Rattle.svc_record.specs.Fits.{fits}
use Rattle.svc_record.specs.Judging.{judged_at, judgements}
use Rattle.svc_record.specs.Right.{Right}
use Rattle.svc_record.specs.Tail.{closing_actions, tail_right}
use Rattle.svc_record.specs.Validity.{IsValid}
use Rattle.svc_handover.specs.declared.pair.ChannelState.{ChannelState}
use Rattle.svc_handover.specs.declared.pair.ChannelState.TheVariants.{Missing}
use Rattle.svc_handover.specs.declared.pair.PairStep.{PairStep}
use Rattle.svc_handover.specs.Channel.{channel_of, is_taken, old_may, new_may}
use Rattle.svc_handover.specs.Pair.{World}
use Rattle.svc_handover.specs.Law.{HandsOver}
use Rattle.svc_supervisor.specs.ChainData.{GenerationData, ChainData}

-- a generation can be run by the plan: the first takes nothing over, each later one does, and none tests or becomes a daemon
pub record MayBegin (later : Bool) (p : Plan) : Type 0 where
  pub valid : IsValid p
  pub untested : p.test ≡ false
  pub undaemonized : p.daemon ≡ false
  pub upgrades : p.upgrade ≡ later

-- the channel between a generation and the next one; where there is none yet, nothing is there
abbrev pub channel_to : GenerationData → Option GenerationData → ChannelState
channel_to g None = Missing
channel_to g (Some next) = channel_of g.history next.history

-- the generation before the one at this place
abbrev pub generation_before : {G : Type 0} → List G → ℕ → Option G
generation_before gs zero = None
generation_before gs (suc k) = slice_get gs k

-- the channel to the generation before allows the event
abbrev pub before_may : Option GenerationData → GenerationData → Event → Bool
before_may None g e = true
before_may (Some old) g e = new_may (channel_of old.history g.history) old.history e

-- the event may come to the generation between these two: it fits its record, and both channels allow it
abbrev pub may_come : Option GenerationData → GenerationData → Option GenerationData → Event → Bool
may_come before g next e = fits g.plan g.history e && (before_may before g e && old_may (channel_to g next) e)

-- it has taken over from the one before it, if there is one
abbrev pub has_taken_over : Option GenerationData → GenerationData → Bool
has_taken_over None g = true
has_taken_over (Some old) g = is_taken (channel_of old.history g.history)

-- the same of the generation at a place
abbrev pub may_come_to : Option GenerationData → Option GenerationData → Option GenerationData → Event → Bool
may_come_to before None next e = false
may_come_to before (Some g) next e = may_come before g next e

abbrev pub may_come_at : List GenerationData → ℕ → Event → Bool
may_come_at gs k e = may_come_to (generation_before gs k) (slice_get gs k) (slice_get gs (suc k)) e

abbrev pub has_taken : Option GenerationData → Option GenerationData → Bool
has_taken before None = false
has_taken before (Some g) = has_taken_over before g

abbrev pub has_taken_at : List GenerationData → ℕ → Bool
has_taken_at gs k = has_taken (generation_before gs k) (slice_get gs k)

-- the newest generation has taken over
abbrev pub is_ready : List GenerationData → Bool
is_ready gs = has_taken_at gs (length gs - 1)

-- a signal comes to a generation that hasn't taken over
abbrev pub is_early : List GenerationData → ℕ → Event → Bool
is_early gs k e = is_signal (Got e) && not (has_taken_at gs k)

-- a generation took the event: its record has grown by it and by what was told, the judgements are as was said, and the end is what the record says
pub record Took (g after : GenerationData) (e : Event) (said : Bool) (end : StepEnd) : Type 0 where
  pub told : List Action
  pub plan : after.plan ≡ g.plan
  pub history : after.history ≡ tell (Got e ∷ g.history) told
  pub judged : judgements told ≡ judged_at g.plan e said
  pub end_is : end ≡ step_end after.plan after.history

-- the generation with this number took the event, which may come to it in time, and no other generation has changed
pub record Steps (old new : List GenerationData) (k : ℕ) (e : Event) (said : Bool) (end : StepEnd) : Type 0 where
  pub was : GenerationData
  pub after : GenerationData
  pub here : slice_get old k ≡ Some was
  pub timely : is_early old k e ≡ false
  pub may : may_come_at old k e ≡ true
  pub took : Took was after e said end
  pub others : new ≡ slice_set old k after

-- a generation of the plan has begun, and its record is what it told
pub record Begun (p : Plan) (g : GenerationData) : Type 0 where
  pub told : List Action
  pub plan : g.plan ≡ p
  pub history : g.history ≡ tell [] told

-- after the generations, the last of which has taken over, one more of the plan has begun
pub record Launches (old new : List GenerationData) (p : Plan) : Type 0 where
  pub newest : GenerationData
  pub begun : Begun p newest
  pub may : MayBegin true p
  pub few : length old < 64
  pub ready : is_ready old ≡ true
  pub others : new ≡ old ++ newest ∷ []

-- two generations and the channel between them, as a world of a handover
abbrev pub world_of : GenerationData → GenerationData → World
world_of old new = record { old = old.history; new = new.history; channel = channel_of old.history new.history }

-- their records are what some schedule of the two leaves; so the law of a handover holds of them
pub record IsScheduled (old new : GenerationData) : Type 0 where
  pub schedule : List PairStep
  pub over : HandsOver old.plan new.plan schedule (world_of old new)

-- each record is right
abbrev pub AreRight : List GenerationData → Type 0
AreRight [] = Unit {0}
AreRight (g ∷ more) = Right g.plan g.history × AreRight more

-- each two neighbours are so
abbrev pub AreScheduled : List GenerationData → Type 0
AreScheduled [] = Unit {0}
AreScheduled (g ∷ []) = Unit {0}
AreScheduled (g ∷ h ∷ more) = IsScheduled g h × AreScheduled (h ∷ more)

-- the generation with its live connections cut and its open descriptors closed, in ascending number; of one that has served nothing is live
abbrev pub closed : GenerationData → GenerationData
closed g = record { plan = g.plan; history = tell g.history (closing_actions g.plan g.history None) }

-- all that was open has been closed, each once, in each generation
abbrev pub AreClosed : List GenerationData → Type 0
AreClosed [] = Unit {0}
AreClosed (g ∷ more) = (tail_right g.history None (closing_actions g.plan g.history None) ≡ true) × AreClosed more

abbrev pub finished_chain : ChainData → ChainData
finished_chain c = record { generations = map closed c.generations; finished = true }

-- a chain of the plan alone has begun
pub record BeginsChain (p : Plan) (gs : List GenerationData) : Type 0 where
  pub first : GenerationData
  pub begun : Begun p first
  pub may : MayBegin false p
  pub alone : gs ≡ first ∷ []
