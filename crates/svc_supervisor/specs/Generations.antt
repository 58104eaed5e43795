-- What a chain keeps of its generations, whose cores contracts don't see.
use Rattle.std.specs.Prelude.{ℕ, true, false, ◌≡◌, ◌<◌, ◌≤◌, List, [], ◌∷◌, Option, None, length, map, reverse, IfSome, Bool, slice_get}
use Rattle.svc_record.specs.declared.plan.Plan.{Plan}
use Rattle.svc_record.specs.declared.action.Action.{Action}
use Rattle.svc_record.specs.declared.action.StepEnd.{StepEnd}
use Rattle.svc_record.specs.declared.event.Event.{Event}
use Rattle.svc_record.specs.Record.{Record, has, is_signal}
use Rattle.svc_record.specs.Right.{Right}
use Rattle.svc_record.specs.Tail.{closing_actions, tail_right}
use Rattle.svc_core.specs.CoreData.{CoreData}
use Rattle.svc_core.specs.Stands.{Represents, MayCome}
use Rattle.svc_session.specs.Sessions.{Begins as SessionBegins, Takes as SessionTakes}
use Rattle.svc_handover.specs.declared.servers.Servers.{Servers}
use Rattle.svc_handover.specs.declared.pair.PairStep.{PairStep}
use Rattle.svc_handover.specs.Channel.{channel_of, is_receipt, is_sent}
use Rattle.svc_handover.specs.Pair.{World}
use Rattle.svc_handover.specs.Operator.{unsignalled}
use Rattle.svc_handover.specs.Law.{HasTexts, PairStands}
use Rattle.svc_handover.specs.Runs.{Runs}
use Rattle.svc_supervisor.specs.declared.generation.Generation.{Generation}
use Rattle.svc_supervisor.specs.Marks.{marks_of, channel_between}
use Rattle.svc_supervisor.specs.ChainData.{GenerationData, ChainData}
use Rattle.svc_supervisor.specs.Chains.{closed, is_early, may_come_at, MayBegin, is_ready}

-- its record, the newest entry first
abbrev pub history : Generation → Record
history g = reverse g.session.entries

abbrev pub data_of : Generation → GenerationData
data_of g = record { plan = g.session.core.plan; history = history g }

-- two generations as the servers of a handover
abbrev pub servers_of : Generation → Generation → Servers
servers_of old new = record { predecessor = old.session; successor = new.session; channel = channel_between old.marks new.marks }

-- the generation of the plan has begun
pub record Begins (p : Plan) (g : Generation) : Type 0 where
  pub told : List Action
  pub begins : SessionBegins p g.session told
  pub marks : g.marks ≡ marks_of (history g)
  pub texts : HasTexts p

-- the generation took the event
pub record Takes (old new : Generation) (e : Event) (said : Bool) (end : StepEnd) : Type 0 where
  pub told : List Action
  pub takes : SessionTakes old.session new.session e said end told
  pub marks : old.marks ≡ marks_of (history old) → new.marks ≡ marks_of (history new)

-- its core and its marks are those of its record, which is right, and it wasn't closed
pub record Stands (g : Generation) : Type 0 where
  pub stands : Represents g.session.core (history g)
  pub right : Right g.session.core.plan (history g)
  pub marks : g.marks ≡ marks_of (history g)
  pub texts : HasTexts g.session.core.plan
  pub unclosed : g.session.closed ≡ false

-- each of its live connections has been cut, and each open descriptor closed, so that each number that it was brought has been closed once
pub record IsClosed (old new : Generation) : Type 0 where
  pub closed : data_of new ≡ closed (data_of old)
  pub whole : tail_right (history old) None (closing_actions old.session.core.plan (history old) None) ≡ true

-- each generation does
abbrev pub EachStands : List Generation → Type 0
EachStands [] = Unit {0}
EachStands (g ∷ more) = Stands g × EachStands more

-- the same of three neighbours
pub record AllStand (before : Option Generation) (g : Generation) (next : Option Generation) : Type 0 where
  pub earlier : IfSome before Stands
  pub here : Stands g
  pub later : IfSome next Stands

-- the two as they stood before the newer one's first signal
abbrev pub quiet_world : Generation → Generation → World
quiet_world old new = record { old = history old; new = unsignalled (history new); channel = channel_of (history old) (unsignalled (history new)) }

-- a core of the newer one stood for what came before its first signal, which came only after it had received
pub record Quiet (old new : Generation) : Type 0 where
  pub core : CoreData
  pub plan : core.plan ≡ new.session.core.plan
  pub stands : PairStands old.session.core core (quiet_world old new)
  pub timely : has is_signal (history new) ≡ true → has is_receipt (unsignalled (history new)) ≡ true

-- the two have run some schedule as the old and the new server of a handover
pub record PairRuns (old new : Generation) : Type 0 where
  pub schedule : List PairStep
  pub runs : Runs old.session.core.plan new.session.core.plan schedule (servers_of old new)
  pub quiet : Quiet old new

-- so have the generation and any successor that has just begun
abbrev pub Awaits : Generation → Type 0
Awaits g = (new : Generation) → Begins new.session.core.plan new → PairRuns g new

-- the newest stands and awaits its successor, to which it hasn't sent anything
pub record IsNewest (g : Generation) : Type 0 where
  pub stands : Stands g
  pub awaits : Awaits g
  pub unsent : has is_sent (history g) ≡ false

-- each generation stands; it and the next have run a schedule, and the newest awaits its successor
abbrev pub Linked : List Generation → Type 0
Linked [] = Unit {0}
Linked (g ∷ []) = IsNewest g
Linked (g ∷ h ∷ more) = Stands g × PairRuns g h × Linked (h ∷ more)

-- what a chain keeps
pub record IsChain (gs : List Generation) (finished : Bool) : Type 0 where
  pub some : 0 < length gs
  pub few : length gs ≤ 64
  pub linked : finished ≡ false → Linked gs

abbrev pub chain_of : List Generation → Bool → ChainData
chain_of gs finished = record { generations = map data_of gs; finished = finished }

-- the event may come to the generation at this place, by its core; and where the chain is linked, in time and by the channels too
pub record MayStep (gs : List Generation) (k : ℕ) (e : Event) : Type 0 where
  pub inside : k < length gs
  pub core : IfSome (slice_get gs k) (λ g. MayCome g.session.core e)
  pub timely : Linked gs → is_early (map data_of gs) k e ≡ false
  pub may : Linked gs → may_come_at (map data_of gs) k e ≡ true

-- the generation of the plan has begun and may be launched after these
pub record MayLaunch (gs : List Generation) (p : Plan) (g : Generation) : Type 0 where
  pub begins : Begins p g
  pub may : MayBegin true p
  pub few : length gs < 64
  pub ready : Linked gs → is_ready (map data_of gs) ≡ true
