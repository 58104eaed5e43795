-- What a script host keeps, and what it tells of that.
use Rattle.std.specs.Prelude.{ℕ, ◌≡◌, ◌+◌, ◌<◌, List, [], ◌∷◌, ◌++◌, length, Option, Some, None, slice_get}
use Rattle.svc_record.specs.declared.action.Action.{Action}
use Rattle.svc_record.specs.declared.action.Action.TheVariants.{Phase}
use Rattle.svc_record.specs.declared.action.ExecutionPhase.{ExecutionPhase}
use Rattle.svc_record.specs.declared.entry.Entry.{Entry}
use Rattle.svc_record.specs.declared.entry.Entry.TheVariants.{Got, Told}
use Rattle.svc_record.specs.declared.event.Event.{Event}
use Rattle.svc_record.specs.declared.item.Item.{Item}
use Rattle.svc_record.specs.declared.item.Item.TheVariants as items
use Rattle.svc_record.specs.Record.{Record}
use Rattle.svc_server.specs.declared.host.Next.{Next}
use Rattle.svc_server.specs.declared.host.Next.TheVariants as nexts
use Rattle.svc_server.specs.Hosts.{Handed, Counts, BringsFew}
use Rattle.svc_server.specs.Runs.{events_of}

-- the events among the items, in order
abbrev pub item_events : List Item → List Event
item_events [] = []
item_events (items.Event e ∷ more) = e ∷ item_events more
item_events (items.Fault ∷ more) = item_events more

-- how many of the items are faults
abbrev pub item_faults : List Item → ℕ
item_faults [] = 0
item_faults (items.Event e ∷ more) = item_faults more
item_faults (items.Fault ∷ more) = item_faults more + 1

-- the items of these answers, whose events are these, in order
abbrev pub items_given : List Next → List Event → List Item
items_given [] events = []
items_given (nexts.Event ∷ more) [] = items_given more []
items_given (nexts.Event ∷ more) (e ∷ events) = items.Event e ∷ items_given more events
items_given (nexts.Failed ∷ more) events = items.Fault ∷ items_given more events
items_given (nexts.None ∷ more) events = items_given more events

-- how many of the answers are events
abbrev pub event_count : List Next → ℕ
event_count [] = 0
event_count (nexts.Event ∷ more) = event_count more + 1
event_count (nexts.Failed ∷ more) = event_count more
event_count (nexts.None ∷ more) = event_count more

-- the event of an entry, if it is one that was got
abbrev pub got_event : Option Entry → Option Event
got_event None = None
got_event (Some (Got e)) = Some e
got_event (Some (Told a)) = None

-- the event at this place of the entries
abbrev pub last_event : List Entry → Option ℕ → Option Event
last_event entries None = None
last_event entries (Some i) = got_event (slice_get entries i)

-- what is answered where this item is given
abbrev pub answer_to : Item → Next
answer_to (items.Event e) = nexts.Event
answer_to items.Fault = nexts.Failed

-- an event among the items brings at most 32 descriptors
abbrev pub GivesFew : Item → Type 0
GivesFew (items.Event e) = BringsFew e
GivesFew items.Fault = Unit {0}

-- the phase that the action publishes, if it publishes one
abbrev pub action_phase : Action → List ExecutionPhase
action_phase (Phase p ms) = p ∷ []
action_phase _ = []

-- the phases that were told, the oldest first
abbrev pub phases_of : Record → List ExecutionPhase
phases_of [] = []
phases_of (Told a ∷ before) = phases_of before ++ action_phase a
phases_of (Got e ∷ before) = phases_of before

-- these counts
abbrev pub counts_with : ℕ → ℕ → ℕ → Counts
counts_with faulted idled failed = record { faults = faulted; idles = idled; failures = failed }

-- a service that was handed over, with its number and the name that it answers
abbrev pub handed_with : {B : Type 0} → (B → List ℕ) → ℕ × B → Handed
handed_with named x = record { service = x.0; name = named x.1 }

-- the items that were given are the record's events and the faults, in order, and the faults are counted; no item is left once there was nothing more to give
pub record FollowsScript (taken left : List Item) (r : Record) (faults idles : ℕ) : Type 0 where
  pub events : events_of r ≡ item_events taken
  pub faulted : faults ≡ item_faults taken
  pub finished : 0 < idles → left ≡ []

-- what a script host keeps: its answers and its record tell the items that were given, and the phases are those of its record
pub record KeepsScript (answers : List Next) (left : List Item) (r : Record) (phases : List ExecutionPhase) (faults idles : ℕ) : Type 0 where
  pub follows : FollowsScript (items_given answers (events_of r)) left r faults idles
  pub counted : event_count answers ≡ length (events_of r)
  pub phases_told : phases ≡ phases_of r
