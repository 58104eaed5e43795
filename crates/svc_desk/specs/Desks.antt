-- What contracts see of a desk, and what its calls change.
use Rattle.std.specs.Prelude.{◌≡◌, ℕ, ◌+◌, ◌-◌, ◌<◌, ◌≤◌, min, Bool, true, List, [], ◌∷◌, length, Option, Some, None, is_some}
use Rattle.svc_base.specs.Streams.{Rose}
use Rattle.svc_base.specs.Calls.{Adds, Stays}
use Rattle.svc_record.specs.declared.event.Event.{Event}
use Rattle.svc_record.specs.declared.action.Action.{Action}
use Rattle.svc_desk.specs.declared.desk.DeskAnswer.{DeskAnswer}
use Rattle.svc_desk.specs.declared.desk.DeskAnswer.TheVariants as answers

-- whether it met a plan, and what it says of each event; the events that it gave, the actions that it performed and the events that
-- it took back, the oldest first, and the number of its takes, each where it tells it, and for how many more calls it is sure to tell them; how often it
-- failed, and how often nothing came any more
pub record DeskData : Type 0 where
  pub met : Bool
  pub says : Event → Bool
  pub taken : Option (List Event)
  pub performed : Option (List Action)
  pub refused : Option (List Event)
  pub takes : Option ℕ
  pub room : ℕ
  pub faults : ℕ
  pub idles : ℕ

-- the room of a desk whose lists have this room and whose takes are so many, which it counts in 64 bits: the least
abbrev pub least_room : ℕ → ℕ → ℕ → ℕ → ℕ
least_room taken performed refused takes = min (min taken performed) (min refused (18446744073709551615 - takes))

-- the same desk, which met a plan
abbrev pub meeting : DeskData → DeskData
meeting d = record {
  met = true;
  says = d.says;
  taken = d.taken;
  performed = d.performed;
  refused = d.refused;
  takes = d.takes;
  room = d.room;
  faults = d.faults;
  idles = d.idles;
}

-- whether it met a plan and what it says stay; what was told is told as long as room is left, and no call makes room
pub record DeskStays (before now : DeskData) : Type 0 where
  pub met : now.met ≡ before.met
  pub says : now.says ≡ before.says
  pub taken : Stays before.taken now.taken before.room now.room
  pub performed : Stays before.performed now.performed before.room now.room
  pub refused : Stays before.refused now.refused before.room now.room
  pub takes : 0 < now.room → is_some now.takes ≡ is_some before.takes

-- so many takes came to those that were told, where they are still told
abbrev pub Grew : Option ℕ → Option ℕ → ℕ → Type 0
Grew None None k = Unit {0}
Grew None (Some now) k = ⊥
Grew (Some before) None k = Unit {0}
Grew (Some before) (Some now) k = now ≡ before + k

-- the event that an answer brings
abbrev pub brought : DeskAnswer → List Event
brought (answers.Event e) = e ∷ []
brought answers.Nothing = []
brought answers.Closed = []
brought answers.Failed = []
brought answers.NoMemory = []

-- the count of faults rises where it failed
abbrev pub TakeFaults : DeskAnswer → ℕ → ℕ → Type 0
TakeFaults answers.Failed before now = Rose before now
TakeFaults _ before now = Unit {0}

-- the count of idles rises where nothing comes any more
abbrev pub TakeIdles : DeskAnswer → ℕ → ℕ → Type 0
TakeIdles answers.Closed before now = Rose before now
TakeIdles _ before now = Unit {0}

-- it was asked for an event, with this answer, which takes room for one call at most
pub record IsTaken (before now : DeskData) (answer : DeskAnswer) : Type 0 where
  pub taken : Adds before.taken now.taken (brought answer)
  pub performed : now.performed ≡ before.performed
  pub refused : now.refused ≡ before.refused
  pub takes : Grew before.takes now.takes 1
  pub stays : DeskStays before now
  pub place : before.room ≤ now.room + 1
  pub failed : TakeFaults answer before.faults now.faults
  pub closed : TakeIdles answer before.idles now.idles
  pub faults : before.faults ≤ now.faults
  pub idles : before.idles ≤ now.idles

-- it performed these actions, in order, each of which takes room for one call at most
pub record IsPerformed (before now : DeskData) (told : List Action) : Type 0 where
  pub performed : Adds before.performed now.performed told
  pub taken : now.taken ≡ before.taken
  pub refused : now.refused ≡ before.refused
  pub takes : now.takes ≡ before.takes
  pub stays : DeskStays before now
  pub place : before.room ≤ now.room + length told
  pub faults : now.faults ≡ before.faults
  pub idles : now.idles ≡ before.idles

-- it took back an event, which takes room for one call at most
pub record IsRefusedBy (before now : DeskData) (event : Event) : Type 0 where
  pub refused : Adds before.refused now.refused (event ∷ [])
  pub taken : now.taken ≡ before.taken
  pub performed : now.performed ≡ before.performed
  pub takes : now.takes ≡ before.takes
  pub stays : DeskStays before now
  pub place : before.room ≤ now.room + 1
  pub faults : now.faults ≡ before.faults
  pub idles : now.idles ≡ before.idles
