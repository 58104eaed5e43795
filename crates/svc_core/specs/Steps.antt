-- What the core's steps and their parts keep: one record for each sort.
use Rattle.std.specs.Prelude.{false, ℕ, Bool, ◌≡◌, ◌+◌, ◌*◌, ◌≤◌, ◌++◌, true, List, length, Option, Result, MatchResult, OnOk, is_some, ⊤}
use Rattle.svc_base.specs.declared.memory.NoMemory.{NoMemory}
use Rattle.svc_base.specs.Items.{list_of, spare}
use Rattle.svc_fds.specs.declared.encoding.Message.{Message}
use Rattle.svc_record.specs.declared.action.Action.{Action}
use Rattle.svc_record.specs.declared.action.StepEnd.{StepEnd}
use Rattle.svc_record.specs.declared.action.StepEnd.TheVariants.{Served}
use Rattle.svc_record.specs.declared.event.Event.{Event}
use Rattle.svc_record.specs.declared.event.Event.TheVariants.{Arrived, Signal}
use Rattle.svc_record.specs.Judging.{TellsJudged, judged_at}
use Rattle.svc_record.specs.Record.{Record, tell}
use Rattle.svc_record.specs.Told.{Tells}
use Rattle.svc_endpoints.specs.EndpointsState.{open_numbers as table_numbers}
use Rattle.svc_drain.specs.DrainEffects.{cuts, end_told}
use Rattle.svc_connections.specs.ConnectionsState.{numbers}
use Rattle.svc_core.specs.CoreData.{CoreData, is_on, with_end}
use Rattle.svc_core.specs.Copies.{TellsBare, TellsCopied, copy_of, copy_at}
use Rattle.svc_core.specs.Passes.{begin_room}
use Rattle.svc_core.specs.Rooms.{tell_room, close_room, open_count, most_open}
use Rattle.svc_core.specs.Stands.{HasNotBegun, AfterBootstrap, AfterPass, StepRight, StepKeeps, BeginKeeps, RowMayCome}

-- a list of actions, and for how many more it has memory
abbrev pub Actions : Type 0
Actions = List Action × ℕ

-- a call told at most `most` actions less `left`, which may be told after it, and took no more of the room
pub record Spends (most left : ℕ) (before after : Actions) : Type 0 where
  pub few : length (list_of after) + left ≤ length (list_of before) + most
  pub room : spare before + left ≤ spare after + most

-- how many actions a visit of the services tells at most
abbrev pub visit_room : CoreData → ℕ
visit_room core = 2 * length core.order + begin_room core.boot

-- how many follow from an event, or from the beginning of a run, with a close of all
abbrev pub finish_room : CoreData → ℕ
finish_room core = visit_room core + most_open core + 11

abbrev pub bootstrap_room : CoreData → ℕ
bootstrap_room core = 2 * length core.order + most_open core + 19

-- and how many once the services were visited, and once the server runs
abbrev pub go_room : CoreData → ℕ
go_room core = most_open core + 10

abbrev pub answer_room : CoreData → ℕ
answer_room core = most_open core + 8

-- the event may come, and there is room for its step
pub record MayStep (core : CoreData) (e : Event) (actions : Actions) : Type 0 where
  pub on : is_on core.end ≡ true
  pub may : RowMayCome core e
  pub room : tell_room core ≤ spare actions

-- an event's step: the record stays right, what owns memory is told once at most, and there is room for a close of all
pub record Steps (old new : CoreData) (e : Event) (before after : Actions) (end : StepEnd) : Type 0 where
  pub plan : new.plan ≡ old.plan
  pub kept : StepKeeps old new e (list_of before) (list_of after) end
  pub copied : TellsCopied (copy_at old e) (list_of before) (list_of after)
  pub spends : Spends (tell_room old) (close_room new) before after

-- nothing has changed
pub record IsUndone (old new : CoreData) (before after : Actions) : Type 0 where
  pub same : new ≡ old
  pub untold : after ≡ before

-- an event's step, or nothing for want of memory
abbrev pub StepsOr : CoreData → CoreData → Event → Actions → Actions → Result StepEnd NoMemory → Type 0
StepsOr old new e before after result = MatchResult result (λ end. Steps old new e before after end) (λ _. IsUndone old new before after)

-- a signal after the first that doesn't cut its waits short changes nothing
abbrev pub Ignores : CoreData → CoreData → Event → Actions → Actions → Type 0
Ignores old new (Signal kind) before after = is_some old.drain.signal ≡ true → cuts old.drain.signal kind ≡ false → IsUndone old new before after
Ignores old new _ before after = ⊤

-- a connection that arrived is judged as was said
abbrev pub Judges : CoreData → Event → Bool → Actions → Actions → Type 0
Judges core (Arrived s i c peer) said before after = TellsJudged (judged_at core.plan (Arrived s i c peer) said) (list_of before) (list_of after)
Judges core _ said before after = ⊤

-- what any event's step keeps
pub record Takes (old new : CoreData) (e : Event) (said : Bool) (before after : Actions) (result : Result StepEnd NoMemory) : Type 0 where
  pub steps : StepsOr old new e before after result
  pub later : Ignores old new e before after
  pub judged : OnOk result (Judges old e said before after)

-- the rest of a step, of a record that is so: it is right at the end, with at most this many actions told
pub record Goes (IsSo : Record → Type 0) (most : ℕ) (old new : CoreData) (copy : Option Message) (before after : Actions) (end : StepEnd) : Type 0 where
  pub plan : new.plan ≡ old.plan
  pub kept : Tells (list_of before) (list_of after) (λ told. (q : Record) → IsSo q → StepRight new (tell q told) end)
  pub copied : TellsCopied (copy_of copy) (list_of before) (list_of after)
  pub spends : Spends most (open_count new) before after

-- a daemon may ask for its fork, and there is room
pub record MayFork (core : CoreData) (actions : Actions) : Type 0 where
  pub daemon : core.plan.daemon ≡ true
  pub first : HasNotBegun core
  pub room : tell_room core ≤ spare actions

-- the first step
pub record Begins (old new : CoreData) (before after : Actions) (end : StepEnd) : Type 0 where
  pub plan : new.plan ≡ old.plan
  pub kept : BeginKeeps new (list_of before) (list_of after) end
  pub bare : TellsBare (list_of before) (list_of after)
  pub spends : Spends (tell_room old) (close_room new) before after

-- the services are visited, where they may start
pub record Visits (old new : CoreData) (before after : Actions) : Type 0 where
  pub plan : new.plan ≡ old.plan
  pub order : new.order ≡ old.order
  pub table : new.endpoints.table ≡ old.endpoints.table
  pub connections : new.connections ≡ old.connections
  pub kept : Tells (list_of before) (list_of after) (λ told. (copy : Option Message) (q : Record)
      → AfterBootstrap old copy q → AfterPass new copy (tell q told))
  pub bare : TellsBare (list_of before) (list_of after)
  pub spends : Spends (visit_room old) 0 before after

-- the run ends: what is live is cut and closed
pub record EndsRun (old new : CoreData) (given left : Actions) (answer : StepEnd) : Type 0 where
  pub after : new ≡ with_end Served old
  pub end : answer ≡ Served
  pub told : list_of left ≡ list_of given ++ end_told old.plan old.drain (numbers old.connections.live) (table_numbers old.endpoints)
  pub room : spare given ≤ spare left + (most_open old + 3)
