-- How a run went, by what it answers. `p` is the plan, `r` the record, whose newest entry stands first.
use Rattle.std.specs.Prelude.{ℕ, true, false, ◌≡◌, ◌+◌, ◌<◌, ◌≤◌, ◌⊎◌, List, [], ◌∷◌, ◌++◌, length, map, Option, Some, None, IfSome, Result, Ok, Err}
use Rattle.svc_base.specs.Streams.{Rose}
use Rattle.svc_record.specs.declared.action.BootstrapError.TheVariants as boots
use Rattle.svc_record.specs.declared.action.StepEnd.{StepEnd}
use Rattle.svc_record.specs.declared.action.StepEnd.TheVariants as ends
use Rattle.svc_record.specs.declared.plan.Plan.{Plan}
use Rattle.svc_record.specs.declared.plan.ServicePlan.{ServicePlan}
use Rattle.svc_record.specs.declared.event.Event.{Event}
use Rattle.svc_record.specs.declared.entry.Entry.TheVariants.{Got, Told}
use Rattle.svc_record.specs.declared.action.Action.TheVariants.{Start}
use Rattle.svc_record.specs.declared.item.Item.{Item}
use Rattle.svc_record.specs.declared.item.Item.TheVariants as items
use Rattle.svc_record.specs.Plans.{service}
use Rattle.svc_record.specs.Record.{Record, tell, EachEntry}
use Rattle.svc_record.specs.Ends.{step_end, has_ended}
use Rattle.svc_record.specs.Connections.{Verdict}
use Rattle.svc_record.specs.Drain.{waits_are_over}
use Rattle.svc_record.specs.Fits.{Fits, event_fits}
use Rattle.svc_record.specs.Right.{Right, Served as ServedRecord}
use Rattle.svc_record.specs.Tail.{with_event, closing_actions, tail_right}
use Rattle.svc_server.specs.declared.run.Outcome.{Outcome}
use Rattle.svc_server.specs.declared.run.Outcome.TheVariants.{Served, TestPassed, Parent}
use Rattle.svc_server.specs.declared.run.RunError.{RunError}
use Rattle.svc_server.specs.declared.run.RunError.TheVariants.{Config, HostFault, Bootstrap, Stray, TurnsSpent, OutOfEvents, NoMemory}
use Rattle.svc_server.specs.Hosts.{Handed, Account, Counts}
use Rattle.svc_server.specs.Judges.{IsSaid}

-- the events of a record, the oldest first
abbrev pub events_of : Record → List Event
events_of [] = []
events_of (Got e ∷ before) = events_of before ++ e ∷ []
events_of (Told a ∷ before) = events_of before

-- the name of service s of the plan
abbrev pub name_at : Plan → ℕ → List ℕ
name_at p s = name_of (service p s)
  where
    name_of : Option ServicePlan → List ℕ
    name_of (Some x) = x.name
    name_of None = []

-- the names of the services of the plan
abbrev pub names_of : Plan → List (List ℕ)
names_of p = map (λ (x : ServicePlan). x.name) p.services

-- the services that were started, each with the plan's name, the newest first
abbrev pub handed_of : Plan → Record → List Handed
handed_of p [] = []
handed_of p (Told (Start s) ∷ before) = record { service = s; name = name_at p s } ∷ handed_of p before
handed_of p (e ∷ before) = handed_of p before

-- the record of a run that served
pub record IsServed (p : Plan) (r : Record) : Type 0 where
  pub served : ServedRecord p r
  pub right : Right p r

-- what stands of a run that didn't serve: a right record of finished steps in which the run goes on, perhaps one more event, and a close of each
-- descriptor that isn't closed, so that each that came is closed once
pub record IsClosed (p : Plan) (r finished : Record) (also : Option Event) : Type 0 where
  pub right : Right p finished
  pub goes_on : has_ended p finished ≡ false
  pub closed : r ≡ tell (with_event also finished) (closing_actions p finished also)
  pub closed_once : tail_right finished also (closing_actions p finished also) ≡ true

-- what stands of a run that ended otherwise than by its shutdown: a right record of finished steps in which it ended so, and then a close of each
-- descriptor that isn't closed, so that each that came is closed once
pub record IsEndedSo (p : Plan) (end : StepEnd) (r finished : Record) : Type 0 where
  pub right : Right p finished
  pub ended : end ≡ step_end p finished
  pub closed : r ≡ tell finished (closing_actions p finished None)
  pub closed_once : tail_right finished None (closing_actions p finished None) ≡ true

-- what a run answers that has ended so, if it has ended
abbrev pub answer_of : StepEnd → Option (Result Outcome RunError)
answer_of ends.On = None
answer_of ends.Served = Some (Ok Served)
answer_of ends.Tested = Some (Ok TestPassed)
answer_of (ends.Parent n) = Some (Ok (Parent n))
answer_of (ends.Ended error) = Some (Err (Bootstrap error))

-- as many events as there are turns were taken, and the run goes on
pub record IsSpent (p : Plan) (turns : ℕ) (r finished : Record) : Type 0 where
  pub closed : IsClosed p r finished None
  pub count : length (events_of finished) ≡ turns

-- the k-th event, from 1, doesn't fit the record of those before it, and is the last that was taken
pub record IsStray (p : Plan) (k : ℕ) (r finished : Record) (e : Event) : Type 0 where
  pub closed : IsClosed p r finished (Some e)
  pub misfit : Fits p finished e → ⊥
  pub number : k ≡ length (events_of finished) + 1

-- memory was refused: before anything was told, or after finished steps and perhaps one more event
abbrev pub IsRefused : Plan → Record → Type 0
IsRefused p r = (r ≡ []) ⊎ ((finished : Record) × ((also : Option Event) × IsClosed p r finished also))

-- the record of the run of a plan with so many turns, by its answer
abbrev pub RunEnds : Plan → ℕ → Result Outcome RunError → Record → Type 0
RunEnds p turns (Ok Served) r = IsServed p r
RunEnds p turns (Ok TestPassed) r = (finished : Record) × IsEndedSo p ends.Tested r finished
RunEnds p turns (Ok (Parent n)) r = (finished : Record) × IsEndedSo p (ends.Parent n) r finished
RunEnds p turns (Err (Bootstrap error)) r = (finished : Record) × IsEndedSo p (ends.Ended error) r finished
RunEnds p turns (Err (Config key)) r = r ≡ []
RunEnds p turns (Err HostFault) r = (finished : Record) × IsClosed p r finished None
RunEnds p turns (Err (Stray k)) r = (finished : Record) × ((e : Event) × IsStray p k r finished e)
RunEnds p turns (Err TurnsSpent) r = (finished : Record) × IsSpent p turns r finished
RunEnds p turns (Err OutOfEvents) r = (finished : Record) × IsClosed p r finished None
RunEnds p turns (Err NoMemory) r = IsRefused p r

-- a fault of the host, or that nothing comes, is answered only where turns are left
abbrev pub StopsEarly : ℕ → Result Outcome RunError → Record → Type 0
StopsEarly turns (Err HostFault) r = length (events_of r) < turns
StopsEarly turns (Err OutOfEvents) r = length (events_of r) < turns
StopsEarly turns answer r = Unit {0}

-- what a host tells of such a run, whose filters answer so: its record, within so many events; where they are as many as there are turns, neither a
-- fault nor that nothing comes is answered; each service that was started, handed over with the
-- plan's name; and each judgement is its filter's verdict
pub record RunTells (verdict : Verdict) (p : Plan) (turns : ℕ) (answer : Result Outcome RunError) (a : Account) : Type 0 where
  pub ends : RunEnds p turns answer a.entries
  pub few : length (events_of a.entries) ≤ turns
  pub early : StopsEarly turns answer a.entries
  pub handed : a.handed ≡ handed_of p a.entries
  pub said : IsSaid verdict p a.entries

-- neither faults nor idles rose
abbrev pub IsUnfailed : Counts → Counts → Type 0
IsUnfailed before now = (now.faults ≡ before.faults) × (now.idles ≡ before.idles)

-- the counts of the host: faults rise in a run only where it answers so, and idles too; where receiving failed, the count of failures rose
abbrev pub RunCounts : Result Outcome RunError → Counts → Counts → Type 0
RunCounts (Ok outcome) before now = IsUnfailed before now
RunCounts (Err HostFault) before now = Rose before.faults now.faults × (now.idles ≡ before.idles)
RunCounts (Err OutOfEvents) before now = (now.faults ≡ before.faults) × Rose before.idles now.idles
RunCounts (Err (Bootstrap boots.Transfer)) before now = IsUnfailed before now × Rose before.failures now.failures
RunCounts (Err (Bootstrap boots.NoSender)) before now = IsUnfailed before now
RunCounts (Err (Bootstrap boots.BadMessage)) before now = IsUnfailed before now
RunCounts (Err (Config key)) before now = IsUnfailed before now
RunCounts (Err (Stray k)) before now = IsUnfailed before now
RunCounts (Err TurnsSpent) before now = IsUnfailed before now
RunCounts (Err NoMemory) before now = IsUnfailed before now

-- each event of the record fits what stands before it, and the record has passed: a signal came, and its waits are over
pub record GoesWell (p : Plan) (r : Record) : Type 0 where
  pub fits : EachEntry (λ e before. event_fits p e before ≡ true) r
  pub passed : waits_are_over p r ≡ true

-- the run served, or memory was refused
abbrev pub GoesThrough : Result Outcome RunError → Type 0
GoesThrough (Ok Served) = Unit {0}
GoesThrough (Err NoMemory) = Unit {0}
GoesThrough answer = ⊥

-- the answer isn't that the configuration is refused
abbrev pub IsConfigured : {T : Type 0} → Result T RunError → Type 0
IsConfigured (Err (Config key)) = ⊥
IsConfigured answer = Unit {0}

-- the items that a run took from what lay ahead: its events, and the fault that it answers
abbrev pub taken_items : Result Outcome RunError → Record → List Item
taken_items (Err HostFault) r = map items.Event (events_of r) ++ items.Fault ∷ []
taken_items answer r = map items.Event (events_of r)

-- nothing lies ahead where the run answers so
abbrev pub LeavesNothing : Result Outcome RunError → List Item → Type 0
LeavesNothing (Err OutOfEvents) left = left ≡ []
LeavesNothing answer left = Unit {0}

-- what lay ahead of the host is what the run took, and then what is left
pub record RunTakes (answer : Result Outcome RunError) (r : Record) (before now : List Item) : Type 0 where
  pub taken : before ≡ taken_items answer r ++ now
  pub left : LeavesNothing answer now

-- what a run leaves that answers so
pub record RunLeaves (verdict : Verdict) (p : Plan) (turns : ℕ) (answer : Result Outcome RunError) (account : Option Account) (old now : Counts)
    (before ahead : Option (List Item)) : Type 0 where
  pub tells : IfSome account (RunTells verdict p turns answer)
  pub counts : RunCounts answer old now
  pub takes : IfSome account (λ a. IfSome before (λ b. IfSome ahead (RunTakes answer a.entries b)))
