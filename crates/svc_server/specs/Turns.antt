-- Points in a run over a host, and what a turn leaves.
use Rattle.std.specs.Prelude.{ℕ, true, false, ◌≡◌, ◌+◌, ◌-◌, ◌*◌, ◌^◌, ◌<◌, ◌≤◌, min, List, [], ◌∷◌, ◌++◌, length, map, Option, Some, None, IfSome, Result, Ok, Err}
use Rattle.std.specs.Option.{option_map}
use Rattle.svc_base.specs.Items.{list_of, spare}
use Rattle.svc_record.specs.declared.plan.Plan.{Plan}
use Rattle.svc_record.specs.declared.action.Action.{Action}
use Rattle.svc_record.specs.declared.action.StepEnd.{StepEnd}
use Rattle.svc_record.specs.declared.action.StepEnd.TheVariants as ends
use Rattle.svc_record.specs.declared.action.BootstrapError.TheVariants as boots
use Rattle.svc_base.specs.Streams.{Rose}
use Rattle.svc_record.specs.declared.event.Event.{Event}
use Rattle.svc_record.specs.declared.entry.Entry.TheVariants.{Got}
use Rattle.svc_record.specs.declared.item.Item.{Item}
use Rattle.svc_record.specs.declared.item.Item.TheVariants as items
use Rattle.svc_record.specs.Record.{Record, tell}
use Rattle.svc_record.specs.Ends.{step_end, has_ended}
use Rattle.svc_record.specs.Right.{Right}
use Rattle.svc_record.specs.Connections.{Verdict}
use Rattle.svc_record.specs.Tail.{with_event, closing_actions}
use Rattle.svc_core.specs.CoreData.{CoreData}
use Rattle.svc_core.specs.Rooms.{close_room}
use Rattle.svc_core.specs.Stands.{Represents, StepRight}
use Rattle.svc_server.specs.declared.run.Outcome.{Outcome}
use Rattle.svc_server.specs.declared.run.RunError.{RunError}
use Rattle.svc_server.specs.declared.run.RunError.TheVariants.{Stray, NoMemory}
use Rattle.svc_server.specs.Hosts.{Account, Counts, BringsFew, tells_failure}
use Rattle.svc_server.specs.Judges.{Judges}
use Rattle.svc_server.specs.Runs.{events_of, RunTells, RunCounts, RunTakes, IsUnfailed}
use Rattle.svc_server.specs.Handing.{Hands}

-- between two turns, or after the last: the core stands for the record q, which is right and leaves the run so; the services that aren't started are
-- left, and the host's account is q's; k events came
pub record IsAt (core : CoreData) (left : List (Option (List ℕ))) (account : Option Account) (k : ℕ) (end : StepEnd) (q : Record) : Type 0 where
  pub stands : Represents core q
  pub right : Right core.plan q
  pub answer : end ≡ step_end core.plan q
  pub hands : Hands left account core.plan q
  pub count : length (events_of q) ≡ k

-- within a turn: the next event is in the account, and isn't taken yet
pub record IsAtEvent (core : CoreData) (left : List (Option (List ℕ))) (account : Option Account) (k : ℕ) (e : Event) (q : Record) : Type 0 where
  pub stands : Represents core q
  pub right : Right core.plan q
  pub goes_on : has_ended core.plan q ≡ false
  pub hands : Hands left account core.plan (Got e ∷ q)
  pub count : length (events_of q) ≡ k

-- for some record
abbrev pub IsSomewhere : CoreData → List (Option (List ℕ)) → Option Account → ℕ → StepEnd → Type 0
IsSomewhere core left account k end = (q : Record) × IsAt core left account k end q

-- for some record, whose judgements are the verdicts of some filters that now answer so
abbrev pub IsJudgedSomewhere : Verdict → CoreData → List (Option (List ℕ)) → Option Account → ℕ → StepEnd → Type 0
IsJudgedSomewhere answers core left account k end = (q : Record) × (IsAt core left account k end q × ((verdict : Verdict) × Judges verdict answers core.plan q))

-- for some record, where an event came
abbrev pub IsSomewhereAtEvent : CoreData → List (Option (List ℕ)) → Option Account → ℕ → Option Event → Type 0
IsSomewhereAtEvent core left account k None = ⊥
IsSomewhereAtEvent core left account k (Some e) = BringsFew e × ((q : Record) × IsAtEvent core left account k e q)

-- what lay ahead is the events of the record, and then what lies ahead now
abbrev pub IsAhead : Option (List Item) → Option (List Item) → Record → Type 0
IsAhead before now q = before ≡ option_map (λ rest. map items.Event (events_of q) ++ rest) now

-- there is memory for closing all: in an empty list, and with the host
pub record HasRoom (core : CoreData) (closing : List Action × ℕ) (host : ℕ) : Type 0 where
  pub empty : list_of closing ≡ []
  pub list : close_room core ≤ spare closing
  pub told : 2 * close_room core ≤ host

-- all can be closed, perhaps with an unfinished event
abbrev pub CanClose : CoreData → List (Option (List ℕ)) → Option Account → Option Event → Type 0
CanClose core left account also = (q : Record) × (Represents core q × Hands left account core.plan (with_event also q))

-- then all that the core's record has open was closed, and with it what an unfinished event brought
abbrev pub ClosesTo : CoreData → List (Option (List ℕ)) → List (Option (List ℕ)) → Option Account → Option Account → Option Event → Type 0
ClosesTo core left now_left account now_account also =
    (q : Record) → Represents core q → Hands left account core.plan (with_event also q)
    → Hands now_left now_account core.plan (tell (with_event also q) (closing_actions core.plan q also))

-- an event can be taken, which the host's account has already
abbrev pub CanTake : CoreData → List (Option (List ℕ)) → Option Account → Option Event → Type 0
CanTake core left account None = ⊥
CanTake core left account (Some e) = (q : Record) × ((Represents core q × Right core.plan q) × Hands left account core.plan (Got e ∷ q))

-- after the record q some actions were told; the record with them is right, the core stands for it, and the answer is its own; where each judgement
-- was its filter's verdict, it still is, with what the filters answer before and now
pub record Leaves (before now : Verdict) (core : CoreData) (left : List (Option (List ℕ))) (account : Option Account) (end : StepEnd)
    (q : Record) : Type 0 where
  pub told : List Action
  pub step : StepRight core (tell q told) end
  pub hands : Hands left account core.plan (tell q told)
  pub judges : (verdict : Verdict) → Judges verdict before core.plan q → Judges verdict now core.plan (tell q told)

-- what a run gives whose filters answer so, where the host tells its account, and where it knows what lies ahead
pub record RunGives (verdict : Verdict) (p : Plan) (turns : ℕ) (answer : Result Outcome RunError) (account : Option Account)
    (before now : Option (List Item)) : Type 0 where
  pub tells : IfSome account (RunTells verdict p turns answer)
  pub takes : IfSome account (λ a. IfSome before (λ b. IfSome now (RunTakes answer a.entries b)))

-- a turn goes to the next point, with what the filters answer at first and now, or gives up the run
abbrev pub TurnGives : Verdict → Verdict → CoreData → List (Option (List ℕ)) → Option Account → ℕ → ℕ → Result StepEnd RunError → Option (List Item)
    → Option (List Item) → Type 0
TurnGives verdict answers core left account k turns (Ok end) before now =
    (q : Record) × (IsAt core left account (k + 1) end q × (IsAhead before now q × Judges verdict answers core.plan q))
TurnGives verdict answers core left account k turns (Err e) before now = RunGives verdict core.plan turns (Err e) account before now

-- what a turn gives in which the event e came, and which answers so, with what the filters answer before and after it
abbrev pub EventGives : Verdict → Verdict → CoreData → CoreData → List (Option (List ℕ)) → List (Option (List ℕ)) → Option Account → Option Account → ℕ
    → Result StepEnd RunError → Option (List Item) → Option (List Item) → Event → Type 0
EventGives answers now_answers core now_core left now_left account now_account k answer ahead now e =
    (verdict : Verdict) (turns : ℕ) (before : Option (List Item)) (q : Record) → k < turns → IsAtEvent core left account k e q
    → IsAhead before ahead (Got e ∷ q)
    → Judges verdict answers core.plan q → TurnGives verdict now_answers now_core now_left now_account k turns answer before now

-- a count of 64 bits that didn't fall
abbrev pub HasNotFallen : ℕ → ℕ → Type 0
HasNotFallen before now = min before (2 ^ 64 - 1) ≤ now

-- the counts at the end of a step that leaves the run so: where receiving failed, the count of failures rose
pub record EndCounts (end : StepEnd) (before now : Counts) : Type 0 where
  pub unfailed : IsUnfailed before now
  pub failures : HasNotFallen before.failures now.failures
  pub transfer : end ≡ ends.Ended boots.Transfer → Rose before.failures now.failures

-- the counts after a turn
abbrev pub TurnCounts : Result StepEnd RunError → Counts → Counts → Type 0
TurnCounts (Ok end) before now = EndCounts end before now
TurnCounts (Err e) before now = RunCounts (Err e) before now

-- receiving failed only at an event that tells a failure
abbrev pub FailsBy : Result StepEnd RunError → Event → Type 0
FailsBy (Ok end) e = end ≡ ends.Ended boots.Transfer → tells_failure e ≡ true
FailsBy (Err error) e = Unit {0}

-- an answer to an event that came: it was taken, or did not fit, or memory was refused
abbrev pub AnswersEvent : Result StepEnd RunError → Type 0
AnswersEvent (Ok end) = Unit {0}
AnswersEvent (Err (Stray k)) = Unit {0}
AnswersEvent (Err NoMemory) = Unit {0}
AnswersEvent (Err _) = ⊥
