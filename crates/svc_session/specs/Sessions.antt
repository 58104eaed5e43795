-- What the calls of a session mean.
use Rattle.std.specs.Prelude.{◌≡◌, Bool, true, false, List, [], ◌∷◌, ◌++◌, map, None}
use Rattle.svc_record.specs.declared.plan.Plan.{Plan}
use Rattle.svc_record.specs.declared.action.Action.{Action}
use Rattle.svc_record.specs.declared.action.StepEnd.{StepEnd}
use Rattle.svc_record.specs.declared.entry.Entry.{Entry}
use Rattle.svc_record.specs.declared.entry.Entry.TheVariants.{Got, Told}
use Rattle.svc_record.specs.declared.event.Event.{Event}
use Rattle.svc_record.specs.Record.{Record}
use Rattle.svc_record.specs.Judging.{judged_at, judgements}
use Rattle.svc_core.specs.Stands.{Represents, BeginKeeps, StepKeeps, ClosesAll}
use Rattle.svc_session.specs.SessionData.{SessionData}

-- what was told, as entries
abbrev pub told_entries : List Action → List Entry
told_entries told = map (λ a. Told a) told

-- the server of the plan began, and its record is what it told
pub record Begins (p : Plan) (s : SessionData) (told : List Action) : Type 0 where
  pub end : StepEnd
  pub begun : BeginKeeps s.core [] told end
  pub plan_is : s.core.plan ≡ p
  pub entries : s.entries ≡ told_entries told
  pub unclosed : s.closed ≡ false

-- the server took the event, and its record has grown by it and by what was told, in which the judgements are as was said
pub record Takes (old new : SessionData) (e : Event) (said : Bool) (end : StepEnd) (told : List Action) : Type 0 where
  pub keeps : StepKeeps old.core new.core e [] told end
  pub plan_is : new.core.plan ≡ old.core.plan
  pub judged : judgements told ≡ judged_at old.core.plan e said
  pub entries : new.entries ≡ old.entries ++ Got e ∷ told_entries told
  pub closed : new.closed ≡ old.closed

-- all that was open was closed, and the record has grown by that
pub record Closes (old new : SessionData) (told : List Action) : Type 0 where
  pub closes : (q : Record) → Represents old.core q → ClosesAll old.core.plan q None [] told
  pub core : new.core ≡ old.core
  pub entries : new.entries ≡ old.entries ++ told_entries told
  pub closed : new.closed ≡ true
