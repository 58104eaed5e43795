-- What the calls of a session mean.
use Rattle.std.specs.Prelude.{ℕ, ◌≡◌, ◌≢◌, ◌<◌, Bool, true, not, List, [], ◌∷◌, ◌++◌, length, map, take, drop, slice_get, Option, Some, None, unwrap_or, Result, Ok, Err}
use Rattle.std.specs.Option.{option_map}
use Rattle.svc_record.specs.declared.action.Action.{Action}
use Rattle.svc_record.specs.declared.action.StepEnd.{StepEnd}
use Rattle.svc_record.specs.declared.entry.Entry.{Entry}
use Rattle.svc_record.specs.declared.entry.Entry.TheVariants.{Got, Told}
use Rattle.svc_record.specs.declared.event.Event.{Event}
use Rattle.svc_record.specs.declared.event.Event.TheVariants.{Arrived}
use Rattle.svc_record.specs.Descriptors.{numbers_of}
use Rattle.svc_record.specs.Judging.{TellsJudged, judged_at, asked_filter}
use Rattle.svc_record.specs.Record.{Record}
use Rattle.svc_record.specs.Text.{text_of}
use Rattle.svc_socket.specs.declared.peer.Peer.TheVariants.{Inet}
use Rattle.svc_socket.specs.declared.reading.IpNumber.{IpNumber}
use Rattle.svc_text.specs.declared.service.ServiceLine.{ServiceLine}
use Rattle.svc_base.specs.Words.{words}
use Rattle.svc_text.specs.EventLines.{event_of}
use Rattle.svc_text.specs.Filters.{is_blocked}
use Rattle.svc_core.specs.Stands.{Represents, MayCome, BeginKeeps, StepKeeps, ClosesAll}
use Rattle.svc_c.specs.declared.session.Asked.{Asked}
use Rattle.svc_c.specs.declared.session.StepError.{StepError}
use Rattle.svc_c.specs.declared.session.StepError.TheVariants.{NoMemory, NoEvent, Stray, Order}
use Rattle.svc_c.specs.declared.session.ToldError.{ToldError}
use Rattle.svc_c.specs.declared.session.ToldError.TheVariants as told
use Rattle.svc_c.specs.declared.stage.Stage.TheVariants.{Fresh, Begun, Closed}
use Rattle.svc_c.specs.SessionData.{SessionData}

-- the addresses that service s blocks
abbrev pub blocked_at : List ServiceLine → ℕ → List IpNumber
blocked_at services s = unwrap_or (option_map (λ (x : ServiceLine). x.blocked) (slice_get services s)) []

-- what they say of the peer of the event: no to a blocked one
abbrev pub own_word : List ServiceLine → Event → Bool
own_word services (Arrived s i c (Inet peer)) = not (is_blocked (blocked_at services s) (Some peer))
own_word services _ = true

-- a buffer with a text at its front, as far as it fits
abbrev pub put_in : List ℕ → List ℕ → List ℕ
put_in text out = take (length out) text ++ drop (length text) out

-- the event that a line says, if it says one, unless memory ran out
abbrev pub Says : List ℕ → Result Event StepError → Type 0
Says line (Ok e) = event_of (words line) ≡ Some e
Says line (Err NoEvent) = event_of (words line) ≡ None
Says line (Err NoMemory) = Unit {0}
Says line (Err _) = ⊥

-- why the event of a line isn't taken: the session hasn't begun, or all was closed; the line is no event; the event may not come; or memory ran out
abbrev pub IsUntaken : List ℕ → SessionData → StepError → Type 0
IsUntaken line s Order = s.stage ≡ Begun → ⊥
IsUntaken line s NoEvent = event_of (words line) ≡ None
IsUntaken line s Stray = (e : Event) × ((event_of (words line) ≡ Some e) × (MayCome s.core e → ⊥))
IsUntaken line s NoMemory = Unit {0}

-- what the first step tells, which is now what the last call told, and its answer
pub record BeginsWith (old new : SessionData) (end : StepEnd) (told : List Action) : Type 0 where
  pub fresh : old.stage ≡ Fresh
  pub entries : new.entries ≡ map Told told
  pub kept : BeginKeeps new.core [] told end
  pub judged : TellsJudged [] [] told
  pub plan : new.core.plan ≡ old.core.plan
  pub services : new.services ≡ old.services
  pub stage : new.stage ≡ Begun
  pub end_is : new.end ≡ end

-- the first step was taken; or the session is as it was, since it has begun, or memory ran out
abbrev pub IsBegun : SessionData → SessionData → Result StepEnd StepError → Type 0
IsBegun old new (Ok end) = (told : List Action) × BeginsWith old new end told
IsBegun old new (Err Order) = (new ≡ old) × (old.stage ≡ Fresh → ⊥)
IsBegun old new (Err NoMemory) = new ≡ old
IsBegun old new (Err _) = ⊥

-- the step of an event tells these actions, which are now what the last call told behind the event, and its answer
pub record StepsWith (e : Event) (said : Bool) (old new : SessionData) (end : StepEnd) (told : List Action) : Type 0 where
  pub entries : new.entries ≡ Got e ∷ map Told told
  pub kept : StepKeeps old.core new.core e [] told end
  pub judged : TellsJudged (judged_at old.core.plan e said) [] told
  pub plan : new.core.plan ≡ old.core.plan
  pub services : new.services ≡ old.services
  pub stage : new.stage ≡ Begun
  pub end_is : new.end ≡ end

-- the step of the event was taken, or memory ran out and the session is as it was
abbrev pub IsTaken : Event → Bool → SessionData → SessionData → Result StepEnd StepError → Type 0
IsTaken e said old new (Ok end) = (told : List Action) × StepsWith e said old new end told
IsTaken e said old new (Err NoMemory) = new ≡ old
IsTaken e said old new (Err _) = ⊥

-- the event of the line may come and its step was taken, or the session is as it was
abbrev pub IsStepped : List ℕ → Bool → SessionData → SessionData → Result StepEnd StepError → Type 0
IsStepped line said old new (Ok end) =
    (old.stage ≡ Begun) × ((e : Event) × ((event_of (words line) ≡ Some e) × (MayCome old.core e × IsTaken e said old new (Ok end))))
IsStepped line said old new (Err error) = (new ≡ old) × IsUntaken line old error

-- which filter is asked at the event, and what the blocked addresses say
abbrev pub Asks : SessionData → Event → Asked → Type 0
Asks s e asked = (asked.filter ≡ asked_filter s.core.plan e) × (asked.said ≡ own_word s.services e)

-- the event of the line may come, and what is asked at it; or why not
abbrev pub IsAsked : List ℕ → SessionData → Result Asked StepError → Type 0
IsAsked line s (Ok asked) =
    (s.stage ≡ Begun) × ((e : Event) × ((event_of (words line) ≡ Some e) × (MayCome s.core e × Asks s e asked)))
IsAsked line s (Err error) = IsUntaken line s error

-- how many descriptors an event brings that is left unfinished
abbrev pub brought_by : Option Event → ℕ
brought_by None = 0
brought_by (Some e) = length (numbers_of (Got e))

-- the entries of such an event
abbrev pub entries_of : Option Event → List Entry
entries_of None = []
entries_of (Some e) = Got e ∷ []

-- all was closed, with what an event brought
pub record ClosesWith (also : Option Event) (old new : SessionData) (told : List Action) : Type 0 where
  pub entries : new.entries ≡ entries_of also ++ map Told told
  pub closes : (q : Record) → Represents old.core q → ClosesAll old.core.plan q also [] told
  pub core : new.core ≡ old.core
  pub services : new.services ≡ old.services
  pub stage : new.stage ≡ Closed
  pub end : new.end ≡ old.end

-- all was closed, or memory ran out and the session is as it was
abbrev pub IsEndedWith : Option Event → SessionData → SessionData → Result (Unit {0}) StepError → Type 0
IsEndedWith also old new (Ok _) = (told : List Action) × ClosesWith also old new told
IsEndedWith also old new (Err NoMemory) = new ≡ old
IsEndedWith also old new (Err _) = ⊥

-- the event that a line says, where it isn't empty
abbrev pub event_in : List ℕ → Option Event
event_in [] = None
event_in (b ∷ line) = event_of (words (b ∷ line))

-- the line isn't empty, and says no event
abbrev pub IsNoEvent : List ℕ → Type 0
IsNoEvent line = (line ≢ []) × (event_of (words line) ≡ None)

-- all was closed for the first time, with what the line's event brought; or the session is as it was
abbrev pub IsClosed : List ℕ → SessionData → SessionData → Result (Unit {0}) StepError → Type 0
IsClosed line old new (Ok x) = (old.stage ≡ Closed → ⊥) × (IsNoEvent line → ⊥) × IsEndedWith (event_in line) old new (Ok x)
IsClosed line old new (Err Order) = (new ≡ old) × (old.stage ≡ Closed)
IsClosed line old new (Err NoEvent) = (new ≡ old) × (old.stage ≡ Closed → ⊥) × IsNoEvent line
IsClosed line old new (Err NoMemory) = new ≡ old
IsClosed line old new (Err Stray) = ⊥

-- the lines of the entries stand at the front of the buffer, or they don't fit there, or memory ran out, and the buffer is as it was
abbrev pub IsToldIn : List Entry → List ℕ → List ℕ → Result ℕ ToldError → Type 0
IsToldIn entries before after (Ok n) = (n ≡ length (text_of entries)) × (after ≡ text_of entries ++ drop n before)
IsToldIn entries before after (Err (told.TooShort n)) = (n ≡ length (text_of entries)) × ((length before < n) × (after ≡ before))
IsToldIn entries before after (Err told.NoMemory) = after ≡ before
