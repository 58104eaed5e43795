-- What the program answers, and why.
use Rattle.std.specs.Prelude.{◌≡◌, ℕ, All, ◌<◌, ◌≤◌, ◌⊎◌, ◌+◌, ◌*◌, true, false, List, ◌∷◌, ◌++◌, length, take, map, reverse, slice_index, Option, Some, None, Result, Ok, Err, IfSome}
use Rattle.std.specs.Io.KnownBytes.{Appends, IsAtEnd}
use Rattle.std.specs.Str.Lines.{lines}
use Rattle.svc_base.specs.Streams.{Rose}
use Rattle.svc_conf.specs.declared.server.configuration.ServerConf.{ServerConf}
use Rattle.svc_conf.specs.declared.server.configuration.Opt.{Opt}
use Rattle.svc_conf.specs.Configuration.{judged}
use Rattle.svc_conf.specs.ConfigurationText.{merged}
use Rattle.svc_record.specs.declared.plan.Plan.{Plan}
use Rattle.svc_record.specs.declared.action.StepEnd.{StepEnd}
use Rattle.svc_record.specs.declared.action.StepEnd.TheVariants as ends
use Rattle.svc_record.specs.declared.event.Event.{Event}
use Rattle.svc_record.specs.declared.item.Item.{Item}
use Rattle.svc_record.specs.declared.item.Item.TheVariants as items
use Rattle.svc_record.specs.Record.{Record, times, EachEntry}
use Rattle.svc_record.specs.Connections.{said_right}
use Rattle.svc_record.specs.Drain.{waits_are_over}
use Rattle.svc_record.specs.Ends.{step_end, has_ended}
use Rattle.svc_record.specs.Fits.{Fits}
use Rattle.svc_record.specs.Right.{Right}
use Rattle.svc_record.specs.Text.{text_of, EntryFits}
use Rattle.svc_text.specs.Script.{Parts, IsLineOf, script}
use Rattle.svc_text.specs.Dependencies.{RefusesAt, RefusesNone}
use Rattle.svc_text.specs.Filters.{script_verdict}
use Rattle.svc_text.specs.declared.service.ServiceLine.{ServiceLine}
use Rattle.svc_text.specs.ScriptPlans.{plan_of}
use Rattle.svc_server.specs.declared.run.Outcome.{Outcome}
use Rattle.svc_server.specs.declared.run.Outcome.TheVariants as outcomes
use Rattle.svc_server.specs.declared.run.RunError.{RunError}
use Rattle.svc_server.specs.declared.run.RunError.TheVariants as errors
use Rattle.svc_server.specs.Runs.{events_of, RunEnds, RunTakes}
use Rattle.svc_main.specs.declared.outcome.RunEnd.{RunEnd}
use Rattle.svc_main.specs.declared.outcome.RunEnd.TheVariants.{Served, Tested, Parent, Config, HostFault, Bootstrap, Stray, OutOfEvents}
use Rattle.svc_main.specs.declared.outcome.StatusLine.{StatusLine}
use Rattle.svc_main.specs.declared.outcome.StatusLine.TheVariants.{Words, Line, ReadFault, Run}
use Rattle.svc_main.specs.Status.{status_line, end_status, StatusFits}
use Rattle.svc_main.specs.CommandWords.{TakesWords, AcceptsWords, RefusesWords, made_size, flags_of}
use Rattle.svc_main.specs.Generator.{made_parts, made_events, no_flags}
use Rattle.svc_main.specs.Counts.{count_lines, is_any_start, is_any_bind, is_any_close}

-- what the run of a server answers where it ends so
abbrev pub answer_of : RunEnd → Result Outcome RunError
answer_of Served = Ok outcomes.Served
answer_of Tested = Ok outcomes.TestPassed
answer_of (Parent n) = Ok (outcomes.Parent n)
answer_of (Config key) = Err (errors.Config key)
answer_of HostFault = Err errors.HostFault
answer_of (Bootstrap error) = Err (errors.Bootstrap error)
answer_of (Stray k) = Err (errors.Stray k)
answer_of OutOfEvents = Err errors.OutOfEvents

-- how many turns a script's run has: one more than it has items
abbrev pub turns_of : Parts → ℕ
turns_of parts = length parts.items + 1

-- the configuration is refused with the key that the run's end names, if it names one
abbrev pub Judges : RunEnd → ServerConf → Type 0
Judges (Config key) conf = judged conf ≡ Err key
Judges end conf = Unit {0}

-- the record of the run of these services by a plan, with so many turns, by its answer; each filter says no exactly to a blocked address
pub record TellsRun (services : List ServiceLine) (p : Plan) (turns : ℕ) (answer : Result Outcome RunError) (r : Record) : Type 0 where
  pub ends : RunEnds p turns answer r
  pub said : EachEntry (λ e before. said_right (script_verdict services) p e before ≡ true) r

-- the run of a server of the script's plan with these flags, over the script's items, leaves this record and ends so
pub record IsRunOf (opt : Opt) (parts : Parts) (end : RunEnd) (r : Record) : Type 0 where
  pub judged : Judges end (merged opt parts.conf)
  pub tells : TellsRun parts.services (plan_of opt parts) (turns_of parts) (answer_of end) r
  pub left : List Item
  pub takes : RunTakes (answer_of end) r parts.items left

-- the record of such a run is what is printed, with the status line
pub record PrintsRun (opt : Opt) (parts : Parts) (end : RunEnd) (out : List ℕ) (r : Record) : Type 0 where
  pub printed : out ≡ text_of (reverse r) ++ status_line (Run end)
  pub numbers : All EntryFits (reverse r)
  pub number : StatusFits (Run end)
  pub run : IsRunOf opt parts end r

-- a text that prints the run of the script with these flags
abbrev pub RanText : Opt → Parts → RunEnd → List ℕ → Type 0
RanText opt parts end out = (r : Record) × PrintsRun opt parts end out r

-- the run of n services of the generator took all its events and served; its starts, binds and closes are printed, with the status line
pub record PrintsCounts (n : ℕ) (out : List ℕ) (r : Record) : Type 0 where
  pub printed : out ≡ count_lines n (2 * n) n ++ status_line (Run Served)
  pub run : IsRunOf no_flags (made_parts n) Served r
  pub events : events_of r ≡ made_events n
  pub starts : times is_any_start r ≡ n
  pub binds : times is_any_bind r ≡ 2 * n
  pub closes : times is_any_close r ≡ n

-- a text that prints the counts of the run of n services of the generator
abbrev pub CountsText : ℕ → List ℕ → Type 0
CountsText n out = (r : Record) × PrintsCounts n out r

-- the words ask for the generator, and the text prints the counts of its run
abbrev pub MadeText : List (List ℕ) → List ℕ → Type 0
MadeText words out = (n : ℕ) × (made_size words ≡ Some n) × CountsText n out

-- the bytes, within the limit, are a script with these parts, whose dependencies are known and without a cycle
pub record IsScript (bytes : List ℕ) (parts : Parts) : Type 0 where
  pub short : length bytes ≤ 16777216
  pub says : script bytes ≡ Ok parts
  pub edges : RefusesNone parts.services

-- a text that prints the run of some script, which is the one that was read where the source tells its bytes
abbrev pub RunText : Opt → Option (List ℕ) → RunEnd → List ℕ → Type 0
RunText opt left end out = (parts : Parts) × (RanText opt parts end out × IfSome left (λ bytes. IsScript bytes parts))

-- the line of the first service whose dependencies are refused
abbrev pub RefusesEdge : List ℕ → ℕ → Type 0
RefusesEdge bytes n = (parts : Parts) × ((script bytes ≡ Ok parts) × ((k : ℕ) × (RefusesAt parts.services k × IsLineOf (lines bytes) k n)))

-- the refused line of bytes within the limit: the first that doesn't fit; else that of the first service whose dependencies are refused
abbrev pub RefusesWithin : List ℕ → ℕ → Type 0
RefusesWithin bytes n = (length bytes ≤ 16777216) × ((script bytes ≡ Err n) ⊎ RefusesEdge bytes n)

-- the refused line of these bytes; 0 for a text that is too long
abbrev pub RefusesIn : List ℕ → ℕ → Type 0
RefusesIn bytes n = RefusesWithin bytes n ⊎ ((n ≡ 0) × (16777216 < length bytes))

-- the refused line, where the source tells its bytes
abbrev pub Refuses : Option (List ℕ) → ℕ → Type 0
Refuses left n = IfSome left (λ bytes. RefusesIn bytes n)

-- the text of a refusal, of bytes that were read to the end unless they are too long
abbrev pub RefusedText : Option (List ℕ) → Option (List ℕ) → List ℕ → Type 0
RefusedText left now_left out = (n : ℕ) × (out ≡ status_line (Line n)) × Refuses left n × (0 < n → IsAtEnd now_left)

-- what is to be written, by its status line
abbrev pub IsAnswer : List (List ℕ) → Option (List ℕ) → StatusLine → List ℕ → Type 0
IsAnswer words left Words out = RefusesWords words × (out ≡ status_line Words)
IsAnswer words left (Line n) out = TakesWords words × (out ≡ status_line (Line n)) × Refuses left n
IsAnswer words left ReadFault out = TakesWords words × (out ≡ status_line ReadFault)
IsAnswer words left (Run end) out = (TakesWords words × RunText (flags_of words) left end out) ⊎ ((end ≡ Served) × MadeText words out)

-- what is to be written for a script with these parts, whose services stand in these lines
abbrev pub AnswersScript : Opt → Parts → List ℕ → StatusLine → List ℕ → Type 0
AnswersScript opt parts numbers (Run end) out = RefusesNone parts.services × RanText opt parts end out
AnswersScript opt parts numbers (Line n) out = (out ≡ status_line (Line n)) × ((k : ℕ) × (RefusesAt parts.services k × (n ≡ slice_index numbers k)))
AnswersScript opt parts numbers Words out = ⊥
AnswersScript opt parts numbers ReadFault out = ⊥

-- the source was read to its end, where the words are those of a run
abbrev pub Ends : List (List ℕ) → StatusLine → Option (List ℕ) → Type 0
Ends words (Run end) left = made_size words ≡ None → IsAtEnd left
Ends words (Line n) left = 0 < n → IsAtEnd left
Ends words Words left = Unit {0}
Ends words ReadFault left = Unit {0}

-- the source's count rose where the line says a fault
abbrev pub Faults : StatusLine → ℕ → ℕ → Type 0
Faults ReadFault before now = Rose before now
Faults Words before now = Unit {0}
Faults (Line n) before now = Unit {0}
Faults (Run end) before now = Unit {0}

-- the sink took this text
abbrev pub Writes : Option (List ℕ) → Option (List ℕ) → (List ℕ → Type 0) → Type 0
Writes before now P = (out : List ℕ) × P out × Appends before now out

-- the words were taken, the source read to its end, and the sink took the text of a run that ended with this status
abbrev pub Ran : ℕ → List (List ℕ) → Option (List ℕ) → Option (List ℕ) → Option (List ℕ) → Option (List ℕ) → Type 0
Ran status words left now_left before now =
    (end : RunEnd) × (end_status end ≡ status) × TakesWords words × IsAtEnd now_left × Writes before now (λ out. RunText (flags_of words) left end out)

-- the words asked for the generator, and the sink took the text of the counts of its run
abbrev pub Made : List (List ℕ) → Option (List ℕ) → Option (List ℕ) → Type 0
Made words before now = Writes before now (MadeText words)

-- the sink took a front of an answer of a status line, where what was read and what failed are as that line says
abbrev pub WritesFrontOf : {Line : Type 0} → (Line → List ℕ → Type 0) → (Line → Type 0) → (Line → Type 0) → Option (List ℕ) → Option (List ℕ) → Type 0
WritesFrontOf {Line} Answer Read Failed before now =
    (line : Line) × (out : List ℕ) × Answer line out × Read line × Failed line × (n : ℕ) × (n ≤ length out) × Appends before now (take n out)

-- the sink took a front of an answer that had its cause: of a read fault only where the source's count rose, and of a run or a refused line only
-- where the source was read to its end
abbrev pub WritesFront : List (List ℕ) → Option (List ℕ) → Option (List ℕ) → ℕ → ℕ → Option (List ℕ) → Option (List ℕ) → Type 0
WritesFront words left now_left faults now_faults before now =
    WritesFrontOf (IsAnswer words left) (λ line. Ends words line now_left) (λ line. Faults line faults now_faults) before now

-- the run goes on, or has gone through its shutdown
abbrev pub EndsServed : StepEnd → Type 0
EndsServed ends.On = Unit {0}
EndsServed ends.Served = Unit {0}
EndsServed end = ⊥

-- the items are events alone; in whatever right record the first of the events were got, the run doesn't end otherwise than by its shutdown, and
-- while it goes on the next one fits; with all of them it has passed
pub record RunsThrough (p : Plan) (script_items : List Item) : Type 0 where
  pub events : List Event
  pub only_events : script_items ≡ map items.Event events
  pub each_fits : (q : Record) (e : Event) (more : List Event) → Right p q → has_ended p q ≡ false → events ≡ events_of q ++ e ∷ more → Fits p q e
  pub ends_served : (q : Record) (more : List Event) → Right p q → events ≡ events_of q ++ more → EndsServed (step_end p q)
  pub passes : (q : Record) → Right p q → events ≡ events_of q → waits_are_over p q ≡ true

-- the words are taken, the source tells bytes that are a script, a server can be run with its configuration, and its events run through
pub record IsWholeScript (words : List (List ℕ)) (bytes : List ℕ) (parts : Parts) : Type 0 where
  pub takes : AcceptsWords words
  pub is_script : IsScript bytes parts
  pub runs : judged (merged (flags_of words) parts.conf) ≡ Ok tt
  pub through : RunsThrough (plan_of (flags_of words) parts) parts.items
