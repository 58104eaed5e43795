-- What a run of the echo server leaves, by its status.
use Rattle.std.specs.Prelude.{◌≡◌, ◌⊎◌, ◌↔◌, ℕ, ◌≤◌, Bool, true, List, [], length, take, Option, Some, None}
use Rattle.std.specs.Io.KnownBytes.{Appends}
use Rattle.svc_base.specs.Streams.{Rose}
use Rattle.svc_record.specs.declared.plan.Plan.{Plan}
use Rattle.svc_record.specs.declared.action.StepEnd.TheVariants.{Served}
use Rattle.svc_record.specs.Journal.{PostData}
use Rattle.svc_shared.specs.Journals.{end_after}
use Rattle.svc_desk.specs.Desks.{DeskData}
use Rattle.svc_desk.specs.Serving.{DeskEnd, IsServed}
use Rattle.svc_echo.specs.Words.{turns_of}
use Rattle.svc_echo.specs.EchoPlans.{plan_of}
use Rattle.svc_echo.specs.Endings.{ends_with_stop}
use Rattle.svc_echo.specs.Reports.{report_text, words_line}

-- the words were taken, and this holds of the plan and of the turns that they say
abbrev pub OfWords : List (List ℕ) → (Plan → ℕ → Type 0) → Type 0
OfWords words P = (turns : ℕ) × (turns_of words ≡ Some turns) × P (plan_of words) turns

-- both desks stand against the plan's journal; out says how many posts it has, and how the run ended: as served exactly where that is how the last
-- post left it, and that is where the last post stops the server
pub record Reports (plan : Plan) (turns : ℕ) (left right left' right' : DeskData) (journal : List PostData) (is_served : Bool) (out : List ℕ) : Type 0 where
  pub one : DeskEnd
  pub two : DeskEnd
  pub left_is : one.desk ≡ left'
  pub right_is : two.desk ≡ right'
  pub served : IsServed plan 1000000 turns left right one two journal
  pub ends : (is_served ≡ true) ↔ (end_after served.origin journal ≡ Served)
  pub stops : ends_with_stop journal ≡ is_served
  pub text : out ≡ report_text (length journal) is_served one.end two.end

-- the sink took such a report
pub record Wrote (plan : Plan) (turns : ℕ) (left right left' right' : DeskData) (journal : List PostData) (is_served : Bool)
    (before now : Option (List ℕ)) : Type 0 where
  pub out : List ℕ
  pub reports : Reports plan turns left right left' right' journal is_served out
  pub wrote : Appends before now out

-- the sink took a front of such a report
pub record WroteFront (plan : Plan) (turns : ℕ) (left right left' right' : DeskData) (journal : List PostData) (before now : Option (List ℕ)) : Type 0 where
  pub is_served : Bool
  pub out : List ℕ
  pub reports : Reports plan turns left right left' right' journal is_served out
  pub count : ℕ
  pub within : count ≤ length out
  pub wrote : Appends before now (take count out)

-- the words were refused: the desks were asked for nothing and there is no journal; a status line was written, or a front of it where the sink failed
pub record RefusedWords (words : List (List ℕ)) (left right left' right' : DeskData) (journal : List PostData) (faults faults' : ℕ)
    (before now : Option (List ℕ)) : Type 0 where
  pub refused : turns_of words ≡ None
  pub left_is : left' ≡ left
  pub right_is : right' ≡ right
  pub empty : journal ≡ []
  pub count : ℕ
  pub within : count ≤ length words_line
  pub wrote : Appends before now (take count words_line)
  pub whole : (count ≡ length words_line) ⊎ Rose faults faults'

-- the statuses of a run whose words were taken
abbrev pub IsRunStatus : ℕ → Type 0
IsRunStatus n = (n ≡ 0) ⊎ ((n ≡ 4) ⊎ ((n ≡ 6) ⊎ (n ≡ 7)))
