-- What the echo server writes.
use Rattle.std.specs.Prelude.{◌≡◌, ℕ, ◌≤◌, Bool, true, false, List, [], ◌∷◌, ◌++◌, length, take, codes, Option}
use Rattle.std.specs.Fmt.{decimal}
use Rattle.std.specs.Io.KnownBytes.{Appends}
use Rattle.svc_record.specs.Journal.{PostData}
use Rattle.svc_desk.specs.declared.worker.WorkEnd.{WorkEnd}
use Rattle.svc_desk.specs.declared.worker.WorkEnd.TheVariants.{Over, Closed, Full, TurnsSpent, Fault, NoMemory}
use Rattle.svc_echo.specs.Endings.{ends_with_stop}

-- the name of a worker's end
abbrev pub end_name : WorkEnd → List ℕ
end_name Over = codes "Over"
end_name Closed = codes "Closed"
end_name Full = codes "Full"
end_name TurnsSpent = codes "TurnsSpent"
end_name Fault = codes "Fault"
end_name NoMemory = codes "NoMemory"

-- the status line: served, or how both workers ended
abbrev pub end_line : Bool → WorkEnd → WorkEnd → List ℕ
end_line true left right = codes "status served" ++ 10 ∷ []
end_line false left right = codes "status " ++ (end_name left ++ (codes " " ++ (end_name right ++ 10 ∷ [])))

-- how many posts there were, and the status line
abbrev pub report_text : ℕ → Bool → WorkEnd → WorkEnd → List ℕ
report_text posts served left right = (codes "posts " ++ (decimal posts ++ 10 ∷ [])) ++ end_line served left right

-- what is written where the words are refused
abbrev pub words_line : List ℕ
words_line = codes "status words" ++ 10 ∷ []

-- the sink took the report of this journal and these ends, which says whether the last post stops the server
pub record Says (journal : List PostData) (left right : WorkEnd) (is_served : Bool) (before now : Option (List ℕ)) : Type 0 where
  pub stops : ends_with_stop journal ≡ is_served
  pub wrote : Appends before now (report_text (length journal) is_served left right)

-- the sink took a front of it
pub record SaysFront (journal : List PostData) (left right : WorkEnd) (before now : Option (List ℕ)) : Type 0 where
  pub count : ℕ
  pub within : count ≤ length (report_text (length journal) (ends_with_stop journal) left right)
  pub wrote : Appends before now (take count (report_text (length journal) (ends_with_stop journal) left right))
