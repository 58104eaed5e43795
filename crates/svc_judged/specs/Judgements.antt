-- What is said of a record, and with which status the program ends.
use Rattle.std.specs.Prelude.{ℕ, Bool, true, false, ◌≡◌, ◌⊎◌, ◌<◌, List, length, reverse, Option, Some, None}
use Rattle.std.specs.Str.Lines.{lines}
use Rattle.svc_record.specs.declared.plan.Plan.{Plan}
use Rattle.svc_record.specs.Record.{Record}
use Rattle.svc_record.specs.Right.{is_served}
use Rattle.svc_judging.specs.Readings.{AreRecord, RefusesLine}
use Rattle.svc_judging.specs.declared.status_lines.RecordEnd.{RecordEnd}
use Rattle.svc_judging.specs.declared.status_lines.RecordEnd.TheVariants as ends
use Rattle.svc_judge.specs.declared.judging.Breach.{Breach}
use Rattle.svc_judge.specs.Verdicts.{breach_of}
use Rattle.svc_judge.specs.Tails.{closed_breach, stray_breach}
use Rattle.svc_judged.specs.declared.judgement.Judgement.{Judgement}
use Rattle.svc_judged.specs.declared.judgement.Judgement.TheVariants.{Served, Right, Wrong}
use Rattle.svc_judged.specs.declared.ending.Ending.{Ending}
use Rattle.svc_judged.specs.declared.ending.Ending.TheVariants.{Judged, NotRight, Words, Line, ScriptLine, Config, ReadFault, WriteFault, NoMemory}

-- what is said of a record by its first breach, and by whether its run served
abbrev pub said_of : Option Breach → Bool → Judgement
said_of (Some breach) served = Wrong breach
said_of None true = Served
said_of None false = Right

-- what is said of a record behind whose last step nothing stands
abbrev pub judgement_of : Plan → Record → Judgement
judgement_of p r = said_of (breach_of p r) (is_served p r)

-- the run goes on, or went through its shutdown: nothing stands behind its last step
abbrev pub is_whole : RecordEnd → Bool
is_whole ends.Open = true
is_whole ends.Served = true
is_whole ends.Closed = false
is_whole ends.Stray = false

-- what is said of a record, by how it says that its run ended
abbrev pub judgement_by : RecordEnd → Plan → Record → Judgement
judgement_by ends.Open p r = judgement_of p r
judgement_by ends.Served p r = judgement_of p r
judgement_by ends.Closed p r = said_of (closed_breach p r) false
judgement_by ends.Stray p r = said_of (stray_breach p r) false

-- the end of a program that said this of a record
abbrev pub ending_of : Judgement → Ending
ending_of Served = Judged
ending_of Right = Judged
ending_of (Wrong breach) = NotRight

-- the bytes are the text of a record of which this is said
abbrev pub IsSaid : Plan → List ℕ → Judgement → Type 0
IsSaid p bytes said = (r : Record) × ((end : RecordEnd) × (AreRecord (lines bytes) (reverse r) end × (judgement_by end p r ≡ said)))

-- the bytes are the text of a record that is judged so
abbrev pub IsJudged : Plan → List ℕ → Ending → Type 0
IsJudged p bytes ending = (said : Judgement) × (IsSaid p bytes said × (ending_of said ≡ ending))

-- the n-th line of the bytes is the first that is no entry's, and no status line that is the last one; at 0 there are too many bytes
abbrev pub RefusesText : List ℕ → ℕ → Type 0
RefusesText bytes n = ((n ≡ 0) × (16777216 < length bytes)) ⊎ RefusesLine (lines bytes) n

-- the bytes are refused so: by a line, or not for what they say
abbrev pub IsRefusal : List ℕ → Ending → Type 0
IsRefusal bytes Judged = ⊥
IsRefusal bytes NotRight = ⊥
IsRefusal bytes (Line n) = RefusesText bytes n
IsRefusal bytes _ = Unit {0}

-- why a program ends so that judged these bytes by the plan: it said what the record's judgement says, or the line is refused
abbrev pub HasCause : Plan → List ℕ → Ending → Type 0
HasCause p bytes Judged = IsJudged p bytes Judged
HasCause p bytes NotRight = IsJudged p bytes NotRight
HasCause p bytes (Line n) = RefusesText bytes n
HasCause p bytes _ = Unit {0}

-- the program's exit status at this end
abbrev pub status_of : Ending → ℕ
status_of Judged = 0
status_of Words = 2
status_of (Line n) = 3
status_of (ScriptLine n) = 3
status_of NotRight = 4
status_of (Config key) = 4
status_of ReadFault = 5
status_of WriteFault = 6
status_of NoMemory = 7
