-- What the program of jobs answers, and why.
use Rattle.std.specs.Prelude.{◌≡◌, ◌≢◌, ◌⊎◌, ℕ, ◌+◌, ◌<◌, ◌≤◌, true, false, List, [], ◌∷◌, ◌++◌, length, map, codes, slice_index, Option, Ok, Err, IfSome}
use Rattle.std.specs.List.{flat_map}
use Rattle.std.specs.Fmt.{decimal}
use Rattle.std.specs.Io.KnownBytes.{IsAtEnd}
use Rattle.svc_conf.specs.Configuration.{judged}
use Rattle.svc_record.specs.declared.event.Event.{Event}
use Rattle.svc_record.specs.declared.item.Item.{Item}
use Rattle.svc_record.specs.declared.item.Item.TheVariants as items
use Rattle.svc_record.specs.declared.plan.Plan.{Plan}
use Rattle.svc_record.specs.Record.{Record, EachEntry}
use Rattle.svc_record.specs.Drain.{waits_are_over}
use Rattle.svc_record.specs.Ends.{has_ended}
use Rattle.svc_record.specs.Fits.{Fits}
use Rattle.svc_record.specs.Right.{Right}
use Rattle.svc_text.specs.Dependencies.{RefusesAt, RefusesNone}
use Rattle.svc_text.specs.Script.{IsLineOf}
use Rattle.svc_server.specs.Runs.{RunEnds}
use Rattle.svc_job_host.specs.declared.plan.JobRun.{JobRun}
use Rattle.svc_job_host.specs.Dues.{due_runs}
use Rattle.svc_job_host.specs.Readies.{readies_since, readies_right, are_told, items_of}
use Rattle.svc_job_host.specs.JobRuns.{start_after_runs}
use Rattle.svc_main.specs.declared.outcome.RunEnd.{RunEnd}
use Rattle.svc_main.specs.declared.outcome.RunEnd.TheVariants.{HostFault, Stray, OutOfEvents}
use Rattle.svc_main.specs.declared.outcome.StatusLine.{StatusLine}
use Rattle.svc_main.specs.declared.outcome.StatusLine.TheVariants.{Words, Line, ReadFault, Run}
use Rattle.svc_main.specs.Status.{status_line, end_status}
use Rattle.svc_main.specs.Program.{answer_of, Judges, Faults, Writes, WritesFrontOf}
use Rattle.svc_jobs.specs.JobEnds.{MayEnd}
use Rattle.svc_jobs.specs.JobServices.{plan_of_jobs}
use Rattle.svc_jobs.specs.JobTexts.{JobParts, script_lines, jobs_in}

-- how a run is printed
abbrev pub run_line : JobRun → List ℕ
run_line run = codes "run " ++ (decimal run.job ++ (codes " " ++ (decimal run.due ++ (codes " " ++ (decimal run.moment ++ 10 ∷ [])))))

-- runs, a line each
abbrev pub runs_text : List JobRun → List ℕ
runs_text runs = flat_map run_line runs

-- how many turns a run of jobs has: one more than there are items and jobs
abbrev pub turns_of : JobParts → ℕ
turns_of parts = (length parts.script.items + length parts.periods) + 1

-- what is left of the items where a run ends so: a fault comes next where the host failed, and nothing where the items were used up
abbrev pub Leaves : RunEnd → List Item → Type 0
Leaves HostFault left = (more : List Item) × (left ≡ items.Fault ∷ more)
Leaves OutOfEvents left = left ≡ []
Leaves end left = Unit {0}

-- an event that doesn't fit is an item, and no job's word
abbrev pub LastIsItem : RunEnd → Record → Type 0
LastIsItem (Stray k) r = readies_since r ≡ []
LastIsItem end r = Unit {0}

-- the run of the server of these jobs, over their items, leaves this record and ends so: its items are the first of them; each job whose first run
-- was at an item says that it is ready before the next, and starts after the first run of each that it depends on
pub record IsJobRun (parts : JobParts) (end : RunEnd) (r : Record) : Type 0 where
  pub may : MayEnd (answer_of end)
  pub judged : Judges end parts.script.conf
  pub ends : RunEnds (plan_of_jobs parts.script) (turns_of parts) (answer_of end) r
  pub in_turn : readies_right parts.periods r ≡ true
  pub told : are_told parts.periods r ≡ true
  pub order : EachEntry (λ e before. start_after_runs (plan_of_jobs parts.script) parts.periods e before ≡ true) r
  pub last : LastIsItem end r
  pub left : List Item
  pub given : parts.script.items ≡ map items.Event (items_of r) ++ left
  pub leaves : Leaves end left

-- the runs that are due by the record of such a run are what is printed, with the status line
pub record PrintsRuns (parts : JobParts) (end : RunEnd) (out : List ℕ) (r : Record) : Type 0 where
  pub printed : out ≡ runs_text (due_runs parts.periods r) ++ status_line (Run end)
  pub run : IsJobRun parts end r

-- a text that prints the runs of these jobs
abbrev pub RanJobs : JobParts → RunEnd → List ℕ → Type 0
RanJobs parts end out = (r : Record) × PrintsRuns parts end out r

-- the bytes, within the limit, say these jobs, whose dependencies are known and without a cycle
pub record IsJobText (bytes : List ℕ) (parts : JobParts) : Type 0 where
  pub short : length bytes ≤ 16777216
  pub says : jobs_in bytes ≡ Ok parts
  pub edges : RefusesNone parts.script.services

-- a text that prints the runs of some jobs, which are those that were read where the source tells its bytes
abbrev pub RanText : Option (List ℕ) → RunEnd → List ℕ → Type 0
RanText left end out = (parts : JobParts) × (RanJobs parts end out × IfSome left (λ bytes. IsJobText bytes parts))

-- the line of the first job whose dependencies are refused
abbrev pub RefusesEdge : List ℕ → ℕ → Type 0
RefusesEdge bytes n = (parts : JobParts) × ((jobs_in bytes ≡ Ok parts) × ((k : ℕ) × (RefusesAt parts.script.services k × IsLineOf (script_lines bytes) k n)))

-- the refused line of bytes within the limit: the first that doesn't fit; else that of the first job whose dependencies are refused
abbrev pub RefusesWithin : List ℕ → ℕ → Type 0
RefusesWithin bytes n = (length bytes ≤ 16777216) × ((jobs_in bytes ≡ Err n) ⊎ RefusesEdge bytes n)

-- the refused line of these bytes; 0 for a text that is too long
abbrev pub RefusesIn : List ℕ → ℕ → Type 0
RefusesIn bytes n = RefusesWithin bytes n ⊎ ((n ≡ 0) × (16777216 < length bytes))

-- the refused line, where the source tells its bytes
abbrev pub Refuses : Option (List ℕ) → ℕ → Type 0
Refuses left n = IfSome left (λ bytes. RefusesIn bytes n)

-- the text of a refusal, of bytes that were read to the end unless they are too long
abbrev pub RefusedText : Option (List ℕ) → Option (List ℕ) → List ℕ → Type 0
RefusedText left now_left out = (n : ℕ) × (out ≡ status_line (Line n)) × Refuses left n × (0 < n → IsAtEnd now_left)

-- what is to be written, by its status line
abbrev pub IsAnswer : List (List ℕ) → Option (List ℕ) → StatusLine → List ℕ → Type 0
IsAnswer words left Words out = (words ≢ []) × (out ≡ status_line Words)
IsAnswer words left (Line n) out = (words ≡ []) × (out ≡ status_line (Line n)) × Refuses left n
IsAnswer words left ReadFault out = (words ≡ []) × (out ≡ status_line ReadFault)
IsAnswer words left (Run end) out = (words ≡ []) × RanText left end out

-- what is to be written for jobs of these parts, whose services stand in these lines
abbrev pub AnswersJobs : JobParts → List ℕ → StatusLine → List ℕ → Type 0
AnswersJobs parts numbers (Run end) out = RefusesNone parts.script.services × RanJobs parts end out
AnswersJobs parts numbers (Line n) out = (out ≡ status_line (Line n)) × ((k : ℕ) × (RefusesAt parts.script.services k × (n ≡ slice_index numbers k)))
AnswersJobs parts numbers Words out = ⊥
AnswersJobs parts numbers ReadFault out = ⊥

-- the source was read to its end
abbrev pub Ends : StatusLine → Option (List ℕ) → Type 0
Ends (Run end) left = IsAtEnd left
Ends (Line n) left = 0 < n → IsAtEnd left
Ends Words left = Unit {0}
Ends ReadFault left = Unit {0}

-- there are no words, the source was read to its end, and the sink took the text of a run that ended with this status
abbrev pub Ran : ℕ → List (List ℕ) → Option (List ℕ) → Option (List ℕ) → Option (List ℕ) → Option (List ℕ) → Type 0
Ran status words left now_left before now = (end : RunEnd) × (end_status end ≡ status) × (words ≡ []) × IsAtEnd now_left × Writes before now (RanText left end)

-- the sink took a front of an answer that had its cause: of a read fault only where the source's count rose, and of a run or a refused line only
-- where the source was read to its end
abbrev pub WritesFront : List (List ℕ) → Option (List ℕ) → Option (List ℕ) → ℕ → ℕ → Option (List ℕ) → Option (List ℕ) → Type 0
WritesFront words left now_left faults now_faults before now =
    WritesFrontOf (IsAnswer words left) (λ line. Ends line now_left) (λ line. Faults line faults now_faults) before now

-- in whatever right record the first of the items came, with the jobs' words: while the run goes on the next item is an event that fits; and with all
-- of them it has passed
pub record RunsThrough (p : Plan) (all : List Item) : Type 0 where
  pub fits : (q : Record) (e : Event) (more : List Item) → Right p q → has_ended p q ≡ false → all ≡ map items.Event (items_of q) ++ items.Event e ∷ more
      → Fits p q e
  pub faultless : (q : Record) (more : List Item) → Right p q → has_ended p q ≡ false → all ≡ map items.Event (items_of q) ++ items.Fault ∷ more → ⊥
  pub passes : (q : Record) → Right p q → all ≡ map items.Event (items_of q) → waits_are_over p q ≡ true

-- there are no words, the source tells bytes that say jobs, a server can be run with their configuration, and their items run through
pub record IsWholeText (words : List (List ℕ)) (bytes : List ℕ) (parts : JobParts) : Type 0 where
  pub none : words ≡ []
  pub is_text : IsJobText bytes parts
  pub runs : judged parts.script.conf ≡ Ok tt
  pub through : RunsThrough (plan_of_jobs parts.script) parts.script.items
