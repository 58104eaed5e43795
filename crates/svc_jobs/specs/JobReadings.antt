-- What reading a text of jobs answers.
use Rattle.std.specs.Prelude.{◌≡◌, ℕ, Result, Ok, Err}
use Rattle.svc_text.specs.declared.parsing.ScriptError.{ScriptError}
use Rattle.svc_text.specs.declared.parsing.ScriptError.TheVariants.{Line, NoMemory}
use Rattle.svc_text.specs.Outcome.{parts_of}
use Rattle.svc_jobs.specs.declared.reading.JobsText.{JobsText}
use Rattle.svc_jobs.specs.JobTexts.{JobParts}

-- what a text of jobs says
abbrev pub job_parts_of : JobsText → JobParts
job_parts_of t = record { script = parts_of t.script; periods = t.periods.items }

-- the answer is the definition's, unless memory ran out
abbrev pub GivesJobs : Result JobsText ScriptError → Result JobParts ℕ → Type 0
GivesJobs (Ok t) read = read ≡ Ok (job_parts_of t)
GivesJobs (Err (Line n)) read = read ≡ Err n
GivesJobs (Err NoMemory) read = Unit {0}
