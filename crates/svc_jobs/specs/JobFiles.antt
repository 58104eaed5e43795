-- What a file of jobs says, which has neither a configuration nor items.
use Rattle.std.specs.Prelude.{◌≡◌, ◌⊎◌, ℕ, ◌-◌, List, ◌++◌, codes, Ok, Err}
use Rattle.svc_text.specs.declared.parsing.ScriptError.{ScriptError}
use Rattle.svc_text.specs.declared.parsing.ScriptError.TheVariants.{Line, NoMemory}
use Rattle.svc_text.specs.Dependencies.{RefusesNone}
use Rattle.svc_jobs.specs.JobPrograms.{RefusesEdge}
use Rattle.svc_jobs.specs.JobTexts.{JobParts, jobs_in}

-- the text of jobs that has these lines of jobs alone: two lines stand before them
abbrev pub text_of : List ℕ → List ℕ
text_of lines = (codes "%conf\n%jobs\n" ++ lines) ++ codes "\n%events\n"

-- the bytes say jobs with these periods, whose dependencies are known and close no cycle
pub record SaysPeriods (bytes periods : List ℕ) : Type 0 where
  pub parts : JobParts
  pub says : jobs_in bytes ≡ Ok parts
  pub periods_are : periods ≡ parts.periods
  pub edges : RefusesNone parts.script.services

-- the first line of the bytes that doesn't fit; else that of the first job whose dependencies are refused
abbrev pub RefusesLine : List ℕ → ℕ → Type 0
RefusesLine bytes n = (jobs_in bytes ≡ Err n) ⊎ RefusesEdge bytes n

-- unless memory ran out, it is such a line
abbrev pub RefusesText : List ℕ → ScriptError → Type 0
RefusesText bytes (Line n) = RefusesLine bytes n
RefusesText bytes NoMemory = Unit {0}

-- the line of a file, where the text of its lines has it
abbrev pub in_file : ScriptError → ScriptError
in_file (Line n) = Line (n - 2)
in_file NoMemory = NoMemory

-- the lines of the file are refused so
pub record RefusesFile (lines : List ℕ) (error : ScriptError) : Type 0 where
  pub in_text : ScriptError
  pub error_is : error ≡ in_file in_text
  pub refuses : RefusesText (text_of lines) in_text
