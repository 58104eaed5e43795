-- What reading a text of jobs answers.
use Rattle.std.proofs.Common.{◌≡◌, ℕ, List, Ok, Err, sym, ap, ◌∙◌}
use Rattle.std.specs.Str.Lines.{lines}
use Rattle.svc_text.specs.declared.parsing.ScriptError.{ScriptError}
use Rattle.svc_text.specs.declared.parsing.ScriptError.TheVariants.{Line, NoMemory}
use Rattle.svc_text.specs.Outcome.{Gives}
use Rattle.svc_text.specs.Script.{Parts, script, script_of}
use Rattle.svc_jobs.specs.JobReadings.{GivesJobs}
use Rattle.svc_jobs.specs.JobTexts.{script_lines, periods_from, with_periods, jobs_in}

script_read : (text bytes : List ℕ) → lines text ≡ script_lines bytes → script text ≡ script_of (script_lines bytes)
unfolding script
script_read text bytes e = ap script_of e

-- where the lines are a script
pub reads_jobs : (text bytes periods : List ℕ) (parts : Parts) → lines text ≡ script_lines bytes → periods ≡ periods_from 0 (lines bytes)
    → script text ≡ Ok parts → jobs_in bytes ≡ Ok (record { script = parts; periods = periods })
unfolding jobs_in
reads_jobs text bytes periods parts e p says =
    ap (with_periods (periods_from 0 (lines bytes))) (sym (script_read text bytes e) ∙ says)
    ∙ ap (λ (ns : List ℕ). Ok (record { script = parts; periods = ns })) (sym p)

-- where one is refused
refuses_jobs : (text bytes : List ℕ) (n : ℕ) → lines text ≡ script_lines bytes → script text ≡ Err n → jobs_in bytes ≡ Err n
unfolding jobs_in
refuses_jobs text bytes n e says = ap (with_periods (periods_from 0 (lines bytes))) (sym (script_read text bytes e) ∙ says)

pub reads_script : (text bytes : List ℕ) (parts : Parts) → lines text ≡ script_lines bytes → script text ≡ Ok parts → script_of (script_lines bytes) ≡ Ok parts
reads_script text bytes parts e says = sym (script_read text bytes e) ∙ says

-- the refusal of the script is that of the jobs
pub refused_reads : (text bytes : List ℕ) (error : ScriptError) → lines text ≡ script_lines bytes → Gives (Err error) (script text)
    → GivesJobs (Err error) (jobs_in bytes)
refused_reads text bytes (Line n) e says = refuses_jobs text bytes n e says
refused_reads text bytes NoMemory e says = tt
