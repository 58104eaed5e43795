-- What is answered to a text of jobs, and what a status says of the answer.
use Rattle.std.proofs.Common.{◌≡◌, inl, inr, ℕ, List, [], length, ◌≤◌, Option, Some, None, Result, Ok, Err, IfOk, IfSome, refl, sym, ap, subst, ◌∙◌, ◌++◌, string_bytes}
use Rattle.std.specs.Io.KnownBytes.{Appends}
use Rattle.svc_record.specs.Record.{Record}
use Rattle.svc_text.specs.Dependencies.{RefusesNone}
use Rattle.svc_text.specs.Script.{IsLineOf, AreLines}
use Rattle.svc_job_host.specs.declared.plan.JobRun.{JobRun}
use Rattle.svc_job_host.specs.Dues.{due_runs}
use Rattle.svc_main.specs.declared.outcome.RunEnd.{RunEnd}
use Rattle.svc_main.specs.declared.outcome.StatusLine.{StatusLine}
use Rattle.svc_main.specs.declared.outcome.StatusLine.TheVariants.{Words, Line, ReadFault, Run}
use Rattle.svc_main.specs.Status.{status_line, status_of}
use Rattle.svc_jobs.specs.declared.answering.Answer.{Answer}
use Rattle.svc_jobs.specs.JobTexts.{JobParts, script_lines, jobs_in}
use Rattle.svc_jobs.specs.JobPrograms.{runs_text, IsJobRun, IsJobText, RefusesIn, AnswersJobs, IsAnswer, Ends, Ran}

-- what is so of the bytes that were read is so of those that the source tells
known : (left : Option (List ℕ)) (read : List ℕ) (P : List ℕ → Type 0) → IfSome left (λ bytes. read ≡ bytes) → P read → IfSome left P
known None read P e h = tt
known (Some bytes) read P e h = subst P e h

-- the answer to jobs is the program's answer
pub jobs_answer : (words : List (List ℕ)) (left : Option (List ℕ)) (read numbers : List ℕ) (parts : JobParts) (line : StatusLine) (out : List ℕ) → words ≡ []
    → IfSome left (λ bytes. read ≡ bytes) → length read ≤ 16777216 → jobs_in read ≡ Ok parts
    → AreLines (script_lines read) (length parts.script.services) numbers → AnswersJobs parts numbers line out → IsAnswer words left line out
jobs_answer words left read numbers parts (Run end) out none same short says places (edges, ran) =
    (none, (parts, (ran, known left read (λ bytes. IsJobText bytes parts) same (record { short = short; says = says; edges = edges }))))
jobs_answer words left read numbers parts (Line n) out none same short says places (printed, refusal) =
    let k : ℕ = refusal.0 in
    let place : IsLineOf (script_lines read) k n = subst (IsLineOf (script_lines read) k) (sym refusal.1.1) (places.each k refusal.1.0.here) in
    (none, printed, known left read (λ bytes. RefusesIn bytes n) same (inl (short, inr (parts, (says, (k, (refusal.1.0, place)))))))
jobs_answer words left read numbers parts Words out none same short says places h = absurd h
jobs_answer words left read numbers parts ReadFault out none same short says places h = absurd h

-- where the status isn't that of another line, it is that of a run
pub ran_from : (status : ℕ) → (status ≡ 2 → ⊥) → (status ≡ 3 → ⊥) → (status ≡ 5 → ⊥)
    → (words : List (List ℕ)) (left now_left before now : Option (List ℕ)) (line : StatusLine) (out : List ℕ)
    → IsAnswer words left line out → Ends line now_left → Appends before now out → status_of line ≡ status → Ran status words left now_left before now
ran_from status two three five words left now_left before now Words out a d p e = absurd (two (sym e))
ran_from status two three five words left now_left before now (Line n) out a d p e = absurd (three (sym e))
ran_from status two three five words left now_left before now ReadFault out a d p e = absurd (five (sym e))
ran_from status two three five words left now_left before now (Run end) out a d p e = (end, e, a.0, d, (out, a.1, p))

-- words are refused as such
pub refused_words : (words : List (List ℕ)) (left : Option (List ℕ)) (line : StatusLine) (out : List ℕ) → (words ≡ [] → ⊥) → IsAnswer words left line out
    → status_of line ≡ 2
refused_words words left Words out refused a = refl
refused_words words left (Line n) out refused a = absurd (refused a.0)
refused_words words left ReadFault out refused a = absurd (refused a.0)
refused_words words left (Run end) out refused a = absurd (refused a.0)

-- the runs of jobs whose dependencies are sound answer them
pub ran_jobs : {E : Type 0} (parts : JobParts) (numbers : List ℕ) (end : RunEnd) (runs : List JobRun) (r : Record) (result : Result Answer E)
    → IfOk result (λ (a : Answer). (a.line ≡ Run end) × (string_bytes a.text ≡ runs_text runs ++ status_line (Run end))) → runs ≡ due_runs parts.periods r
    → IsJobRun parts end r → RefusesNone parts.script.services
    → IfOk result (λ (a : Answer). AnswersJobs parts numbers a.line (string_bytes a.text))
ran_jobs parts numbers end runs r (Ok a) said due run edges =
    subst (λ (l : StatusLine). AnswersJobs parts numbers l (string_bytes a.text)) (sym said.0)
    (edges, (r, record { printed = said.1 ∙ ap (λ (rs : List JobRun). runs_text rs ++ status_line (Run end)) due; run = run }))
ran_jobs parts numbers end runs r (Err e) said due run edges = tt
