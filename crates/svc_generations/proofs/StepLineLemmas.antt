-- The steps that lines say, one line after the other.
use Rattle.std.proofs.Common.{◌≡◌, ℕ, ◌+◌, List, [], ◌∷◌, Option, None, Result, Ok, Err, refl, ap, sym, ◌∙◌, append-nil}
use Rattle.std.specs.Str.Lines.{lines}
use Rattle.svc_generations.specs.declared.steps.Step.{Step}
use Rattle.svc_text.specs.declared.parsing.ScriptError.{ScriptError}
use Rattle.svc_text.specs.declared.parsing.ScriptError.TheVariants.{Line, NoMemory}
use Rattle.svc_generations.specs.StepLines.{step_in, steps_before, step_before, steps_from, Reads}

pub steps_none : (more : Result (List Step) ℕ) → steps_before [] more ≡ more
steps_none (Ok more) = refl
steps_none (Err n) = refl

-- the next line says this
steps_next : (passed : ℕ) (rest line after : List ℕ) (said : Result (Option Step) ℕ) → lines rest ≡ line ∷ lines after → step_in (passed + 1) line ≡ said
    → steps_from passed (lines rest) ≡ step_before said (steps_from (passed + 1) (lines after))
steps_next passed rest line after said first is =
    ap (steps_from passed) first ∙ ap (λ (s : Result (Option Step) ℕ). step_before s (steps_from (passed + 1) (lines after))) is

pub step_skipped : (front : List Step) (whole : Result (List Step) ℕ) (passed : ℕ) (rest line after : List ℕ) → lines rest ≡ line ∷ lines after
    → step_in (passed + 1) line ≡ Ok None → steps_before front (steps_from passed (lines rest)) ≡ whole
    → steps_before front (steps_from (passed + 1) (lines after)) ≡ whole
step_skipped front whole passed rest line after first is h = ap (steps_before front) (sym (steps_next passed rest line after (Ok None) first is)) ∙ h

pub step_refused : (front : List Step) (whole : Result (List Step) ℕ) (n passed : ℕ) (rest line after : List ℕ) → lines rest ≡ line ∷ lines after
    → step_in (passed + 1) line ≡ Err n → steps_before front (steps_from passed (lines rest)) ≡ whole → whole ≡ Err n
step_refused front whole n passed rest line after first is h = sym h ∙ ap (steps_before front) (steps_next passed rest line after (Err n) first is)

pub steps_all : (front : List Step) (whole : Result (List Step) ℕ) (passed : ℕ) (rest : List ℕ) → lines rest ≡ []
    → steps_before front (steps_from passed (lines rest)) ≡ whole → whole ≡ Ok front
steps_all front whole passed rest none h =
    sym h ∙ ap (λ (ls : List (List ℕ)). steps_before front (steps_from passed ls)) none ∙ ap (λ (xs : List Step). Ok xs) (append-nil front)

-- the refusal of a line is that of the steps
pub refused_reads : (front : List Step) (whole : Result (List Step) ℕ) (passed : ℕ) (rest line after : List ℕ) (error : ScriptError)
    → lines rest ≡ line ∷ lines after → Reads {A = Option Step} (λ o. o) (Err error) (step_in (passed + 1) line)
    → steps_before front (steps_from passed (lines rest)) ≡ whole → Reads {A = List Step} (λ s. s) (Err error) whole
refused_reads front whole passed rest line after (Line n) first said h = step_refused front whole n passed rest line after first said h
refused_reads front whole passed rest line after NoMemory first said h = tt
