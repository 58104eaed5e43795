-- The steps of a chain, as lines say them.
use Rattle.std.specs.Prelude.{◌≡◌, ℕ, ◌+◌, ◌^◌, if◌then◌else◌, List, [], ◌∷◌, ◌++◌, codes, Option, Some, None, Result, Ok, Err}
use Rattle.std.specs.Str.{bytes_eq, is_utf8}
use Rattle.svc_base.specs.Options.{◌>>=◌}
use Rattle.svc_base.specs.Words.{words, number_of}
use Rattle.svc_text.specs.EventLines.{event_of}
use Rattle.svc_text.specs.Script.{is_skipped}
use Rattle.svc_text.specs.declared.parsing.ScriptError.{ScriptError}
use Rattle.svc_text.specs.declared.parsing.ScriptError.TheVariants.{Line, NoMemory}
use Rattle.svc_generations.specs.declared.steps.Step.{Step}
use Rattle.svc_generations.specs.declared.steps.Step.TheVariants as steps

-- a launch, where nothing follows the word
abbrev pub launch_of : List (List ℕ) → Option Step
launch_of [] = Some steps.Launch
launch_of (word ∷ more) = None

-- the step that the words of a line say: a launch, or the number of a generation and an event
unfoldable pub step_of : List (List ℕ) → Option Step
step_of [] = None
step_of (word ∷ more) =
    if bytes_eq word (codes "launch") then launch_of more else number_of (2 ^ 64) word >>= λ g. event_of more >>= λ e. Some (steps.Event g e)

-- what a line that isn't skipped says, or its number where it says no step
abbrev pub step_or_line : ℕ → Option Step → Result (Option Step) ℕ
step_or_line number (Some step) = Ok (Some step)
step_or_line number None = Err number

-- the line with this number: its step, none for a blank line or a comment, or a refusal
unfoldable pub step_in : ℕ → List ℕ → Result (Option Step) ℕ
step_in number line = if is_utf8 line then (if is_skipped (words line) then Ok None else step_or_line number (step_of (words line))) else Err number

-- these steps before the others, unless a line is refused
abbrev pub steps_before : List Step → Result (List Step) ℕ → Result (List Step) ℕ
steps_before front (Ok more) = Ok (front ++ more)
steps_before front (Err n) = Err n

-- what a line says before the others, or its refusal
abbrev pub step_before : Result (Option Step) ℕ → Result (List Step) ℕ → Result (List Step) ℕ
step_before (Err n) more = Err n
step_before (Ok None) more = more
step_before (Ok (Some step)) more = steps_before (step ∷ []) more

-- the steps that lines say, before which so many stand, or the number of the first refused one
abbrev pub steps_from : ℕ → List (List ℕ) → Result (List Step) ℕ
steps_from before [] = Ok []
steps_from before (line ∷ more) = step_before (step_in (before + 1) line) (steps_from (before + 1) more)

-- a reader's answer is the definition's, unless memory ran out
abbrev pub Reads : {A B : Type 0} → (A → B) → Result A ScriptError → Result B ℕ → Type 0
Reads means (Ok x) read = read ≡ Ok (means x)
Reads means (Err (Line n)) read = read ≡ Err n
Reads means (Err NoMemory) read = Unit {0}
