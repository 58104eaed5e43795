-- What reading a block answers.
use Rattle.std.specs.Prelude.{◌≡◌, ℕ, ◌+◌, Bool, false, min, List, [], ◌∷◌, length, Option, Some, None, Result, Err}
use Rattle.std.specs.Str.Lines.{lines}
use Rattle.svc_text.specs.Accepted.{AreAccepted}
use Rattle.svc_text.specs.Script.{Parts, AreLines}
use Rattle.svc_text.specs.declared.parsing.ScriptError.{ScriptError}
use Rattle.svc_text.specs.declared.parsing.ScriptError.TheVariants.{Line, NoMemory}
use Rattle.svc_generations.specs.declared.input.Block.{Block}
use Rattle.svc_generations.specs.Inputs.{is_front}

-- its services are accepted, and their lines are known; its server isn't a daemon
pub record IsBlock (b : Block) : Type 0 where
  pub accepted : AreAccepted b.script.services.items
  pub numbers : AreLines (lines b.text.items) (length b.script.services.items) b.script.lines.items
  pub undaemonized : b.script.conf.daemon ≡ false

-- the refusal is of this line behind so many, unless memory ran out
abbrev pub IsBehind : ℕ → ℕ → ScriptError → Type 0
IsBehind before n (Line number) = number ≡ before + n
IsBehind before n NoMemory = Unit {0}

-- the block was refused at this line of its own, behind so many, unless memory ran out
abbrev pub RefusesBlock : ℕ → Result Parts ℕ → ScriptError → Type 0
RefusesBlock before read (Line number) = (n : ℕ) × (read ≡ Err n) × (number ≡ before + n)
RefusesBlock before read NoMemory = Unit {0}

-- the first of two refused lines, of which the one may be none
abbrev pub first_line : Option ℕ → ℕ → ℕ
first_line None n = n
first_line (Some d) n = min d n

-- the first line is blank or a comment
abbrev pub begins_front : List (List ℕ) → Bool
begins_front [] = false
begins_front (line ∷ more) = is_front line
