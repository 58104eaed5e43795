-- The input of a chain: its blocks and its steps; or which line is the first that doesn't fit those before it.
use Rattle.std.specs.Prelude.{ℕ, zero, suc, ◌+◌, ◌==◌, min, Bool, false, ◌&&◌, ◌||◌, if◌then◌else◌, List, [], ◌∷◌, ◌++◌, length, map, codes, Option, Some, None, Result, Ok, Err}
use Rattle.std.specs.Str.{bytes_eq, is_utf8}
use Rattle.std.specs.Str.Lines.{lines}
use Rattle.svc_base.specs.Words.{words}
use Rattle.svc_text.specs.Script.{Parts, is_skipped, script_of}
use Rattle.svc_text.specs.Outcome.{parts_of}
use Rattle.svc_main.specs.TextLines.{is_daemon, part_with}
use Rattle.svc_generations.specs.declared.steps.Step.{Step}
use Rattle.svc_generations.specs.declared.input.Block.{Block}
use Rattle.svc_generations.specs.declared.input.Input.{Input}
use Rattle.svc_generations.specs.StepLines.{steps_from}

-- the line begins a block, or the steps
abbrev pub is_generation : List ℕ → Bool
is_generation line = bytes_eq line (codes "%generation")

abbrev pub is_steps : List ℕ → Bool
is_steps line = bytes_eq line (codes "%steps")

-- the line ends a block: it begins the next one, or the steps, or the events of a script
abbrev pub is_mark : List ℕ → Bool
is_mark line = is_generation line || (is_steps line || bytes_eq line (codes "%events"))

-- the lines of a block, which go up to the next mark
abbrev pub block_lines : List (List ℕ) → List (List ℕ)
block_lines [] = []
block_lines (line ∷ more) = if is_mark line then [] else line ∷ block_lines more

-- the lines from the next mark on
abbrev pub behind_block : List (List ℕ) → List (List ℕ)
behind_block [] = []
behind_block (line ∷ more) = if is_mark line then line ∷ more else behind_block more

-- the lines of a block as a script without events
abbrev pub script_lines : List (List ℕ) → List (List ℕ)
script_lines ls = ls ++ codes "%events" ∷ []

-- a line of the configuration makes the server a daemon
abbrev pub makes_daemon : ℕ → List ℕ → Bool
makes_daemon part line = (part == 1) && is_daemon line

-- the number of the first such line, from 1, behind so many beginnings of parts and so many lines
abbrev pub daemon_from : ℕ → ℕ → List (List ℕ) → Option ℕ
daemon_from part passed [] = None
daemon_from part passed (line ∷ more) = if makes_daemon part line then Some (passed + 1) else daemon_from (part_with part line) (passed + 1) more

-- what is read, with a line that is refused besides
abbrev pub refused_at : Option ℕ → Result Parts ℕ → Result Parts ℕ
refused_at None read = read
refused_at (Some n) (Ok parts) = Err n
refused_at (Some n) (Err k) = Err (min n k)

-- what the lines of a block say, or the first refused line: a daemon is refused
abbrev pub block_of : List (List ℕ) → Result Parts ℕ
block_of ls = refused_at (daemon_from 0 0 ls) (script_of (script_lines ls))

-- a block: how many lines stand before it, its lines as those of a script, and what they say
pub record BlockParts : Type 0 where
  pub before : ℕ
  pub own : List (List ℕ)
  pub parts : Parts

-- what an input says
pub record InputParts : Type 0 where
  pub blocks : List BlockParts
  pub steps : List Step

-- the steps alone, behind the last block
abbrev pub with_steps : Result (List Step) ℕ → Result InputParts ℕ
with_steps (Ok steps) = Ok (record { blocks = []; steps = steps })
with_steps (Err n) = Err n

-- these blocks before what follows, unless a line is refused
abbrev pub blocks_before : List BlockParts → Result InputParts ℕ → Result InputParts ℕ
blocks_before front (Ok more) = Ok (record { blocks = front ++ more.blocks; steps = more.steps })
blocks_before front (Err n) = Err n

-- a block of these lines, behind so many, before what follows
abbrev pub block_before : ℕ → List (List ℕ) → Result Parts ℕ → Result InputParts ℕ → Result InputParts ℕ
block_before before own (Err n) more = Err (before + n)
block_before before own (Ok parts) more = blocks_before (record { before = before; own = own; parts = parts } ∷ []) more

-- the first line is this one
abbrev pub begins_with : List ℕ → List (List ℕ) → Bool
begins_with mark [] = false
begins_with mark (line ∷ more) = bytes_eq line mark

-- behind the last block the steps have to follow
abbrev pub steps_behind : ℕ → List (List ℕ) → Result (List Step) ℕ
steps_behind passed [] = Err (passed + 1)
steps_behind passed (line ∷ more) = if is_steps line then steps_from (passed + 1) more else Err (passed + 1)

-- what lines say that begin with a block or behind the last one, where so many lines stand before them and so many blocks more may come
abbrev pub blocks_from : ℕ → ℕ → List (List ℕ) → Result InputParts ℕ
blocks_from zero passed ls = with_steps (steps_behind passed ls)
blocks_from (suc n) passed [] = Err (passed + 1)
blocks_from (suc n) passed (line ∷ more) =
    if is_generation line
    then block_before (passed + 1) (script_lines (block_lines more)) (block_of (block_lines more))
    (blocks_from n ((passed + 1) + length (block_lines more)) (behind_block more))
    else with_steps (steps_behind passed (line ∷ more))

-- there has to be a block
abbrev pub first_block : ℕ → List (List ℕ) → Result InputParts ℕ
first_block passed ls = if begins_with (codes "%generation") ls then blocks_from 64 passed ls else Err (passed + 1)

-- a blank line or a comment
abbrev pub is_front : List ℕ → Bool
is_front line = is_utf8 line && is_skipped (words line)

-- what lines say, where so many stand before them: blank lines and comments may stand in front
abbrev pub input_from : ℕ → List (List ℕ) → Result InputParts ℕ
input_from passed [] = Err (passed + 1)
input_from passed (line ∷ more) = if is_front line then input_from (passed + 1) more else first_block passed (line ∷ more)

-- what the lines of an input say, or the number of the first refused one, from 1
unfoldable pub input_of : List (List ℕ) → Result InputParts ℕ
input_of ls = input_from 0 ls

-- what a block says that was read
abbrev pub block_parts_of : Block → BlockParts
block_parts_of b = record { before = b.before; own = lines b.text.items; parts = parts_of b.script }

-- what an input says that was read
abbrev pub input_parts_of : Input → InputParts
input_parts_of i = record { blocks = map block_parts_of i.blocks; steps = i.steps.items }
