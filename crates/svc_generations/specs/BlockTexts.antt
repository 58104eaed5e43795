-- A block's lines, one after the other.
use Rattle.std.specs.Prelude.{ℕ, ◌+◌, Bool, true, if◌then◌else◌, List, [], ◌∷◌, Option, Some, None}
use Rattle.svc_generations.specs.Inputs.{is_mark, makes_daemon}

-- the number of the first line that makes the server a daemon, with one more line behind so many
abbrev pub daemon_with : Option ℕ → ℕ → ℕ → List ℕ → Option ℕ
daemon_with (Some n) part passed line = Some n
daemon_with None part passed line = if makes_daemon part line then Some (passed + 1) else None

-- the lines are those behind a block
abbrev pub ends_block : List (List ℕ) → Bool
ends_block [] = true
ends_block (line ∷ more) = is_mark line
