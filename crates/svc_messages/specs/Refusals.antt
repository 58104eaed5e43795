-- What a message on a line, or on a refused script, says.
use Rattle.std.specs.Prelude.{ℕ, ◌≡◌, ◌<◌, ◌≤◌, ◌⊎◌, List, ◌++◌, length, codes, Ok, Err}
use Rattle.std.specs.Fmt.{decimal}
use Rattle.std.specs.Str.Lines.{lines}
use Rattle.svc_text.specs.Script.{Parts, IsLineOf, script}
use Rattle.svc_text.specs.Dependencies.{RefusesAt, RefusesNone}

-- a message on line n
abbrev pub line_text : ℕ → List ℕ → List ℕ
line_text n cause = codes "line " ++ (decimal n ++ (codes ": " ++ cause))

-- the text is one
abbrev pub TellsOf : ℕ → List ℕ → Type 0
TellsOf n text = (cause : List ℕ) × (text ≡ line_text n cause)

-- the text is one on some line
abbrev pub TellsOfSome : List ℕ → Type 0
TellsOfSome text = (n : ℕ) × TellsOf n text

-- it is one on one of the lines
abbrev pub TellsOfLine : List (List ℕ) → List ℕ → Type 0
TellsOfLine ls text = (n : ℕ) × (0 < n) × (n ≤ length ls) × TellsOf n text

-- line n is that of the first service whose dependencies are refused
abbrev pub RefusesEdge : List ℕ → ℕ → Type 0
RefusesEdge bytes n = (parts : Parts) × (k : ℕ) × (script bytes ≡ Ok parts) × RefusesAt parts.services k × IsLineOf (lines bytes) k n

-- line n of the bytes is refused: it is the first that doesn't fit, or all fit, and its dependencies are the first that are refused
abbrev pub RefusesLine : List ℕ → ℕ → Type 0
RefusesLine bytes n = (script bytes ≡ Err n) ⊎ RefusesEdge bytes n

-- the text begins with the number of the refused line
abbrev pub NamesRefusal : List ℕ → List ℕ → Type 0
NamesRefusal bytes text = (n : ℕ) × (cause : List ℕ) × RefusesLine bytes n × (text ≡ line_text n cause)

-- the bytes are a script, and all its dependencies are taken
abbrev pub IsTaken : List ℕ → Type 0
IsTaken bytes = (parts : Parts) × (script bytes ≡ Ok parts) × RefusesNone parts.services

-- the exit status alone says why the program ended so: the daemon's child isn't ready, the words are refused, a fault of input or output, or no memory
abbrev pub AlwaysTold : ℕ → Type 0
AlwaysTold status = (status ≡ 1) ⊎ ((status ≡ 2) ⊎ ((5 ≤ status) × (status ≤ 7)))
