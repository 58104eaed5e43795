-- The parts of a file: a script without its events, and perhaps what its services do.
use Rattle.std.specs.Prelude.{◌≡◌, ℕ, ◌+◌, Bool, true, not, is_some, ◌==◌, ◌||◌, if◌then◌else◌, List, [], ◌∷◌, ◌++◌, length, slice_index, codes, MatchOption, Option, Some, None}
use Rattle.std.specs.List.{filter_map, position_from}
use Rattle.std.specs.Str.{bytes_eq}
use Rattle.std.specs.Str.Lines.{lines}
use Rattle.svc_base.specs.Words.{words}
use Rattle.svc_work.specs.Works.{line_of}
use Rattle.svc_work.specs.declared.works.WorkLine.{WorkLine}
use Rattle.svc_work.specs.declared.parts.WorksRefused.{WorksRefused}
use Rattle.svc_work.specs.declared.parts.WorksRefused.TheVariants as refusals

-- the header of the lines that say what services do
abbrev pub is_header : List ℕ → Bool
is_header line = bytes_eq line (codes "%work")

-- the number of the first header's line, from 1
abbrev pub header_at : List ℕ → Option ℕ
header_at bytes = position_from is_header 1 (lines bytes)

-- behind the script's bytes stand a header's line, which has this number, and the works
pub record HasHeader (bytes script works : List ℕ) (number : ℕ) : Type 0 where
  pub rest : List ℕ
  pub whole : bytes ≡ script ++ rest
  pub before : List (List ℕ)
  pub header : List ℕ
  pub cut : lines bytes ≡ before ++ lines rest
  pub begins : lines rest ≡ header ∷ lines works
  pub is_one : is_header header ≡ true
  pub counted : number ≡ length before + 1

-- the parts of a file: the first header's line has this number; where no line is a header, all is the script
abbrev pub AreParts : List ℕ → List ℕ → List ℕ → ℕ → Type 0
AreParts bytes script works number = MatchOption (header_at bytes) ((script ≡ bytes) × (works ≡ [])) (λ at. (number ≡ at) × HasHeader bytes script works number)

-- words of a blank line, or of a comment
unfoldable pub is_skipped : List (List ℕ) → Bool
is_skipped [] = true
is_skipped (word ∷ more) = slice_index word 0 == 35

-- what a line says, where the services have these names
abbrev pub said : List (List ℕ) → List ℕ → Option WorkLine
said names line = if is_skipped (words line) then None else line_of names (words line)

-- the line says nothing that a service does, and isn't one that is skipped
abbrev pub is_refused : List (List ℕ) → List ℕ → Bool
is_refused names line = not (is_skipped (words line) || is_some (line_of names (words line)))

-- what a line says is added, where it may stand
abbrev pub IsAdded : List (List ℕ) → List ℕ → List WorkLine → List WorkLine → Bool → Type 0
IsAdded names line before now may = (may ≡ not (is_refused names line)) × (may ≡ true → now ≡ before ++ filter_map (said names) (line ∷ []))

-- the lines, the first of which has this number, are all taken, and this is what they say
pub record AreSaid (names : List (List ℕ)) (first : ℕ) (ls : List (List ℕ)) (works : List WorkLine) : Type 0 where
  pub taken : position_from (is_refused names) first ls ≡ None
  pub said_are : works ≡ filter_map (said names) ls

-- this is the first that is refused
abbrev pub IsRefused : List (List ℕ) → ℕ → List (List ℕ) → WorksRefused → Type 0
IsRefused names first ls (refusals.Line n) = position_from (is_refused names) first ls ≡ Some n
IsRefused names first ls refusals.NoMemory = Unit {0}
