-- The status lines of a chain, and the statuses that go with them.
use Rattle.std.specs.Prelude.{ℕ, List, [], ◌∷◌, ◌++◌, codes, Option, Some, None}
use Rattle.std.specs.Fmt.{decimal}
use Rattle.svc_main.specs.Status as program
use Rattle.svc_generations.specs.declared.outcome.StepRefusal.{StepRefusal}
use Rattle.svc_generations.specs.declared.outcome.StepRefusal.TheVariants.{NoMore, NotReady, Unknown, Early, Stray}
use Rattle.svc_generations.specs.declared.outcome.ChainLine.{ChainLine}
use Rattle.svc_generations.specs.declared.outcome.ChainLine.TheVariants.{Unbegun, Chained, Step}

-- how a step's refusal is printed
abbrev pub refusal_text : StepRefusal → List ℕ
refusal_text NoMore = codes "nomore"
refusal_text NotReady = codes "notready"
refusal_text Unknown = codes "unknown"
refusal_text Early = codes "early"
refusal_text Stray = codes "stray"

-- how a status line is printed
abbrev pub status_text : ChainLine → List ℕ
status_text (Unbegun line) = program.status_text line
status_text Chained = codes "status chained"
status_text (Step k refusal) = codes "status step " ++ (decimal k ++ (codes " " ++ refusal_text refusal))

-- the status line with its line feed
abbrev pub status_line : ChainLine → List ℕ
status_line s = status_text s ++ (10 ∷ [])

-- the line, by how the steps ended: all were taken, or one of them, from one, is the first that wasn't
abbrev pub line_of : Option (ℕ × StepRefusal) → ChainLine
line_of None = Chained
line_of (Some refused) = Step refused.0 refused.1

-- the status that goes with the line
abbrev pub status_of : ChainLine → ℕ
status_of (Unbegun line) = program.status_of line
status_of Chained = 0
status_of (Step k refusal) = 4
