-- Segments of the numbers of a family.
use Rattle.std.specs.Prelude.{◌≡◌, ℕ, ◌+◌, ◌^◌, ◌<◌, ◌≤◌, Bool, ◌==◌, nat_le, if◌then◌else◌, List, [], ◌∷◌, Option, Some, None}
use Rattle.std.specs.Option.{option_or}
use Rattle.svc_gate.specs.declared.rules.GateRule.{GateRule}
use Rattle.svc_gate.specs.declared.segments.Segment.{Segment}
use Rattle.svc_gate.specs.Rules.{first_allow}

-- what the last segment says that has begun at the number; else the first word
abbrev pub found_from : Option Bool → List Segment → ℕ → Option Bool
found_from allow [] x = allow
found_from allow (segment ∷ segments) x = if nat_le segment.from x then found_from segment.allow segments x else allow

-- the same, where nothing is said before the first segment
abbrev pub found_in : List Segment → ℕ → Option Bool
found_in segments x = found_from None segments x

-- the segments say of each number what the first rule says that holds it
abbrev pub FindsFirst : Bool → List GateRule → List Segment → Type 0
FindsFirst v6 rules segments = (x : ℕ) → x < 2 ^ 128 → found_in segments x ≡ first_allow v6 x rules

-- they say what the upper ones say, and where those say nothing, what the lower ones do
abbrev pub FindsEither : List Segment → List Segment → List Segment → Type 0
FindsEither upper lower segments = (x : ℕ) → found_in segments x ≡ option_or (found_in upper x) (found_in lower x)

-- each segment begins behind the beginning of the one before it, from the first number on, below the last
abbrev pub Ascends : ℕ → List Segment → ℕ → Type 0
Ascends low [] high = low ≤ high
Ascends low (segment ∷ segments) high = (low ≤ segment.from) × Ascends (segment.from + 1) segments high

-- where the next segment of either list begins
abbrev pub next_begin : List Segment → List Segment → Option ℕ
next_begin [] [] = None
next_begin (a ∷ more) [] = Some a.from
next_begin [] (b ∷ rest) = Some b.from
next_begin (a ∷ more) (b ∷ rest) = if nat_le a.from b.from then Some a.from else Some b.from

-- what is said at a number before which no later segment begins
abbrev pub word_at : Option Bool → List Segment → ℕ → Option Bool
word_at allow [] number = allow
word_at allow (segment ∷ segments) number = if segment.from == number then segment.allow else allow

-- the segments behind it
abbrev pub rest_at : List Segment → ℕ → List Segment
rest_at [] number = []
rest_at (segment ∷ segments) number = if segment.from == number then segments else segment ∷ segments
