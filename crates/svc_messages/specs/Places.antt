-- Where a line of a script stands.
use Rattle.std.specs.Prelude.{ℕ, ◌≡◌, ◌⊎◌, List, ◌∷◌, ◌++◌, All, codes, Option, Some, None}
use Rattle.svc_messages.specs.declared.places.Section.{Section}
use Rattle.svc_messages.specs.declared.places.Section.TheVariants.{Nothing, Configuration, Services, Events}

-- the line begins the part
abbrev pub Begins : Section → List ℕ → Type 0
Begins Nothing line = ⊥
Begins Configuration line = line ≡ codes "%conf"
Begins Services line = line ≡ codes "%services"
Begins Events line = line ≡ codes "%events"

-- the line begins no part
abbrev pub BeginsNone : List ℕ → Type 0
BeginsNone line = (section : Section) → Begins section line → ⊥

-- the part that follows
abbrev pub next_section : Section → Option Section
next_section Nothing = Some Configuration
next_section Configuration = Some Services
next_section Services = Some Events
next_section Events = None

-- the part in which a line behind these stands: that which the last header among them begins
abbrev pub BeginsLast : Section → List (List ℕ) → Type 0
BeginsLast section passed = (front back : List (List ℕ)) × (header : List ℕ) × (passed ≡ front ++ header ∷ back) × Begins section header × All BeginsNone back

abbrev pub StandsBehind : List (List ℕ) → Section → Type 0
StandsBehind passed section = ((section ≡ Nothing) × All BeginsNone passed) ⊎ BeginsLast section passed
