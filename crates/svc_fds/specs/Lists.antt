-- Texts and descriptors as pairs.
use Rattle.std.specs.Prelude.{ℕ, Bool, true, false, ◌≡◌, ◌≢◌, ◌||◌, List, [], ◌∷◌, length}
use Rattle.std.specs.List.{list_any}
use Rattle.std.specs.Str.{bytes_eq}
use Rattle.svc_fds.specs.declared.errors.ListsError.{ListsError}
use Rattle.svc_fds.specs.declared.errors.ListsError.TheVariants.{Unequal, Repeated, NoMemory}
use Rattle.svc_fds.specs.declared.errors.DecodeError.{DecodeError}
use Rattle.svc_fds.specs.declared.errors.DecodeError.TheVariants as decodes

-- a text stands among the others once more
abbrev pub is_among : List ℕ → List (List ℕ) → Bool
is_among text texts = list_any (λ other. bytes_eq other text) texts

-- some text stands twice
abbrev pub has_repeat : List (List ℕ) → Bool
has_repeat [] = false
has_repeat (text ∷ texts) = is_among text texts || has_repeat texts

-- there are as many texts as descriptors, and no text stands twice
pub record ArePairs (texts : List (List ℕ)) (count : ℕ) : Type 0 where
  pub equal : length texts ≡ count
  pub distinct : has_repeat texts ≡ false

-- the error is right for these texts and so many descriptors
abbrev pub ListsRefusalFits : List (List ℕ) → ℕ → ListsError → Type 0
ListsRefusalFits texts count Unequal = length texts ≢ count
ListsRefusalFits texts count Repeated = (length texts ≡ count) × (has_repeat texts ≡ true)
ListsRefusalFits texts count NoMemory = Unit {0}

-- the same refusal of a message
abbrev pub decode_error : ListsError → DecodeError
decode_error Unequal = decodes.Unequal
decode_error Repeated = decodes.Repeated
decode_error NoMemory = decodes.NoMemory
