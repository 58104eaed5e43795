-- How a text is cut into lines and words, and what a number is.
use Rattle.std.specs.Prelude.{ℕ, Bool, not, ◌||◌, ◌&&◌, ◌==◌, ◌≡◌, ◌⊎◌, nat_lt, if◌then◌else◌, List, [], ◌∷◌, ◌++◌, length, filter, Option, Some, None, slice_index}
use Rattle.std.specs.List.{slice_split}
use Rattle.std.specs.Str.{bytes_eq, IsUtf8}
use Rattle.std.specs.Str.Lines.{lines}
use Rattle.std.specs.Str.Parse.{digits_value}
use Rattle.std.specs.Fmt.{decimal}

-- the byte that ends a line
abbrev pub is_feed : ℕ → Bool
is_feed b = b == 10

-- a space or a tab
abbrev pub is_blank : ℕ → Bool
is_blank b = (b == 32) || (b == 9)

-- no blank
abbrev pub is_filled : ℕ → Bool
is_filled b = not (is_blank b)

-- a part that is not empty
abbrev pub is_word : List ℕ → Bool
is_word part = nat_lt 0 (length part)

-- the parts between blanks, without the empty ones
unfoldable pub words : List ℕ → List (List ℕ)
words line = filter is_word (slice_split is_blank line)

-- a sign, or a zero before further digits
abbrev pub has_spare_front : List ℕ → Bool
has_spare_front word = (slice_index word 0 == 43) || ((slice_index word 0 == 48) && nat_lt 1 (length word))

-- the number below the limit whose decimal text the bytes are
unfoldable pub number_of : ℕ → List ℕ → Option ℕ
number_of limit word = if nat_lt (digits_value 10 word) limit && bytes_eq (decimal (digits_value 10 word)) word then Some (digits_value 10 word) else None

-- the bytes end with a line feed
abbrev pub EndsLine : List ℕ → Type 0
EndsLine xs = (front : List ℕ) × (xs ≡ front ++ 10 ∷ [])

-- the text begins with this line, and what follows it is what follows the line's end
pub record IsCut (text line after : List ℕ) : Type 0 where
  pub chunk : List ℕ
  pub whole : text ≡ chunk ++ after
  pub one : lines chunk ≡ line ∷ []
  pub is_text : IsUtf8 line → IsUtf8 chunk
  pub ends : EndsLine chunk ⊎ (after ≡ [])
