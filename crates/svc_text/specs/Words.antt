-- How a text is cut into lines and words, and what a number and a text are.
use Rattle.std.specs.Prelude.{ℕ, if◌then◌else◌, List, Option, Some, None}
use Rattle.std.specs.Str.{is_utf8}

-- the text that bytes are
unfoldable pub text_in : List ℕ → Option (List ℕ)
text_in word = if is_utf8 word then Some word else None
