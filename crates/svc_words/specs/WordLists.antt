-- What stands for the words of a command line.
use Rattle.std.specs.Prelude.{ℕ, List, [], ◌∷◌}

-- where a word isn't UTF-8: one word, U+FFFD
abbrev pub not_text : List (List ℕ)
not_text = (239 ∷ 191 ∷ 189 ∷ []) ∷ []
