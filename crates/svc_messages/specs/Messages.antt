-- What may be told to a person.
use Rattle.std.specs.Prelude.{ℕ, ◌≡◌, ◌<◌, ◌⊎◌, Bool, false, true, not, ◌&&◌, ◌||◌, ◌==◌, nat_le, List, [], ◌∷◌, ◌++◌, length, IsTrue, All, Any, codes}
use Rattle.std.specs.List.{list_all}
use denote.Ref.{Bor}
use Rattle.svc_messages.specs.Spelling.{IsOneOff}

-- the byte is no control character of ASCII
abbrev pub is_plain : ℕ → Bool
is_plain b = nat_le 32 b && not (b == 127)

-- the text is on one line, without control characters
pub record IsPlain (text : List ℕ) : Type 0 where
  pub bytes : IsTrue (list_all is_plain text)

-- each of the words is
abbrev pub ArePlain : List (Bor (List ℕ)) → Type 0
ArePlain known = IsTrue (list_all (λ name. list_all is_plain name.now) known)

-- the text is one line that says something
pub record IsMessage (text : List ℕ) : Type 0 where
  pub plain : IsPlain text
  pub says : 0 < length text

-- the text ends with the known word that is meant
abbrev pub EndsWithMeant : List ℕ → List (Bor (List ℕ)) → List ℕ → Type 0
EndsWithMeant word known text = (meant front : List ℕ) × IsOneOff word meant × Any (λ name. name.now ≡ meant) known
    × (text ≡ front ++ (codes "; did you mean " ++ (meant ++ codes "?")))

-- where a known word is one letter off, the text ends with it
abbrev pub Hints : List ℕ → List (Bor (List ℕ)) → List ℕ → Type 0
Hints word known text = All (λ name. IsOneOff word name.now → ⊥) known ⊎ EndsWithMeant word known text

-- the text begins with the word
abbrev pub begins : List ℕ → List ℕ → Bool
begins [] text = true
begins (x ∷ word) [] = false
begins (x ∷ word) (y ∷ text) = (x == y) && begins word text

-- the word stands in the text
abbrev pub stands : List ℕ → List ℕ → Bool
stands word [] = false
stands word (b ∷ text) = begins word (b ∷ text) || stands word text

-- the last of the words, or the one given where there is none
abbrev pub last_or : List ℕ → List (List ℕ) → List ℕ
last_or last [] = last
last_or last (x ∷ xs) = last_or x xs
