-- Numbers joined by commas.
use Rattle.std.specs.Prelude.{ℕ, ◌^◌, ◌==◌, List, [], ◌∷◌, map, Option, Some}
use Rattle.std.specs.List.{slice_split}
use Rattle.svc_base.specs.Options.{◌>>=◌}
use Rattle.svc_base.specs.Words.{number_of}

-- all of them, where each is there
abbrev pub all_some : {A : Type 0} → List (Option A) → Option (List A)
all_some [] = Some []
all_some (o ∷ os) = o >>= λ x. all_some os >>= λ xs. Some (x ∷ xs)

-- numbers joined by commas
unfoldable pub joined_of : List ℕ → Option (List ℕ)
joined_of word = all_some (map (number_of (2 ^ 64)) (slice_split (λ b. b == 44) word))
