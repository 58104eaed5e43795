-- Numbers in ascending order, and without doubles.
use Rattle.std.specs.Prelude.{ℕ, Bool, true, not, ◌&&◌, ◌==◌, nat_lt, if◌then◌else◌, List, [], ◌∷◌}
use Rattle.std.specs.List.{list_any}

-- the number stands in the list
abbrev pub is_in : ℕ → List ℕ → Bool
is_in number list = list_any (λ n. n == number) list

-- no number stands there twice
abbrev pub distinct : List ℕ → Bool
distinct [] = true
distinct (n ∷ more) = not (is_in n more) && distinct more

-- the list in ascending order with one more
abbrev pub put_number : ℕ → List ℕ → List ℕ
put_number n [] = n ∷ []
put_number n (m ∷ more) = if nat_lt n m then n ∷ m ∷ more else m ∷ put_number n more

-- the numbers in ascending order
abbrev pub ascending : List ℕ → List ℕ
ascending [] = []
ascending (n ∷ more) = put_number n (ascending more)
