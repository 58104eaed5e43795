-- How many numbers pass a test, and how many dependencies of a node are still missing.
use Rattle.std.specs.Prelude.{ℕ, zero, suc, Bool, not, ◌≡◌, ◌+◌, ◌&&◌, List, [], ◌∷◌, ◌++◌, length, cond}
use Rattle.svc_graph.specs.Graphs.{row_of, is_in_row}

-- how many numbers below the limit pass the test
abbrev pub count_below : (ℕ → Bool) → ℕ → ℕ
count_below p zero = zero
count_below p (suc n) = cond (p n) 1 0 + count_below p n

-- the sum of what the numbers below the limit are given
abbrev pub total_below : (ℕ → ℕ) → ℕ → ℕ
total_below f zero = zero
total_below f (suc n) = f n + total_below f n

-- those numbers, in ascending order
abbrev pub those_below : (ℕ → Bool) → ℕ → List ℕ
those_below p zero = []
those_below p (suc n) = those_below p n ++ cond (p n) (n ∷ []) []

-- those of a row of bits
unfoldable pub those_of : (ℕ → Bool) → List ℕ
those_of p = those_below p 1024

-- how many nodes a depends on that aren't done
abbrev pub missing : List (List ℕ) → (ℕ → Bool) → ℕ → ℕ
missing rows done a = count_below (λ b. is_in_row rows a b && not (done b)) (length rows)

-- no row names a node twice
abbrev pub AreSized : List (List ℕ) → Type 0
AreSized rows = (a : ℕ) → length (row_of rows a) ≡ count_below (λ b. is_in_row rows a b) (length rows)
