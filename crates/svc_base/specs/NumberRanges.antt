-- Numbers, kept as ranges.
use Rattle.std.specs.Prelude.{ℕ, zero, suc, Bool, true, false, ◌≡◌, ◌&&◌, ◌==◌, ◌+◌, ◌-◌, ◌^◌, nat_lt, nat_le, if◌then◌else◌, List, [], ◌∷◌, ◌++◌}
use Rattle.std.specs.List.{flat_map, list_all, list_any}
use Rattle.svc_base.specs.declared.number_ranges.NumberRange.{NumberRange}

-- where a range begins
abbrev pub first_of : NumberRange → ℕ
first_of r = r.first

-- the range of these numbers
abbrev pub range : ℕ → ℕ → NumberRange
range n m = record { first = n; last = m }

-- so many numbers, each the one after the one before it, from n on
abbrev pub count_up : ℕ → ℕ → List ℕ
count_up n zero = []
count_up n (suc k) = n ∷ count_up (n + 1) k

-- the numbers of a range
abbrev pub span : NumberRange → List ℕ
span r = count_up r.first (r.last + 1 - r.first)

-- the numbers of all ranges
abbrev pub numbers_of : List NumberRange → List ℕ
numbers_of ranges = flat_map span ranges

-- none ends before it begins, and at least one number is missing between a range and those behind it
abbrev pub are_apart : List NumberRange → Bool
are_apart [] = true
are_apart (r ∷ more) = nat_le r.first r.last && (list_all (λ s. nat_lt (r.last + 1) s.first) more && are_apart more)

-- the same, and they begin at numbers of 64 bits
pub record AreRanges (ranges : List NumberRange) : Type 0 where
  pub apart : are_apart ranges ≡ true
  pub short : list_all (λ r. nat_lt r.first (2 ^ 64)) ranges ≡ true

-- the last number of the range that begins right behind n, or n
abbrev pub last_from : ℕ → List NumberRange → ℕ
last_from n [] = n
last_from n (r ∷ more) = if r.first == n + 1 then r.last else last_from n more

-- the ranges without that one
abbrev pub without_next : ℕ → List NumberRange → List NumberRange
without_next n [] = []
without_next n (r ∷ more) = if r.first == n + 1 then more else r ∷ without_next n more

-- the ranges with one more, which is joined to the one that ends right before it
abbrev pub attached : NumberRange → List NumberRange → List NumberRange
attached x [] = x ∷ []
attached x (r ∷ more) =
    if r.last + 1 == x.first then range r.first x.last ∷ more else (if nat_lt x.first r.first then x ∷ r ∷ more else r ∷ attached x more)

-- a range ends right before n
abbrev pub ends_at : ℕ → List NumberRange → Bool
ends_at n ranges = list_any (λ r. r.last + 1 == n) ranges

-- this range does
pub record EndsBefore (n : ℕ) (ranges : List NumberRange) (x : NumberRange) : Type 0 where
  pub front : List NumberRange
  pub back : List NumberRange
  pub is : ranges ≡ front ++ x ∷ back
  pub ends : x.last + 1 ≡ n

-- the list begins with n
abbrev pub begins_with : ℕ → List ℕ → Bool
begins_with n [] = false
begins_with n (m ∷ more) = m == n

-- how many times a number doesn't follow the one before it in the list, the first one counted
abbrev pub stretches : List ℕ → ℕ
stretches [] = 0
stretches (n ∷ more) = if begins_with (n + 1) more then stretches more else stretches more + 1
