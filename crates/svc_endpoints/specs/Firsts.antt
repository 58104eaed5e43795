-- For each sum of an address the least number of the live descriptors with it, and how many they are.
use Rattle.std.specs.Prelude.{ℕ, zero, suc, Bool, true, false, not, ◌||◌, ◌==◌, ◌≡◌, ◌<◌, ◌^◌, nat_le, List, [], ◌∷◌, ◌++◌, Option, Some, None, filter, map, length}
use Rattle.std.specs.List.{list_all}
use Rattle.svc_base.specs.Blocks.{rises_by}
use Rattle.svc_endpoints.specs.declared.firsts.First.{First}
use Rattle.svc_endpoints.specs.declared.table.Open.{Open}
use Rattle.svc_endpoints.specs.Sums.{sum_of}

-- the address has this sum
abbrev pub has_sum : ℕ → Option (List ℕ) → Bool
has_sum c (Some a) = sum_of a == c
has_sum c None = false

-- so many descriptors have an address with the sum
abbrev pub count_with : ℕ → List Open → ℕ
count_with c table = length (filter (λ (o : Open). has_sum c o.address) table)

-- none of them has a number below n
abbrev pub are_from : ℕ → ℕ → List Open → Bool
are_from c n table = list_all (λ (o : Open). not (has_sum c o.address) || nat_le n o.fd) table

-- the entries of the sum
abbrev pub with_sum : ℕ → List First → List First
with_sum c firsts = filter (λ (f : First). f.sum == c) firsts

-- what they count, where n descriptors have it: there is one that counts n, or none
abbrev pub counts_of : ℕ → List ℕ
counts_of zero = []
counts_of (suc n) = suc n ∷ []

-- each sum of an address that is live has one entry, which says how many have it, and below whose number none is; no other sum has an entry
pub record AreFirsts (firsts : List First) (table : List Open) : Type 0 where
  pub counts : (c : ℕ) → map (λ (f : First). f.live) (with_sum c firsts) ≡ counts_of (count_with c table)
  pub least : (c : ℕ) → list_all (λ (f : First). are_from c f.fd table) (with_sum c firsts) ≡ true

-- as one more descriptor with the address comes
abbrev pub Notes : Option (List ℕ) → ℕ → List First → List First → Type 0
Notes a fd old new = (table : List Open) → length table < 2 ^ 60 → AreFirsts old table → AreFirsts new (record { fd = fd; address = a } ∷ table)

-- as one with the address goes
abbrev pub Forgets : Option (List ℕ) → List First → List First → Type 0
Forgets a old new = (fd : ℕ) (table : List Open) → AreFirsts old (record { fd = fd; address = a } ∷ table) → AreFirsts new table

-- as some descriptors of a table become others
abbrev pub Follows : List Open → List Open → List First → List First → Type 0
Follows before after old new = (rest : List Open) → AreFirsts old (before ++ rest) → AreFirsts new (after ++ rest)

-- the descriptors stand in ascending number, and their sums have these entries
pub record AreIndexed (firsts : List First) (table : List Open) : Type 0 where
  pub rise : rises_by (λ (o : Open). o.fd) table ≡ true
  pub known : AreFirsts firsts table
