-- A table of descriptors as a finite map from addresses to numbers, kept in the order of the addresses.
use Rattle.std.specs.Prelude.{ℕ, Bool, not, ◌≡◌, List, [], ◌∷◌, ◌++◌, Option, Some, None, ⊤, filter, map, if◌then◌else◌}
use Rattle.std.specs.Option.{option_to_list}
use Rattle.std.specs.List.{list_any}
use Rattle.std.specs.Ordering.{nat_cmp, match_ordering}
use Rattle.std.specs.declared.cmp.Ordering.TheVariants.{Less}
use Rattle.std.specs.Cmp.Lexicographic.{slice_cmp}
use Rattle.std.specs.Str.{bytes_eq}

-- an address, by its bytes, and the number of its descriptor
abbrev pub Entry : Type 0
Entry = List ℕ × ℕ

-- what the table has at an address
abbrev pub lookup : List ℕ → List Entry → Option ℕ
lookup a [] = None
lookup a (e ∷ es) = if bytes_eq e.0 a then Some e.1 else lookup a es

-- the table with the descriptor of an address set
abbrev pub put : List ℕ → ℕ → List Entry → List Entry
put a fd [] = (a, fd) ∷ []
put a fd (e ∷ es) = match_ordering (slice_cmp nat_cmp e.0 a) (e ∷ put a fd es) ((a, fd) ∷ es) ((a, fd) ∷ e ∷ es)

-- the table without an address
abbrev pub without : List ℕ → List Entry → List Entry
without a es = filter (λ e. not (bytes_eq e.0 a)) es

-- the addresses, and the numbers of the descriptors, in order
abbrev pub addresses : List Entry → List (List ℕ)
addresses es = map (λ e. e.0) es

abbrev pub numbers : List Entry → List ℕ
numbers es = map (λ e. e.1) es

-- the table with each of the pairs set, in order
abbrev pub put_all : List Entry → List Entry → List Entry
put_all [] es = es
put_all (p ∷ pairs) es = put_all pairs (put p.0 p.1 es)

-- what each pair replaces as they are set in order
abbrev pub replaced_by : List Entry → List Entry → List ℕ
replaced_by [] es = []
replaced_by (p ∷ pairs) es = option_to_list (lookup p.0 es) ++ replaced_by pairs (put p.0 p.1 es)

-- the address is among those to keep
abbrev pub is_kept : List (List ℕ) → List ℕ → Bool
is_kept keep a = list_any (λ k. bytes_eq a k) keep

-- the entries whose addresses are kept, and the others
abbrev pub kept : List (List ℕ) → List Entry → List Entry
kept keep es = filter (λ e. is_kept keep e.0) es

abbrev pub unclaimed : List (List ℕ) → List Entry → List Entry
unclaimed keep es = filter (λ e. not (is_kept keep e.0)) es

-- a stands before b, by bytes
abbrev pub Precedes : List ℕ → List ℕ → Type 0
Precedes a b = slice_cmp nat_cmp a b ≡ Less

-- a stands before each address of the table
abbrev pub PrecedesAll : List ℕ → List Entry → Type 0
PrecedesAll a [] = ⊤
PrecedesAll a (e ∷ es) = Precedes a e.0 × PrecedesAll a es

-- the addresses ascend, so each stands once
abbrev pub IsAscending : List Entry → Type 0
IsAscending [] = ⊤
IsAscending (e ∷ es) = PrecedesAll e.0 es × IsAscending es
