-- Entries in ascending key, in blocks.
use Rattle.std.specs.Prelude.{ℕ, zero, suc, Bool, true, false, ◌≡◌, ◌&&◌, ◌==◌, ◌+◌, ◌<◌, ◌≤◌, ◌^◌, nat_lt, nat_le, if◌then◌else◌, List, [], ◌∷◌, ◌++◌, length, take, drop, slice_index_or, slice_set, Vec, vec_capacity}
use Rattle.std.specs.List.{flat_map, list_all, list_any}
use Rattle.std.specs.Vec.{vec_items}

-- the entries of all blocks
abbrev pub joined : {T Z : Type 0} → List (Vec T Z) → List T
joined blocks = flat_map vec_items blocks

-- each of them has an entry
abbrev pub are_filled : {T Z : Type 0} → List (Vec T Z) → Bool
are_filled blocks = list_all (λ v. nat_lt 0 (length v.items)) blocks

-- each but the first has one
abbrev pub later_filled : {T Z : Type 0} → List (Vec T Z) → Bool
later_filled [] = true
later_filled (v ∷ more) = are_filled more

-- each has memory for so many more entries
abbrev pub are_wide : {T Z : Type 0} → ℕ → List (Vec T Z) → Bool
are_wide room blocks = list_all (λ v. nat_le (length v.items + room) (vec_capacity v)) blocks

-- no key is less than one before it
abbrev pub rises_by : {T : Type 0} → (T → ℕ) → List T → Bool
rises_by key [] = true
rises_by key (x ∷ more) = list_all (λ y. nat_le (key x) (key y)) more && rises_by key more

-- the list with one more entry, behind those with at most its key
abbrev pub put_by : {T : Type 0} → (T → ℕ) → T → List T → List T
put_by key x [] = x ∷ []
put_by key x (y ∷ more) = if nat_lt (key x) (key y) then x ∷ y ∷ more else y ∷ put_by key x more

-- an entry has this key
abbrev pub has_key : {T : Type 0} → (T → ℕ) → ℕ → List T → Bool
has_key key c list = list_any (λ x. key x == c) list

-- the entry stands in the list, and has this key
pub record StandsIn {T : Type 0} (key : T → ℕ) (c : ℕ) (list : List T) (x : T) : Type 0 where
  pub front : List T
  pub back : List T
  pub is : list ≡ front ++ x ∷ back
  pub has : key x ≡ c

-- all keys are over c
abbrev pub is_over : {T : Type 0} → (T → ℕ) → ℕ → List T → Bool
is_over key c list = list_all (λ x. nat_lt c (key x)) list

-- the entry is the last one in the list whose key is at most c
pub record StandsLast {T : Type 0} (key : T → ℕ) (c : ℕ) (list : List T) (x : T) : Type 0 where
  pub front : List T
  pub back : List T
  pub is : list ≡ front ++ x ∷ back
  pub most : key x ≤ c
  pub above : is_over key c back ≡ true

-- the first key is at most c, if there is one
abbrev pub starts : {T : Type 0} → (T → ℕ) → ℕ → List T → Bool
starts key c [] = true
starts key c (x ∷ more) = nat_le (key x) c

-- the key of the first entry, or 0 without one
abbrev pub first_key : {T : Type 0} → (T → ℕ) → List T → ℕ
first_key key [] = 0
first_key key (x ∷ more) = key x

-- these are the first keys of the front blocks
abbrev pub are_firsts : {T Z : Type 0} → (T → ℕ) → List ℕ → List (Vec T Z) → Bool
are_firsts key [] blocks = true
are_firsts key (n ∷ notes) [] = false
are_firsts key (n ∷ notes) (v ∷ blocks) = first_key key v.items == n && are_firsts key notes blocks

-- the same, but for the first block's, which no search reads
abbrev pub is_index : {T Z : Type 0} → (T → ℕ) → List ℕ → List (Vec T Z) → Bool
is_index key [] blocks = true
is_index key (n ∷ notes) [] = false
is_index key (n ∷ notes) (v ∷ blocks) = are_firsts key notes blocks

-- first keys that were noted are so still
abbrev pub KeepsFirsts : {T Z : Type 0} → (T → ℕ) → List (Vec T Z) → List (Vec T Z) → Type 0
KeepsFirsts key old new = (notes : List ℕ) → is_index key notes old ≡ true → is_index key notes new ≡ true

-- the notes with one more at a place that they reach
abbrev pub put_note : ℕ → ℕ → List ℕ → List ℕ
put_note zero n notes = n ∷ notes
put_note (suc at) n [] = []
put_note (suc at) n (m ∷ notes) = m ∷ put_note at n notes

-- the notes as the entry at this place went, and the block has these
abbrev pub renoted : {T : Type 0} → (T → ℕ) → ℕ → ℕ → List T → List ℕ → List ℕ
renoted key at zero block notes = slice_set notes at (first_key key block)
renoted key at (suc place) block notes = notes

-- an entry with the key c stands in the block at this place, or goes there
pub record IsBlockFor {T Z : Type 0} (key : T → ℕ) (c : ℕ) (blocks : List (Vec T Z)) (at : ℕ) : Type 0 where
  pub within : at < length blocks
  pub here : (d : Vec T Z) → 0 < at → starts key c (slice_index_or blocks at d).items ≡ true
  pub next : (d : Vec T Z) → at + 1 < length blocks → starts key c (slice_index_or blocks (at + 1) d).items ≡ false

-- what stands before a place of a block
abbrev pub before : {T Z : Type 0} → List (Vec T Z) → ℕ → ℕ → List T
before [] at place = []
before (v ∷ more) zero place = take place v.items
before (v ∷ more) (suc at) place = v.items ++ before more at place

-- what stands from it on
abbrev pub behind : {T Z : Type 0} → List (Vec T Z) → ℕ → ℕ → List T
behind [] at place = []
behind (v ∷ more) zero place = drop place v.items ++ joined more
behind (v ∷ more) (suc at) place = behind more at place

-- an entry with the key c goes to this place of this block
pub record IsPlaceFor {T Z : Type 0} (key : T → ℕ) (c : ℕ) (blocks : List (Vec T Z)) (at place : ℕ) : Type 0 where
  pub within : at < length blocks
  pub inside : (d : Vec T Z) → place ≤ length (slice_index_or blocks at d).items
  pub below : list_all (λ x. nat_le (key x) c) (before blocks at place) ≡ true
  pub above : list_all (λ x. nat_lt c (key x)) (behind blocks at place) ≡ true
  pub later : 0 < at → 0 < place

-- an entry with the key c stands there
pub record IsPlaceOf {T Z : Type 0} (key : T → ℕ) (c : ℕ) (blocks : List (Vec T Z)) (at place : ℕ) : Type 0 where
  pub within : at < length blocks
  pub inside : (d : Vec T Z) → place < length (slice_index_or blocks at d).items
  pub here : (d : Vec T Z) (e : T) → key (slice_index_or (slice_index_or blocks at d).items place e) ≡ c

-- the last entry whose key is at most c stands there
pub record IsLastPlace {T Z : Type 0} (key : T → ℕ) (c : ℕ) (blocks : List (Vec T Z)) (at place : ℕ) : Type 0 where
  pub within : at < length blocks
  pub inside : (d : Vec T Z) → place < length (slice_index_or blocks at d).items
  pub most : list_all (λ x. nat_le (key x) c) (before blocks at (suc place)) ≡ true
  pub above : is_over key c (behind blocks at (suc place)) ≡ true

-- the blocks have the same entries, and there are no fewer blocks
pub record KeepsEntries {T Z : Type 0} (old new : List (Vec T Z)) : Type 0 where
  pub entries : joined new ≡ joined old
  pub filled : later_filled old ≡ true → later_filled new ≡ true
  pub more : length old ≤ length new

-- the blocks are in order, their first keys are noted, so many entries stand in them, and each has memory for so many more
pub record IsTable {T Z : Type 0} (key : T → ℕ) (blocks : List (Vec T Z)) (notes : List ℕ) (count room : ℕ) : Type 0 where
  pub filled : later_filled blocks ≡ true
  pub rise : rises_by key (joined blocks) ≡ true
  pub index : is_index key notes blocks ≡ true
  pub counts : count ≡ length (joined blocks)
  pub few : count + room < 2 ^ 59
  pub some : 0 < room → 0 < length blocks
  pub wide : 0 < room → are_wide room blocks ≡ true
