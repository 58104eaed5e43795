-- Which words are misspelled ones of one another.
use Rattle.std.specs.Prelude.{ℕ, ◌≡◌, ◌≢◌, ◌⊎◌, List, ◌∷◌, ◌++◌}

-- the longer word has one letter more
pub record HasOneMore (shorter longer : List ℕ) : Type 0 where
  pub front : List ℕ
  pub back : List ℕ
  pub extra : ℕ
  pub short : shorter ≡ front ++ back
  pub long : longer ≡ front ++ extra ∷ back

-- one letter is another one
pub record HasOneChanged (a b : List ℕ) : Type 0 where
  pub front : List ℕ
  pub back : List ℕ
  pub one : ℕ
  pub other : ℕ
  pub differ : one ≢ other
  pub first : a ≡ front ++ one ∷ back
  pub second : b ≡ front ++ other ∷ back

-- two neighbours are swapped
pub record HasTwoSwapped (a b : List ℕ) : Type 0 where
  pub front : List ℕ
  pub back : List ℕ
  pub one : ℕ
  pub other : ℕ
  pub differ : one ≢ other
  pub first : a ≡ front ++ one ∷ other ∷ back
  pub second : b ≡ front ++ other ∷ one ∷ back

-- the words differ by one letter, or by two neighbours that are swapped
abbrev pub IsOneOff : List ℕ → List ℕ → Type 0
IsOneOff a b = HasOneMore a b ⊎ (HasOneMore b a ⊎ (HasOneChanged a b ⊎ HasTwoSwapped a b))

-- the two begin with the same letter
abbrev pub BeginAlike : List ℕ → List ℕ → Type 0
BeginAlike (x ∷ a) (y ∷ b) = x ≡ y
BeginAlike _ _ = ⊥

-- what the two go on with behind all that both begin with
pub record BehindShared (a b left right : List ℕ) : Type 0 where
  pub front : List ℕ
  pub first : a ≡ front ++ left
  pub second : b ≡ front ++ right
  pub differ : BeginAlike left right → ⊥

-- the two begin with two letters that are swapped, and go on alike
pub record SwapsFront (a b : List ℕ) : Type 0 where
  pub back : List ℕ
  pub one : ℕ
  pub other : ℕ
  pub first : a ≡ one ∷ other ∷ back
  pub second : b ≡ other ∷ one ∷ back
