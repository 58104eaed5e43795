-- The least moment at which something is due.
use Rattle.std.specs.Prelude.{ℕ, Bool, true, false, ◌≡◌, ◌<◌, ◌^◌, Option, Some, None, IfSome, min, nat_lt}

-- the moment is before that one, if there is one
abbrev pub is_before : ℕ → Option ℕ → Bool
is_before t (Some m) = nat_lt t m
is_before t None = true

-- the least moment at which it is due, if it is at any moment of 64 bits
pub record IsLeast (due : ℕ → Type 0) (at : Option ℕ) : Type 0 where
  pub before : (t : ℕ) → t < 2 ^ 64 → is_before t at ≡ true → due t → ⊥
  pub there : IfSome at due

-- the test holds at each moment of 64 bits before this one, and at none from it on
pub record EndsAt (test : ℕ → Bool) (at : Option ℕ) : Type 0 where
  pub before : (t : ℕ) → t < 2 ^ 64 → is_before t at ≡ true → test t ≡ true
  pub past : (t : ℕ) → is_before t at ≡ false → test t ≡ false

-- the earlier of two moments, if there is one
abbrev pub earlier_of : Option ℕ → Option ℕ → Option ℕ
earlier_of (Some m) (Some n) = Some (min m n)
earlier_of None b = b
earlier_of a None = a
