-- Small laws of truth values, of numbers and of values that may be missing.
use Rattle.std.proofs.Common.{ℕ, Bool, true, false, not, ◌||◌, ◌≡◌, ◌<◌, ◌⊎◌, Option, Some, None, refl, sym, inl, inr, arith}
use Rattle.std.specs.Prelude.{nat_lt}

pub clash : (b : Bool) → b ≡ true → b ≡ false → ⊥
clash b h g = cc

pub not_in : (b : Bool) → b ≡ false → not b ≡ true
not_in b h = rw h refl

pub apart_from : (b : Bool) → not b ≡ true → b ≡ false
apart_from b h = grind arith

pub false_where : (b : Bool) → (b ≡ true → ⊥) → b ≡ false
false_where true f = absurd (f refl)
false_where false f = refl

pub bool_same : (a b : Bool) → (a ≡ true → b ≡ true) → (b ≡ true → a ≡ true) → a ≡ b
bool_same true b f g = sym (f refl)
bool_same false true f g = g refl
bool_same false false f g = refl

pub neither : (a b : Bool) → a ≡ false → b ≡ false → (a || b) ≡ false
neither a b x y = rw (x, y) refl

pub lt_true : (j i : ℕ) → j < i → nat_lt j i ≡ true
lt_true j i h = grind arith

pub none-some : (n : ℕ) → None ≡ Some n → ⊥
none-some n e = cc

pub some-inj : (m n : ℕ) → Some m ≡ Some n → m ≡ n
some-inj m n e = cc

pub option_cases : {A : Type 0} (a : Option A) → (a ≡ None) ⊎ ((x : A) × (a ≡ Some x))
option_cases None = inl refl
option_cases (Some x) = inr (x, refl)
