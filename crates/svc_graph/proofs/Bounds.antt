-- Tests in which one side fails, and bounds one apart.
use Rattle.std.proofs.Common.{ℕ, Bool, false, ◌||◌, inl, inr, ◌≡◌, ◌≢◌, sym, ◌∙◌, arith, ◌+◌, nat_lt}
use Rattle.std.proofs.lemmas.Bool.{cases_lt, lt-ltb, le-ltb}

pub or_false : (u w : Bool) → w ≡ false → (u || w) ≡ u
or_false u w e = grind arith

-- a number but the next one is below the next bound where it is below this one
pub next_lt : (a x : ℕ) → a ≢ x → nat_lt a x ≡ nat_lt a (x + 1)
next_lt a x ne =
    elim (cases_lt a x) [
      | inl lt ↦ lt-ltb a x lt ∙ sym (lt-ltb a (x + 1) (omega arith))
      | inr le ↦ le-ltb a x le ∙ sym (le-ltb a (x + 1) (omega arith))
    ]
