-- Places in a list and what follows them.
use Rattle.std.proofs.Common.{◌≡◌, ℕ, ◌<◌, Bool, false, not, List, [], ◌∷◌, length, get_or, position, Option, None, unwrap_or, refl, inl, inr, arith, ltb, ◌≤◌}
use Rattle.std.specs.List.{position_or_len, prefix_len}
use Rattle.std.proofs.lemmas.Bool.Decides.{nat_tests}
use Rattle.std.proofs.lemmas.Bool.{cases_lt, lt-ltb, cases_Bool}
use Rattle.std.proofs.lemmas.List.Sums.{fails_before_first}

pub none_before : (p : ℕ → Bool) (xs : List ℕ) → position p xs ≡ None → (k : ℕ) → k < length xs → p (get_or xs k 0) ≡ false
none_before p xs e k lt =
    elim (cases_lt (position_or_len p xs) (length xs)) [
      | inl below ↦ let t = lt-ltb _ _ below in let e' = rw t at e in absurd (cc)
      | inr above ↦ fails_before_first p xs k 0 (omega arith)
    ]

prefix_len_le : (p : ℕ → Bool) (xs : List ℕ) → prefix_len p xs ≤ length xs
prefix_len_le p [] = omega arith
prefix_len_le p (x ∷ xs) =
    let more : prefix_len p xs ≤ length xs = prefix_len_le p xs in
    elim (cases_Bool (p x)) [
      | inl t ↦ rw t (omega arith)
      | inr f ↦ rw f (omega arith)
    ]

-- `position(..).unwrap_or(len())`
pub position_else : (p : ℕ → Bool) (xs : List ℕ) (o : Option ℕ) → o ≡ position p xs → unwrap_or o (length xs) ≡ position_or_len p xs
position_else p xs o h =
    let le : position_or_len p xs ≤ length xs = prefix_len_le (λ x. not (p x)) xs in
    elim (cases_lt (position_or_len p xs) (length xs)) [
      | inl below ↦ let t = lt-ltb _ _ below in rw (h, t) refl
      | inr above ↦ let f : ltb (position_or_len p xs) (length xs) ≡ false = grind (arith, nat_tests) in rw (h, f) (omega arith)
    ]
