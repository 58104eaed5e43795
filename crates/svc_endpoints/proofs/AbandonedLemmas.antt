-- Where all that pass one test pass another, one passes the first where one passes both.
use Rattle.std.proofs.Common.{ℕ, Bool, true, false, ◌||◌, ◌&&◌, not, inl, inr, List, [], ◌∷◌, ◌≡◌, refl, arith}
use Rattle.std.specs.List.{list_any, list_all}
use Rattle.std.proofs.lemmas.Bool.{cases_Bool, and_parts}

or_same : (n f a b : Bool) → (not n || f) ≡ true → a ≡ b → (n || a) ≡ ((f && n) || b)
or_same n f a b h e = grind arith

any_both : (n f : ℕ → Bool) (xs : List ℕ) → list_all (λ s. not (n s) || f s) xs ≡ true → list_any n xs ≡ list_any (λ s. f s && n s) xs
any_both n f [] h = refl
any_both n f (x ∷ xs) h =
    let parts = and_parts (not (n x) || f x) (list_all (λ s. not (n s) || f s) xs) h in
    or_same (n x) (f x) (list_any n xs) (list_any (λ s. f s && n s) xs) parts.0 (any_both n f xs parts.1)

pub any-failed : (n f : ℕ → Bool) (xs : List ℕ)
    → (list_any (λ s. f s && n s) xs && list_all (λ s. not (n s) || f s) xs) ≡ (list_any n xs && list_all (λ s. not (n s) || f s) xs)
any-failed n f xs = elim (cases_Bool (list_all (λ s. not (n s) || f s) xs)) [
  | inl all ↦ rw (all, any_both n f xs all) refl
  | inr some ↦ and_none (list_any (λ s. f s && n s) xs) (list_any n xs) (list_all (λ s. not (n s) || f s) xs) some
]
  where
    and_none : (a b c : Bool) → c ≡ false → (a && c) ≡ (b && c)
    and_none a b c h = grind arith
