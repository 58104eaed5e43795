-- Calls that are told one after the other.
use Rattle.std.proofs.Common.{ℕ, List, [], ◌++◌, Option, Some, None, refl, sym, ap, ◌∙◌, append_assoc, arith}
use Rattle.std.proofs.lemmas.List.{append-nil}
use Rattle.svc_base.specs.Calls.{Adds, Stays}

pub Adds-nil : {T : Type 0} (a : Option (List T)) → Adds a a []
Adds-nil None = tt
Adds-nil (Some xs) = sym (append-nil xs)

pub Adds-then : {T : Type 0} (a b c : Option (List T)) (x y : List T) → Adds a b x → Adds b c y → Adds a c (x ++ y)
Adds-then None None None x y p q = tt
Adds-then None None (Some zs) x y p q = absurd q
Adds-then None (Some ys) c x y p q = absurd p
Adds-then (Some xs) None None x y p q = tt
Adds-then (Some xs) None (Some zs) x y p q = absurd q
Adds-then (Some xs) (Some ys) None x y p q = tt
Adds-then (Some xs) (Some ys) (Some zs) x y p q = q ∙ ap (λ w. w ++ y) p ∙ append_assoc xs x y

pub Stays-same : {T : Type 0} (a : Option (List T)) (r : ℕ) → Stays a a r r
Stays-same a r = record {
  told = λ some. refl;
  falls = omega arith;
}

pub Stays-then : {T : Type 0} {a b c : Option (List T)} {r s t : ℕ} → Stays a b r s → Stays b c s t → Stays a c r t
Stays-then p q = record {
  told = λ some. q.told some ∙ p.told (omega (arith, some, q.falls));
  falls = omega (arith, p.falls, q.falls);
}
