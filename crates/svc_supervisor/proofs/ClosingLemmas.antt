-- The generations up to a place have been closed.
use Rattle.std.proofs.Common.{ℕ, zero, suc, List, [], ◌∷◌, ◌≡◌, ◌<◌, ◌≤◌, refl, ap, sym, ◌∙◌, subst, arith, length, map, get_or, set}
use Rattle.svc_supervisor.specs.declared.generation.Generation.{Generation}
use Rattle.svc_supervisor.specs.ChainData.{GenerationData}
use Rattle.svc_supervisor.specs.Chains.{closed, AreClosed}
use Rattle.svc_supervisor.specs.Generations.{Stands, IsClosed, EachStands, data_of}

-- the first k of the one list are those of the other, closed
abbrev pub ClosedUpTo : ℕ → List Generation → List Generation → Type 0
ClosedUpTo zero old new = new ≡ old
ClosedUpTo (suc k) [] new = new ≡ []
ClosedUpTo (suc k) (x ∷ old) [] = ⊥
ClosedUpTo (suc k) (x ∷ old) (y ∷ new) = IsClosed x y × ClosedUpTo k old new

-- the next one stands as before
pub next-stands : (k : ℕ) (old new : List Generation) (d : Generation) → k < length new → EachStands old → ClosedUpTo k old new → Stands (get_or new k d)
next-stands zero [] new d inside s h = absurd (let e = ap (λ (xs : List Generation). length xs) h in omega arith)
next-stands zero (x ∷ old) new d inside s h = subst (λ (xs : List Generation). Stands (get_or xs zero d)) (sym h) s.0
next-stands (suc k) [] new d inside s h = absurd (let e = ap (λ (xs : List Generation). length xs) h in omega arith)
next-stands (suc k) (x ∷ old) [] d inside s h = absurd h
next-stands (suc k) (x ∷ old) (y ∷ new) d inside s h = next-stands k old new d (omega arith) s.1 h.1

-- and is closed now
pub closed-more : (k : ℕ) (old new : List Generation) (d y : Generation) → k < length new → ClosedUpTo k old new → IsClosed (get_or new k d) y
    → ClosedUpTo (suc k) old (set new k y)
closed-more zero [] new d y inside h c = absurd (let e = ap (λ (xs : List Generation). length xs) h in omega arith)
closed-more zero (x ∷ old) new d y inside h c =
    subst (λ (xs : List Generation). ClosedUpTo (suc zero) (x ∷ old) (set xs zero y)) (sym h)
    (subst (λ (xs : List Generation). IsClosed (get_or xs zero d) y) h c, refl)
closed-more (suc k) [] new d y inside h c = absurd (let e = ap (λ (xs : List Generation). length xs) h in omega arith)
closed-more (suc k) (x ∷ old) [] d y inside h c = absurd h
closed-more (suc k) (x ∷ old) (z ∷ new) d y inside h c = (h.0, closed-more k old new d y (omega arith) h.1 c)

-- at the end all are
pub closed-all : (k : ℕ) (old new : List Generation) → length new ≤ k → ClosedUpTo k old new → map data_of new ≡ map closed (map data_of old)
closed-all zero [] new inside h = ap (map data_of) h
closed-all zero (x ∷ old) new inside h = absurd (let e = ap (λ (xs : List Generation). length xs) h in omega arith)
closed-all (suc k) [] new inside h = ap (map data_of) h
closed-all (suc k) (x ∷ old) [] inside h = absurd h
closed-all (suc k) (x ∷ old) (y ∷ new) inside h =
    ap (λ (g : GenerationData). g ∷ map data_of new) h.0.closed
    ∙ ap (λ (gs : List GenerationData). closed (data_of x) ∷ gs) (closed-all k old new (omega arith) h.1)

pub whole-all : (k : ℕ) (old new : List Generation) → length new ≤ k → ClosedUpTo k old new → AreClosed (map data_of old)
whole-all zero [] new inside h = tt
whole-all zero (x ∷ old) new inside h = absurd (let e = ap (λ (xs : List Generation). length xs) h in omega arith)
whole-all (suc k) [] new inside h = tt
whole-all (suc k) (x ∷ old) [] inside h = absurd h
whole-all (suc k) (x ∷ old) (y ∷ new) inside h = (h.0.whole, whole-all k old new (omega arith) h.1)
