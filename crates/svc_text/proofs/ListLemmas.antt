-- Lists of which each element is there.
use Rattle.std.proofs.Common.{◌≡◌, ℕ, zero, suc, ◌+◌, ◌^◌, ◌<◌, List, [], ◌∷◌, ◌++◌, length, get_or, take, map, Option, Some, None, refl, sym, ap, ◌∙◌, arith}
use Rattle.std.proofs.lemmas.List.{take_more, map_push, get_or-map, length-map}
use Rattle.std.proofs.Math.Seq.{take-length}
use Rattle.svc_base.specs.Options.{◌>>=◌}
use Rattle.svc_base.specs.Words.{number_of}
use Rattle.svc_text.specs.NumberLists.{all_some}

bind_some : (o : Option (List ℕ)) (y : ℕ) (xs : List ℕ) → (o >>= λ zs. Some (y ∷ zs)) ≡ Some xs → (zs : List ℕ) × (o ≡ Some zs) × (y ∷ zs ≡ xs)
bind_some None y xs e = absurd cc
bind_some (Some zs) y xs e = (zs, refl, cc)

pub all_some-push : (os : List (Option ℕ)) (xs : List ℕ) (x : ℕ) → all_some os ≡ Some xs → all_some (os ++ Some x ∷ []) ≡ Some (xs ++ x ∷ [])
all_some-push [] xs x e = let h : [] ≡ xs = cc in rw (← h) refl
all_some-push (None ∷ os) xs x e = absurd cc
all_some-push (Some y ∷ os) xs x e =
    let b = bind_some (all_some os) y xs e in
    let more : all_some (os ++ Some x ∷ []) ≡ Some (b.0 ++ x ∷ []) = all_some-push os b.0 x b.1 in
    rw more (ap (λ (zs : List ℕ). Some (zs ++ x ∷ [])) b.2)

pub all_some-stop : (os : List (Option ℕ)) (k : ℕ) (d : Option ℕ) → k < length os → get_or os k d ≡ None → all_some os ≡ None
all_some-stop [] k d lt e = absurd (omega arith)
all_some-stop (None ∷ os) k d lt e = refl
all_some-stop (Some y ∷ os) zero d lt e = absurd cc
all_some-stop (Some y ∷ os) (suc k) d lt e = rw (all_some-stop os k d (omega arith) e) refl

abbrev pub read : List (List ℕ) → Option (List ℕ)
read parts = all_some (map (number_of (2 ^ 32)) parts)

-- one more part
pub read_more : (parts : List (List ℕ)) (i j n : ℕ) (w : List ℕ) (xs ys : List ℕ) → (i < length parts) × (w ≡ get_or parts i w) → Some n ≡ number_of (2 ^ 32) w
    → j ≡ i + 1 → ys ≡ xs ++ n ∷ []
    → read (take i parts) ≡ Some xs → read (take j parts) ≡ Some ys
read_more parts i j n w xs ys at e ej ey h =
    let cut : take (i + 1) parts ≡ take i parts ++ w ∷ [] = take_more parts i w at.0 ∙ ap (λ (v : List ℕ). take i parts ++ v ∷ []) (sym at.1) in
    let one : read (take (i + 1) parts) ≡ Some (xs ++ n ∷ []) =
    ap read cut ∙ ap all_some (map_push (number_of (2 ^ 32)) (take i parts) w)
    ∙ rw (← e) (all_some-push (map (number_of (2 ^ 32)) (take i parts)) xs n h) in
    rw (ej, ey) one

-- a part that is no number
pub read_stops : (parts : List (List ℕ)) (i : ℕ) (w : List ℕ) → (i < length parts) × (w ≡ get_or parts i w) → None ≡ number_of (2 ^ 32) w → read parts ≡ None
read_stops parts i w at e =
    let lt : i < length parts = at.0 in
    let len : length (map (number_of (2 ^ 32)) parts) ≡ length parts = length-map parts (number_of (2 ^ 32)) in
    let there : get_or (map (number_of (2 ^ 32)) parts) i None ≡ None =
    get_or-map (number_of (2 ^ 32)) parts i w None lt ∙ ap (number_of (2 ^ 32)) (sym at.1) ∙ sym e in
    all_some-stop (map (number_of (2 ^ 32)) parts) i None (omega arith) there

pub read_all : (parts : List (List ℕ)) (i : ℕ) (xs : List ℕ) → i ≡ length parts → read (take i parts) ≡ Some xs → read parts ≡ Some xs
read_all parts i xs e h = ap read (sym (rw e (take-length parts))) ∙ h
