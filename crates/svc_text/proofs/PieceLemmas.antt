-- Pieces of a word that are read one after the other.
use Rattle.std.proofs.Common.{◌≡◌, ℕ, suc, ◌+◌, ◌<◌, All, List, [], ◌∷◌, ◌++◌, length, get_or, take, map, Option, Some, None, sym, ap, subst, ◌∙◌, arith}
use Rattle.std.specs.List.{AllByRecursion}
use Rattle.std.proofs.lemmas.List.{take_more, map_push, get_or-map, length-map}
use Rattle.std.proofs.lemmas.List.Elements.{All-push}
use Rattle.std.proofs.Math.Seq.{take-length}
use Rattle.svc_text.specs.NumberLists.{all_some}
use Rattle.svc_text.proofs.ListLemmas.{all_some-push, all_some-stop}

-- what the pieces are, where each is read
abbrev pub read_by : (List ℕ → Option ℕ) → List (List ℕ) → Option (List ℕ)
read_by f pieces = all_some (map f pieces)

-- one more piece
pub read_by-more : (f : List ℕ → Option ℕ) (pieces : List (List ℕ)) (i j n : ℕ) (w : List ℕ) (xs ys : List ℕ) → (i < length pieces) × (w ≡ get_or pieces i w)
    → Some n ≡ f w → j ≡ i + 1 → ys ≡ xs ++ n ∷ []
    → read_by f (take i pieces) ≡ Some xs → read_by f (take j pieces) ≡ Some ys
read_by-more f pieces i j n w xs ys at e ej ey h =
    let cut : take (i + 1) pieces ≡ take i pieces ++ w ∷ [] = take_more pieces i w at.0 ∙ ap (λ (v : List ℕ). take i pieces ++ v ∷ []) (sym at.1) in
    let one : read_by f (take (i + 1) pieces) ≡ Some (xs ++ n ∷ []) =
    ap (read_by f) cut ∙ ap all_some (map_push f (take i pieces) w) ∙ rw (← e) (all_some-push (map f (take i pieces)) xs n h) in
    rw (ej, ey) one

-- a piece that can't be read
pub read_by-stops : (f : List ℕ → Option ℕ) (pieces : List (List ℕ)) (i : ℕ) (w : List ℕ) → (i < length pieces) × (w ≡ get_or pieces i w) → None ≡ f w
    → read_by f pieces ≡ None
read_by-stops f pieces i w at e =
    let lt : i < length pieces = at.0 in
    let len : length (map f pieces) ≡ length pieces = length-map pieces f in
    let there : get_or (map f pieces) i None ≡ None = get_or-map f pieces i w None lt ∙ ap f (sym at.1) ∙ sym e in
    all_some-stop (map f pieces) i None (omega arith) there

-- the last piece
pub read_by-all : (f : List ℕ → Option ℕ) (pieces : List (List ℕ)) (i : ℕ) (xs : List ℕ) → i ≡ length pieces → read_by f (take i pieces) ≡ Some xs
    → read_by f pieces ≡ Some xs
read_by-all f pieces i xs e h = ap (read_by f) (sym (rw e (take-length pieces))) ∙ h

-- all, one after the other
pub by_recursion : {A : Type 0} (P : A → Type 0) (xs : List A) → All P xs → AllByRecursion P xs
by_recursion P [] h = tt
by_recursion P (x ∷ xs) h = (h 0 x (omega arith), by_recursion P xs (λ k d lt. h (suc k) d (omega arith)))

pub all_more : {A : Type 0} (P : A → Type 0) (xs : List A) (i : ℕ) (d : A) → i < length xs → All P (take i xs) → P (get_or xs i d) → All P (take (i + 1) xs)
all_more P xs i d lt h k = subst (All P) (sym (take_more xs i d lt)) (All-push P (take i xs) (get_or xs i d) h k)

pub all_whole : {A : Type 0} (P : A → Type 0) (xs : List A) (i : ℕ) → i ≡ length xs → All P (take i xs) → All P xs
all_whole P xs i e h = subst (All P) (ap (λ (n : ℕ). take n xs) e ∙ take-length xs) h
