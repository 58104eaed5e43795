-- How what is shown of a list grows with its items.
use Rattle.std.proofs.Common.{◌≡◌, ℕ, suc, ◌+◌, ◌<◌, List, [], ◌∷◌, ◌++◌, length, get_or, take, All, sym, ap, subst, ◌∙◌, append_assoc, arith}
use Rattle.std.specs.Prelude.{flat_map}
use Rattle.std.specs.Str.{IsUtf8}
use Rattle.std.proofs.lemmas.Str.{is_utf8-from_IsUtf8}
use Rattle.std.proofs.lemmas.List.{take_more, append-nil, get_or_default}
use Rattle.std.proofs.lemmas.List.Elements.{All-push}
use Rattle.svc_conf.specs.Printing.{IsText}

flat_map_more : {X : Type 0} (show : X → List ℕ) (xs : List X) (x : X) → flat_map show (xs ++ x ∷ []) ≡ flat_map show xs ++ show x
flat_map_more show [] x = append-nil (show x)
flat_map_more show (y ∷ ys) x = ap (λ (v : List ℕ). show y ++ v) (flat_map_more show ys x) ∙ sym (append_assoc (show y) (flat_map show ys) (show x))

pub shows_more : {X : Type 0} (show : X → List ℕ) (P : X → Type 0) (xs : List X) (i : ℕ) (x : X) (from old new : List ℕ) → i < length xs → x ≡ get_or xs i x
    → old ≡ from ++ flat_map show (take i xs) → All P (take i xs) → new ≡ old ++ show x → P x
    → (new ≡ from ++ flat_map show (take (i + 1) xs)) × All P (take (i + 1) xs)
shows_more show P xs i x from old new lt at e all h one =
    let cut : take (i + 1) xs ≡ take i xs ++ x ∷ [] = take_more xs i x lt ∙ ap (λ v. take i xs ++ v ∷ []) (sym at) in
    let shown : from ++ flat_map show (take (i + 1) xs) ≡ (from ++ flat_map show (take i xs)) ++ show x =
    ap (λ v. from ++ flat_map show v) cut ∙ ap (λ (v : List ℕ). from ++ v) (flat_map_more show (take i xs) x)
    ∙ sym (append_assoc from (flat_map show (take i xs)) (show x)) in
    (h ∙ ap (λ (v : List ℕ). v ++ show x) e ∙ sym shown, subst (All P) (sym cut) (All-push P (take i xs) x all one))

pub text_is : (text shown : List ℕ) → shown ≡ text → IsUtf8 shown → IsText text
text_is text shown e h = is_utf8-from_IsUtf8 text (subst IsUtf8 e h)

-- the same of an item that is read by its place
pub shows_next : {X : Type 0} (show : X → List ℕ) (P : X → Type 0) (xs : List X) (i : ℕ) (d : X) (from old new : List ℕ) → i < length xs
    → old ≡ from ++ flat_map show (take i xs) → All P (take i xs) → new ≡ old ++ show (get_or xs i d) → P (get_or xs i d)
    → (new ≡ from ++ flat_map show (take (i + 1) xs)) × All P (take (i + 1) xs)
shows_next show P xs i d from old new lt e all h one =
    shows_more show P xs i (get_or xs i d) from old new lt (get_or_default xs i d (get_or xs i d) lt) e all h one

-- what holds of each of a list
pub first_of : {X : Type 0} (P : X → Type 0) (x : X) (xs : List X) → All P (x ∷ xs) → P x
first_of P x xs all = all 0 x (omega arith)

pub more_of : {X : Type 0} (P : X → Type 0) (x : X) (xs : List X) → All P (x ∷ xs) → All P xs
more_of P x xs all k d lt = all (suc k) d (omega (arith, lt))
