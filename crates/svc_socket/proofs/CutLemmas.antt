-- A text is cut at its first separator.
use Rattle.std.proofs.Common.{◌≡◌, ℕ, suc, ◌+◌, ◌-◌, ◌<◌, Bool, false, List, [], ◌∷◌, ◌++◌, length, get_or, take, drop, position, All, Some, None, refl, sym, ap, ◌∙◌, arith, add-one}
use Rattle.std.specs.List.{slice_split}
use Rattle.std.proofs.lemmas.List.{take-append-drop, get_or-take, get_or_default, length-take-le}
use Rattle.std.proofs.lemmas.List.Quantifiers.{position-Some}
use Rattle.std.proofs.lemmas.List.Splits.{slice_split_at, slice_split_none, length-slice_split}
use Rattle.std.proofs.Math.Seq.{drop-cons}
use Rattle.svc_base.proofs.CutLemmas.{none_before}
use Rattle.svc_base.proofs.Pieces.{rest_whole}

pub no_cut : (p : ℕ → Bool) (text : List ℕ) → position p text ≡ None → slice_split p text ≡ text ∷ []
no_cut p text e = slice_split_none p text (λ k d lt. ap p (get_or_default text k d 0 lt) ∙ none_before p text e k lt)

pub first_cut : (p : ℕ → Bool) (text : List ℕ) (k : ℕ) (front rest : List ℕ) → position p text ≡ Some k → front ≡ take k text
    → rest ≡ take (length text - (k + 1)) (drop (k + 1) text) → slice_split p text ≡ front ∷ slice_split p rest
first_cut p text k front rest e hf hr =
    let at = position-Some p text k 0 e in
    let lt : k < length text = at.0 in
    let cut : drop k text ≡ get_or text k 0 ∷ drop (suc k) text = drop-cons text k 0 lt in
    let whole : take k text ++ (get_or text k 0 ∷ drop (suc k) text) ≡ text = rw (← cut) (take-append-drop k text) in
    let len : length (take k text) ≡ k = length-take-le k text (omega arith) in
    let clear : All (λ b. p b ≡ false) (take k text) =
    λ j d below. let b : j < k = omega arith in
    let e' : get_or (take k text) j d ≡ get_or text j 0 = get_or-take k text j d b ∙ get_or_default text j d 0 (omega arith) in ap p e' ∙ at.2 j b in
    let after : rest ≡ drop (suc k) text = hr ∙ rest_whole (k + 1) text ∙ rw add-one refl in
    ap (slice_split p) (sym whole) ∙ slice_split_at p (take k text) (get_or text k 0) (drop (suc k) text) clear at.1 ∙ rw (hf, after) refl

pub several_words : (p : ℕ → Bool) (text front rest : List ℕ) → slice_split p text ≡ front ∷ slice_split p rest → 1 < length (slice_split p text)
several_words p text front rest e =
    let long : length (slice_split p text) ≡ suc (length (slice_split p rest)) = ap (λ (ws : List (List ℕ)). length ws) e in
    omega (arith, length-slice_split p rest)
