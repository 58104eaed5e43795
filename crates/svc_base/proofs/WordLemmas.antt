-- How `words` goes along a line.
use Rattle.std.proofs.Common.{◌≡◌, ℕ, zero, suc, ◌-◌, ◌<◌, ◌≤◌, true, false, List, [], ◌∷◌, ◌++◌, length, get_or, take, drop, position, All, Option, Some, None, unwrap_or, refl, sym, ap, ◌∙◌, arith, length-drop}
use Rattle.std.proofs.lemmas.Bool.{lt-ltb, not-true, not-false, both_ways}
use Rattle.std.proofs.lemmas.List.{take-append-drop, get_or-drop, drop_all, get_or-take, get_or_default, length-take-le}
use Rattle.std.proofs.lemmas.List.Quantifiers.{position-Some}
use Rattle.std.proofs.lemmas.List.Splits.{slice_split_at, slice_split_none}
use Rattle.std.proofs.Math.Seq.{drop-cons, take-length}
use Rattle.svc_base.specs.Words.{is_blank, is_filled, is_word, words}
use Rattle.svc_base.proofs.CutLemmas.{none_before}
use Rattle.svc_base.proofs.Pieces.{rest_whole}

pub words-nil : words [] ≡ []
unfolding words
words-nil = refl

pub words-blank : (b : ℕ) (bs : List ℕ) → is_blank b ≡ true → words (b ∷ bs) ≡ words bs
unfolding words
words-blank b bs h = rw h refl

pub words-last : (xs : List ℕ) → 0 < length xs → All (λ b. is_blank b ≡ false) xs → words xs ≡ xs ∷ []
unfolding words
words-last xs some none =
    let e : is_word xs ≡ true = lt-ltb 0 (length xs) some in
    rw (slice_split_none is_blank xs none, e) refl

pub words-then : (xs : List ℕ) (y : ℕ) (ys : List ℕ) → 0 < length xs → All (λ b. is_blank b ≡ false) xs → is_blank y ≡ true
    → words (xs ++ y ∷ ys) ≡ xs ∷ words ys
unfolding words
words-then xs y ys some none h =
    let e : is_word xs ≡ true = lt-ltb 0 (length xs) some in
    rw (slice_split_at is_blank xs y ys none h, e) refl

pub words-skip : (s : ℕ) (bs : List ℕ) → s ≤ length bs → ((k : ℕ) → k < s → is_filled (get_or bs k 0) ≡ false) → words bs ≡ words (drop s bs)
words-skip zero bs le h = refl
words-skip (suc s) [] le h = absurd (omega arith)
words-skip (suc s) (b ∷ bs) le h =
    words-blank b bs (not-false (is_blank b) (h 0 (omega arith))) ∙ words-skip s bs (omega arith) (λ k lt. h (suc k) (omega arith))

pub no_word : (line : List ℕ) → position is_filled line ≡ None → words line ≡ []
no_word line e =
    let all : words line ≡ words (drop (length line) line) = words-skip (length line) line (omega arith) (λ k lt. none_before is_filled line e k lt) in
    all ∙ ap words (drop_all (length line) line (omega arith)) ∙ words-nil

starts_later : (k : ℕ) → (k ≡ 0 → ⊥) → 0 < k
starts_later zero h = absurd (h refl)
starts_later (suc k) h = omega arith

-- where a word begins a line, it goes up to the next blank
word_ends : (l : List ℕ) (o : Option ℕ) → 0 < length l → is_blank (get_or l 0 0) ≡ false → position is_blank l ≡ o
    → words l ≡ take (unwrap_or o (length l)) l ∷ words (drop (unwrap_or o (length l)) l)
word_ends l None some first e =
    let rest : drop (length l) l ≡ [] = drop_all (length l) l (omega arith) in
    rw (take-length, rest, words-nil) (words-last l some (λ k d lt. rw (get_or_default l k d 0 lt) (none_before is_blank l e k lt)))
word_ends l (Some k) some first e =
    let p = position-Some is_blank l k 0 e in
    let lt : k < length l = p.0 in
    let cut : drop k l ≡ get_or l k 0 ∷ drop (suc k) l = drop-cons l k 0 lt in
    let whole : take k l ++ (get_or l k 0 ∷ drop (suc k) l) ≡ l = rw (← cut) (take-append-drop k l) in
    let len : length (take k l) ≡ k = length-take-le k l (omega arith) in
    let more : 0 < k = starts_later k (λ z. both_ways (is_blank (get_or l 0 0)) first (ap (λ (i : ℕ). is_blank (get_or l i 0)) (sym z) ∙ p.1)) in
    let clear : All (λ b. is_blank b ≡ false) (take k l) =
    λ j d below. let b : j < k = omega arith in
    let e' : get_or (take k l) j d ≡ get_or l j 0 = get_or-take k l j d b ∙ get_or_default l j d 0 (omega arith) in ap is_blank e' ∙ p.2 j b in
    let step : words (take k l ++ (get_or l k 0 ∷ drop (suc k) l)) ≡ take k l ∷ words (drop (suc k) l) =
    words-then (take k l) (get_or l k 0) (drop (suc k) l) (omega arith) clear p.1 in
    let after : words (drop k l) ≡ words (drop (suc k) l) = ap words cut ∙ words-blank (get_or l k 0) (drop (suc k) l) p.1 in
    ap words (sym whole) ∙ step ∙ ap (λ (ws : List (List ℕ)). take k l ∷ ws) (sym after)

pub first_word : (line : List ℕ) (s : ℕ) → position is_filled line ≡ Some s
    → let l : List ℕ = drop s line in let e : ℕ = unwrap_or (position is_blank l) (length l) in words line ≡ take e l ∷ words (drop e l)
first_word line s h =
    let p = position-Some is_filled line s 0 h in
    let lt : s < length line = p.0 in
    let skip : words line ≡ words (drop s line) = words-skip s line (omega arith) p.2 in
    let head : get_or (drop s line) 0 0 ≡ get_or line s 0 = get_or-drop s line 0 0 ∙ ap (λ (i : ℕ). get_or line i 0) (omega arith) in
    let first : is_blank (get_or (drop s line) 0 0) ≡ false = ap is_blank head ∙ not-true (is_blank (get_or line s 0)) p.1 in
    skip ∙ word_ends (drop s line) (position is_blank (drop s line)) (omega (arith, length-drop s line)) first refl

-- the same of `&line[s..]`, cut at e
pub word_cut : (line : List ℕ) (s e : ℕ) (o : Option ℕ) (front back : List ℕ) → position is_filled line ≡ Some s
    → let l : List ℕ = take (length line - s) (drop s line) in o ≡ position is_blank l → e ≡ unwrap_or o (length l) → front ≡ take e l → back ≡ drop e l
    → words line ≡ front ∷ words back
word_cut line s e o front back h ho he hf hb =
    let w = rest_whole s line in
    let goal : words line ≡ take e (drop s line) ∷ words (drop e (drop s line)) = rw (he, ho, w) (first_word line s h) in
    rw (hf, hb, w) goal
