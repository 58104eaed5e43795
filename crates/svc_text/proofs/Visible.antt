-- Words of visible bytes, and lines of them, are read back as they were joined.
use Rattle.std.proofs.Common.{◌≡◌, ℕ, zero, suc, ◌-◌, ◌^◌, ◌<◌, Bool, true, false, ltb, eqb, List, [], ◌∷◌, ◌++◌, length, get_or, All, refl, ap, ◌∙◌, append_assoc, arith}
use Rattle.std.specs.List.{join_with_byte, list_all, AllByRecursion}
use Rattle.std.specs.Str.Lines.{lines, strip_carriage_return}
use Rattle.std.specs.Str.Parse.{AllDigits}
use Rattle.std.specs.Fmt.{decimal}
use Rattle.std.proofs.lemmas.Bool.{and_parts, and_from, lt-ltb, ltb-true, ne_eqb}
use Rattle.std.proofs.lemmas.Bool.Decides.{nat_tests}
use Rattle.std.proofs.lemmas.Fmt.{decimal_is_IsNumeral}
use Rattle.std.proofs.lemmas.Str.Parse.{digit_from_value}
use Rattle.svc_base.specs.Words.{is_blank, is_feed, words}
use Rattle.svc_base.proofs.WordLemmas.{words-nil, words-last, words-then}
use Rattle.svc_base.proofs.LineLemmas.{lines-then}

-- the bytes of a word stand above the space
abbrev pub is_visible : List ℕ → Bool
is_visible bytes = list_all (λ b. ltb 32 b) bytes

pub record IsWord (w : List ℕ) : Type 0 where
  pub visible : is_visible w ≡ true
  pub some : 0 < length w

pub visible_append : (xs ys : List ℕ) → is_visible xs ≡ true → is_visible ys ≡ true → is_visible (xs ++ ys) ≡ true
visible_append [] ys p q = q
visible_append (x ∷ xs) ys p q = let r = and_parts _ _ p in and_from _ _ r.0 (visible_append xs ys r.1 q)

digits_visible : (ds : List ℕ) → AllDigits 10 ds → is_visible ds ≡ true
digits_visible [] h = refl
digits_visible (d ∷ ds) h =
    let r = digit_from_value d h.0 in
    and_from _ _ (lt-ltb 32 d (omega (arith, r))) (digits_visible ds h.1)

pub decimal_word : (n : ℕ) → n < 2 ^ 64 → IsWord (decimal n)
decimal_word n below = let p = (decimal_is_IsNumeral n below).0 in record { visible = digits_visible (decimal n) p.1; some = p.0 }

no_blank : (b : ℕ) → ltb 32 b ≡ true → is_blank b ≡ false
no_blank b h = let lt : 32 < b = ltb-true 32 b h in grind (arith, nat_tests)

pub visible_filled : (w : List ℕ) → is_visible w ≡ true → All (λ b. is_blank b ≡ false) w
visible_filled [] h k d lt = absurd (omega arith)
visible_filled (b ∷ w) h zero d lt = no_blank b (and_parts _ _ h).0
visible_filled (b ∷ w) h (suc k) d lt = visible_filled w (and_parts _ _ h).1 k d (omega arith)

pub words_spaced : (ws : List (List ℕ)) → AllByRecursion IsWord ws → words (join_with_byte 32 ws) ≡ ws
words_spaced [] h = words-nil
words_spaced (w ∷ []) h = words-last w h.0.some (visible_filled w h.0.visible)
words_spaced (w ∷ v ∷ ws) h =
    words-then w 32 (join_with_byte 32 (v ∷ ws)) h.0.some (visible_filled w h.0.visible) refl
    ∙ ap (λ (vs : List (List ℕ)). w ∷ vs) (words_spaced (v ∷ ws) h.1)

-- the bytes of a line stand from the space on
abbrev pub is_printable : List ℕ → Bool
is_printable bytes = list_all (λ b. ltb 31 b) bytes

printable_append : (xs ys : List ℕ) → is_printable xs ≡ true → is_printable ys ≡ true → is_printable (xs ++ ys) ≡ true
printable_append [] ys p q = q
printable_append (x ∷ xs) ys p q = let r = and_parts _ _ p in and_from _ _ r.0 (printable_append xs ys r.1 q)

printable_word : (w : List ℕ) → is_visible w ≡ true → is_printable w ≡ true
printable_word [] h = refl
printable_word (b ∷ w) h =
    let r = and_parts _ _ h in
    let lt : 32 < b = ltb-true 32 b r.0 in
    and_from _ _ (lt-ltb 31 b (omega arith)) (printable_word w r.1)

pub spaced_printable : (ws : List (List ℕ)) → AllByRecursion IsWord ws → is_printable (join_with_byte 32 ws) ≡ true
spaced_printable [] h = refl
spaced_printable (w ∷ []) h = printable_word w h.0.visible
spaced_printable (w ∷ v ∷ ws) h = printable_append w (32 ∷ join_with_byte 32 (v ∷ ws)) (printable_word w h.0.visible) (spaced_printable (v ∷ ws) h.1)

printable_at : (bs : List ℕ) (k d : ℕ) → is_printable bs ≡ true → k < length bs → 31 < get_or bs k d
printable_at [] k d h lt = absurd (omega arith)
printable_at (b ∷ bs) zero d h lt = ltb-true 31 b (and_parts _ _ h).0
printable_at (b ∷ bs) (suc k) d h lt = printable_at bs k d (and_parts _ _ h).1 (omega arith)

clear_of_feeds : (bs : List ℕ) → is_printable bs ≡ true → All (λ b. is_feed b ≡ false) bs
clear_of_feeds bs h k d lt = let p = printable_at bs k d h lt in ne_eqb (get_or bs k d) 10 (λ e. omega arith)

last_is_no_return : (bs : List ℕ) → is_printable bs ≡ true → get_or bs (length bs - 1) 0 ≡ 13 → ⊥
last_is_no_return [] h e = absurd (omega (arith, e))
last_is_no_return (b ∷ bs) h e = let p = printable_at (b ∷ bs) (length (b ∷ bs) - 1) 0 h (omega arith) in omega arith

return_kept : (bs : List ℕ) → is_printable bs ≡ true → strip_carriage_return bs ≡ bs
return_kept bs h = let t : eqb (get_or bs (length bs - 1) 0) 13 ≡ false = ne_eqb _ 13 (last_is_no_return bs h) in rw t refl

-- a line that is printed before more text is the text's first line
pub line_back : (bs rest : List ℕ) → is_printable bs ≡ true → lines ((bs ++ (10 ∷ [])) ++ rest) ≡ bs ∷ lines rest
line_back bs rest h =
    ap lines (append_assoc bs (10 ∷ []) rest) ∙ lines-then bs rest (clear_of_feeds bs h) ∙ ap (λ (l : List ℕ). l ∷ lines rest) (return_kept bs h)
