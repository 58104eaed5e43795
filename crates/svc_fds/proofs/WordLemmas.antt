-- The words between blanks.
use Rattle.std.proofs.Common.{ℕ, ◌-◌, ◌<◌, ◌≤◌, true, false, not, cond, eqb, List, [], ◌∷◌, ◌++◌, Some, ◌≡◌, refl, sym, ap, subst, ◌∙◌, arith, filter, length, length-append, get_or, inl, inr}
use Rattle.std.specs.List.{All, AllPass}
use Rattle.std.specs.Char.{is_ascii_whitespace}
use Rattle.std.specs.Str.{NonePass, NoCharPasses}
use Rattle.std.specs.Str.Iter.{CutsAsciiWord, IsAsciiSeparator}
use Rattle.std.specs.Prelude.{encode_utf8, encode_utf8_all}
use Rattle.std.specs.Borrow.{Bor}
use Rattle.std.proofs.lemmas.Bool.{ne_eqb, cases_lt, lt-leb}
use Rattle.std.proofs.lemmas.List.{append-nil, get_or-append_right, get_or_default, nil_from_length}
use Rattle.std.proofs.lemmas.List.Elements.{All-head, All-tail}
use Rattle.std.proofs.lemmas.List.Splits.{slice_split-cons_yes, slice_split_none, slice_split_at}
use Rattle.std.proofs.lemmas.Str.{inside_one}
use Rattle.svc_fds.specs.Messages.{joined_words}

word_kept : (x : List ℕ) → 0 < length x → not (eqb (length x) 0) ≡ true
word_kept x some = ap not (ne_eqb (length x) 0 (λ e. absurd (omega arith)))

-- blanks before a word change nothing
joined_words-gap : (gap rest : List ℕ) → AllPass is_ascii_whitespace gap → joined_words (gap ++ rest) ≡ joined_words rest
joined_words-gap [] rest blank = refl
joined_words-gap (b ∷ gap) rest blank =
    ap (λ parts. filter (λ word. not (eqb (length word) 0)) parts)
    (slice_split-cons_yes is_ascii_whitespace b (gap ++ rest) (All-head (λ c. is_ascii_whitespace c ≡ true) b gap blank))
    ∙ joined_words-gap gap rest (All-tail (λ c. is_ascii_whitespace c ≡ true) b gap blank)

-- blanks alone have no word
pub joined_words-blanks : (bytes : List ℕ) → AllPass is_ascii_whitespace bytes → joined_words bytes ≡ []
joined_words-blanks bytes blank = ap joined_words (sym (append-nil bytes)) ∙ joined_words-gap bytes [] blank

-- a word that nothing follows
pub joined_words-last : (x : List ℕ) → 0 < length x → All (λ c. is_ascii_whitespace c ≡ false) x → joined_words x ≡ x ∷ []
joined_words-last x some plain =
    ap (λ parts. filter (λ word. not (eqb (length word) 0)) parts) (slice_split_none is_ascii_whitespace x plain)
    ∙ ap (λ b. cond b (x ∷ []) []) (word_kept x some)

-- a word, a blank, and the rest
pub joined_words-next : (x : List ℕ) (y : ℕ) (rest : List ℕ) → 0 < length x → All (λ c. is_ascii_whitespace c ≡ false) x → is_ascii_whitespace y ≡ true
    → joined_words (x ++ y ∷ rest) ≡ x ∷ joined_words rest
joined_words-next x y rest some plain blank =
    ap (λ parts. filter (λ word. not (eqb (length word) 0)) parts) (slice_split_at is_ascii_whitespace x y rest plain blank)
    ∙ ap (λ b. cond b (x ∷ joined_words rest) (joined_words rest)) (word_kept x some)

joined_words-word : (x sep rest : List ℕ) → 0 < length x → All (λ c. is_ascii_whitespace c ≡ false) x → IsAsciiSeparator sep rest
    → joined_words (x ++ (sep ++ rest)) ≡ x ∷ joined_words rest
joined_words-word x [] rest some plain apart =
    let none : rest ≡ [] = nil_from_length rest (apart.2 refl) in
    ap (λ r. joined_words (x ++ r)) none ∙ ap joined_words (append-nil x) ∙ joined_words-last x some plain ∙ ap (λ r. x ∷ joined_words r) (sym none)
joined_words-word x (y ∷ []) rest some plain apart = joined_words-next x y rest some plain (All-head (λ c. is_ascii_whitespace c ≡ true) y [] apart.0)
joined_words-word x (y ∷ z ∷ sep) rest some plain apart = absurd (let short : length (y ∷ z ∷ sep) ≤ 1 = apart.1 in omega arith)

-- a byte from 128 on is no blank
pub high : (b : ℕ) → 128 ≤ b → is_ascii_whitespace b ≡ false
high b above =
    let e : eqb 0 0 ≡ true = refl in
    rw (lt-leb b 10 (omega arith), lt-leb b 13 (omega arith), lt-leb b 32 (omega arith)) (grind arith)

-- a text without blank characters has no blank byte
bytes-plain : (cs : List ℕ) → NonePass is_ascii_whitespace cs → (k : ℕ) → k < length (encode_utf8_all cs)
    → is_ascii_whitespace (get_or (encode_utf8_all cs) k 0) ≡ false
bytes-plain [] none k inside = absurd (omega arith)
bytes-plain (c ∷ cs) none k inside =
    elim (cases_lt k (length (encode_utf8 c))) [
      | inl here ↦ elim (cases_lt (get_or (encode_utf8 c ++ encode_utf8_all cs) k 0) 128) [
        | inl low ↦ subst (λ b. is_ascii_whitespace b ≡ false) (inside_one c (encode_utf8_all cs) (encode_utf8 c ++ encode_utf8_all cs) k refl here low) none.0
        | inr above ↦ high (get_or (encode_utf8 c ++ encode_utf8_all cs) k 0) above
      ]
      | inr there ↦
          subst (λ b. is_ascii_whitespace b ≡ false) (sym (get_or-append_right (encode_utf8 c) (encode_utf8_all cs) (length (encode_utf8 c)) k 0 refl there))
          (bytes-plain cs none.1 (k - length (encode_utf8 c)) (let n = length-append (encode_utf8 c) (encode_utf8_all cs) in omega arith))
    ]

plain : (x : List ℕ) → NoCharPasses is_ascii_whitespace x → All (λ c. is_ascii_whitespace c ≡ false) x
plain x none = λ k d inside.
    subst (λ b. is_ascii_whitespace b ≡ false) (get_or_default x k 0 d inside)
    (subst (λ bytes. is_ascii_whitespace (get_or bytes k 0) ≡ false) none.1
    (bytes-plain none.0 none.2 k (subst (λ bytes. k < length bytes) (sym none.1) inside)))

-- one word more is cut off
pub joined_words-cut : (bytes rest : List ℕ) (x : Bor (List ℕ)) → CutsAsciiWord bytes (Some x) rest (λ gap word sep. gap ++ (word ++ (sep ++ rest)))
    → joined_words bytes ≡ x.now ∷ joined_words rest
joined_words-cut bytes rest x cut =
    let parts = cut.3 in
    ap joined_words parts.2 ∙ joined_words-gap parts.0 (x.now ++ (parts.1 ++ rest)) parts.3
    ∙ joined_words-word x.now parts.1 rest cut.0 (plain x.now cut.1) parts.4
