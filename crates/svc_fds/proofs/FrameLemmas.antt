-- Words that stand one after the other, each after its length: just the frames of words are read, and as these words.
use Rattle.std.proofs.Common.{ℕ, zero, suc, ◌+◌, ◌^◌, ◌<◌, ◌≤◌, true, false, ◌&&◌, eqb, ltb, leb, List, [], ◌∷◌, ◌++◌, Option, Some, None, ◌≡◌, refl, sym, ap, subst, ◌∙◌, arith, length, length-append, take, drop, get_or, append_assoc, inl, inr, IsUtf8, position, MatchOption, IfSome, Result, Ok, Err, IfOk}
use Rattle.std.specs.Fmt.{decimal}
use Rattle.std.specs.List.{flat_map, position_or_len, before_first, after_first}
use Rattle.std.specs.Option.{option_map, option_and_then}
use Rattle.std.specs.Str.{is_utf8, bytes_eq}
use Rattle.std.specs.Borrow.{Bor}
use Rattle.std.specs.Str.Parse.{digits_value}
use Rattle.std.proofs.Math.Seq.{take-append_seam, drop-append_seam, drop-append-add, get_or-append_seam}
use Rattle.std.proofs.Math.ListN.{drop_of_length-le}
use Rattle.std.proofs.lemmas.Bool.{cases_Bool, cases_lt, and_parts, ltb-true, leb-true, lt-ltb, le-leb, eqb-true, ne_eqb}
use Rattle.std.proofs.lemmas.List.{get_or_append_left, take-append-drop, length-take-le}
use Rattle.std.proofs.lemmas.List.Elements.{All-nil, All-cons, All-head, All-tail}
use Rattle.std.proofs.lemmas.List.Sums.{position_or_len_is, split_at_first, passes_at_first}
use Rattle.std.proofs.lemmas.Slice.Eq.{bytes_eq-Decides}
use Rattle.std.proofs.lemmas.Str.{IsUtf8-from_is_utf8, is_utf8-from_IsUtf8}
use Rattle.std.proofs.lemmas.Str.Parse.{digit_at}
use Rattle.std.proofs.lemmas.Fmt.{decimal_is_IsNumeral}
use Rattle.svc_base.specs.Words.{number_of}
use Rattle.svc_base.proofs.DecimalLemmas.{number_of-decimal}
use Rattle.svc_fds.specs.Messages.{frame, cut_word, front_word, joined_words, words_within, framed_words, AreFrames, is_framed, is_well_formed, words}

-- no digit is a colon
plain_digit : (n : ℕ) → n < 2 ^ 64 → (k : ℕ) → k < length (decimal n) → eqb (get_or (decimal n) k 0) 58 ≡ false
plain_digit n small k inside =
    let d = digit_at (decimal n) k (decimal_is_IsNumeral n small).0.1 inside in ne_eqb (get_or (decimal n) k 0) 58 (λ e. absurd (omega arith))

position-frame : (n : ℕ) (rest : List ℕ) → n < 2 ^ 64 → position_or_len (λ b. eqb b 58) (decimal n ++ 58 ∷ rest) ≡ length (decimal n)
position-frame n rest small =
    position_or_len_is (λ b. eqb b 58) (decimal n ++ 58 ∷ rest) (length (decimal n)) 0
    (let size = length-append (decimal n) (58 ∷ rest) in omega arith)
    (λ k before. ap (λ b. eqb b 58) (get_or_append_left (decimal n) (58 ∷ rest) 0 k before) ∙ plain_digit n small k before)
    (λ inside. ap (λ b. eqb b 58) (get_or-append_seam (decimal n) 58 rest 0))

before-frame : (n : ℕ) (rest : List ℕ) → n < 2 ^ 64 → before_first (λ b. eqb b 58) (decimal n ++ 58 ∷ rest) ≡ decimal n
before-frame n rest small = ap (λ k. take k (decimal n ++ 58 ∷ rest)) (position-frame n rest small) ∙ take-append_seam (decimal n) (58 ∷ rest)

after-frame : (n : ℕ) (rest : List ℕ) → n < 2 ^ 64 → after_first (λ b. eqb b 58) (decimal n ++ 58 ∷ rest) ≡ rest
after-frame n rest small = ap (λ k. drop (k + 1) (decimal n ++ 58 ∷ rest)) (position-frame n rest small) ∙ drop-append-add (decimal n) (58 ∷ rest) 1

cut_word-front : (word rest : List ℕ) → 0 < length word → IsUtf8 word → cut_word (length word) (word ++ rest) ≡ Some (word, rest)
cut_word-front word rest some text =
    let size = length-append word rest in
    let inside : length word ≤ length (word ++ rest) = omega arith in
    rw (
      lt-ltb 0 (length word) some,
      le-leb (length word)
          (length (word ++ rest)) inside,
      take-append_seam word rest,
      is_utf8-from_IsUtf8 word text,
      drop-append_seam word rest,
    ) refl

-- the word of a frame is at the front
pub front_word-frame : (word rest : List ℕ) → 0 < length word → length word < 2 ^ 64 → IsUtf8 word → front_word (frame word ++ rest) ≡ Some (word, rest)
unfolding front_word
front_word-frame word rest some small text =
    let n = length word in
    let bytes = decimal n ++ 58 ∷ (word ++ rest) in
    ap front_word (append_assoc (decimal n) (58 ∷ word) rest)
    ∙ ap (λ o. option_and_then (λ m. cut_word m (after_first (λ b. eqb b 58) bytes)) o)
    (ap (number_of (2 ^ 64)) (before-frame n (word ++ rest) small) ∙ number_of-decimal (2 ^ 64) n (omega arith) small)
    ∙ ap (λ after. cut_word n after) (after-frame n (word ++ rest) small)
    ∙ cut_word-front word rest some text

-- a word is at the front of the bytes
pub record IsFront (bytes word rest : List ℕ) : Type 0 where
  pub are : bytes ≡ frame word ++ rest
  pub some : 0 < length word
  pub text : IsUtf8 word

record IsCut (n : ℕ) (bytes word rest : List ℕ) : Type 0 where
  are : bytes ≡ word ++ rest
  size : length word ≡ n
  some : 0 < n
  text : IsUtf8 word

cut_first : (x y : List ℕ × List ℕ) → Some x ≡ Some y → x ≡ y
cut_first x y e = cc

cut_word-is : (n : ℕ) (bytes word rest : List ℕ) → cut_word n bytes ≡ Some (word, rest) → IsCut n bytes word rest
cut_word-is n bytes word rest h = elim (cases_Bool ((ltb 0 n && leb n (length bytes)) && is_utf8 (take n bytes))) [
  | inl fits ↦
      let parts = and_parts (ltb 0 n && leb n (length bytes)) (is_utf8 (take n bytes)) fits in
      let sizes = and_parts (ltb 0 n) (leb n (length bytes)) parts.0 in
      let pair : List ℕ × List ℕ = (word, rest) in
      let whole = cut_first (take n bytes, drop n bytes) pair (rw fits at h) in
      let front : take n bytes ≡ word = ap (λ (x : List ℕ × List ℕ). x.0) whole in
      let back : drop n bytes ≡ rest = ap (λ (x : List ℕ × List ℕ). x.1) whole in
      record {
        are = sym (take-append-drop n bytes) ∙ ap (λ w. w ++ drop n bytes) front ∙ ap (λ r. word ++ r) back;
        size = ap length (sym front) ∙ length-take-le n bytes (leb-true n (length bytes) sizes.1);
        some = ltb-true 0 n sizes.0;
        text = subst IsUtf8 front (IsUtf8-from_is_utf8 (take n bytes) parts.1);
      }
  | inr off ↦ absurd (let none = rw off at h in cc)
]

number_of-is : (limit : ℕ) (bytes : List ℕ) (n : ℕ) → number_of limit bytes ≡ Some n → (decimal n ≡ bytes) × (n < limit)
unfolding number_of
number_of-is limit bytes n h = elim (cases_Bool (ltb (digits_value 10 bytes) limit && bytes_eq (decimal (digits_value 10 bytes)) bytes)) [
  | inl spelt ↦
      let parts = and_parts (ltb (digits_value 10 bytes) limit) (bytes_eq (decimal (digits_value 10 bytes)) bytes) spelt in
      let found = rw spelt at h in
      let same : digits_value 10 bytes ≡ n = cc in (
        ap decimal (sym same)
            ∙ (bytes_eq-Decides (decimal (digits_value 10 bytes)) bytes).0 parts.1,
        subst (λ m. m < limit) same (ltb-true (digits_value 10 bytes) limit parts.0),
      )
  | inr other ↦ absurd (let none = rw other at h in cc)
]

-- where something follows the first colon, the colon is there
colon_there : (bytes : List ℕ) → 0 < length (after_first (λ b. eqb b 58) bytes)
    → bytes ≡ before_first (λ b. eqb b 58) bytes ++ (58 ∷ after_first (λ b. eqb b 58) bytes)
colon_there bytes some = elim (cases_lt (position_or_len (λ b. eqb b 58) bytes) (length bytes)) [
  | inl inside ↦
      let here : get_or bytes (position_or_len (λ b. eqb b 58) bytes) 0 ≡ 58 = eqb-true _ 58 (passes_at_first (λ b. eqb b 58) bytes 0 inside) in
      split_at_first (λ b. eqb b 58) bytes 0 inside ∙ ap (λ b. before_first (λ b. eqb b 58) bytes ++ (b ∷ after_first (λ b. eqb b 58) bytes)) here
  | inr past ↦ absurd (let none = ap length (drop_of_length-le bytes {i = position_or_len (λ b. eqb b 58) bytes + 1} (omega arith)) in omega arith)
]

-- what is cut off at the front is a frame
pub front_word-is : (bytes word rest : List ℕ) → front_word bytes ≡ Some (word, rest) → IsFront bytes word rest
unfolding front_word
front_word-is bytes word rest h = by (number_of (2 ^ 64) (before_first (λ b. eqb b 58) bytes)) refl h
  where
    by : (o : Option ℕ) → number_of (2 ^ 64) (before_first (λ b. eqb b 58) bytes) ≡ o
        → option_and_then (λ n. cut_word n (after_first (λ b. eqb b 58) bytes)) o ≡ Some (word, rest) → IsFront bytes word rest
    by None e k = absurd (cc)
    by (Some n) e k =
        let after = after_first (λ b. eqb b 58) bytes in
        let cut = cut_word-is n after word rest k in
        let spelt = number_of-is (2 ^ 64) (before_first (λ b. eqb b 58) bytes) n e in
        let size = ap length cut.are ∙ length-append word rest in
        let there = colon_there bytes (let s = cut.size in let m = cut.some in omega arith) in
        record {
          are = there ∙ ap (λ (d : List ℕ). d ++ (58 ∷ after)) (sym spelt.0 ∙ ap decimal (sym cut.size))
              ∙ ap (λ (a : List ℕ). decimal (length word) ++ (58 ∷ a)) cut.are
              ∙ sym (append_assoc (decimal (length word)) (58 ∷ word) rest);
          some = subst (λ m. 0 < m) (sym cut.size) cut.some;
          text = cut.text;
        }

-- what follows is shorter
pub front-shorter : (bytes word rest : List ℕ) → IsFront bytes word rest → length rest < length bytes
front-shorter bytes word rest front =
    let a = ap length front.are in
    let b = length-append (frame word) rest in
    let c = length-append (decimal (length word)) (58 ∷ word) in
    omega arith

pub front-part_shorter : (bytes : List ℕ) (r : Option (Bor (List ℕ) × Bor (List ℕ)))
    → MatchOption r (front_word bytes ≡ None) (λ x. front_word bytes ≡ Some (x.0.now, x.1.now)) → IfSome r (λ x. length x.1.now < length bytes)
front-part_shorter bytes None is = tt
front-part_shorter bytes (Some x) is = front-shorter bytes x.0.now x.1.now (front_word-is bytes x.0.now x.1.now is)

-- more turns than bytes change nothing
within-enough : (m n : ℕ) (bytes : List ℕ) → length bytes ≤ m → length bytes ≤ n → words_within m bytes ≡ words_within n bytes
within-enough zero zero bytes a b = refl
within-enough zero (suc n) [] a b = refl
within-enough zero (suc n) (x ∷ bytes) a b = absurd (omega arith)
within-enough (suc m) zero [] a b = refl
within-enough (suc m) zero (x ∷ bytes) a b = absurd (omega arith)
within-enough (suc m) (suc n) [] a b = refl
within-enough (suc m) (suc n) (x ∷ bytes) a b = by (λ rest shorter. within-enough m n rest (omega arith) (omega arith)) (front_word (x ∷ bytes)) refl
  where
    by : ((rest : List ℕ) → length rest < length (x ∷ bytes) → words_within m rest ≡ words_within n rest) → (o : Option (List ℕ × List ℕ))
        → front_word (x ∷ bytes) ≡ o
        → option_and_then (λ (cut : List ℕ × List ℕ). option_map (λ words. cut.0 ∷ words) (words_within m cut.1)) o
        ≡ option_and_then (λ (cut : List ℕ × List ℕ). option_map (λ words. cut.0 ∷ words) (words_within n cut.1)) o
    by same None e = refl
    by same (Some cut) e =
        ap (λ o. option_map (λ words. cut.0 ∷ words) o) (same cut.1 (front-shorter (x ∷ bytes) cut.0 cut.1 (front_word-is (x ∷ bytes) cut.0 cut.1 e)))

pub framed_words-nil : framed_words [] ≡ Some []
unfolding framed_words
framed_words-nil = refl

-- the word at the front, and those of what follows
pub framed_words-front : (bytes word rest : List ℕ) → front_word bytes ≡ Some (word, rest)
    → framed_words bytes ≡ option_map (λ words. word ∷ words) (framed_words rest)
unfolding framed_words
framed_words-front [] word rest h = absurd (let shorter = front-shorter [] word rest (front_word-is [] word rest h) in omega arith)
framed_words-front (b ∷ bytes) word rest h =
    let shorter = front-shorter (b ∷ bytes) word rest (front_word-is (b ∷ bytes) word rest h) in
    ap (λ o. option_and_then (λ (cut : List ℕ × List ℕ). option_map (λ words. cut.0 ∷ words) (words_within (length bytes) cut.1)) o) h
    ∙ ap (λ o. option_map (λ words. word ∷ words) o) (within-enough (length bytes) (length rest) rest (omega arith) (omega arith))

pub framed_words-none : (bytes : List ℕ) → 0 < length bytes → front_word bytes ≡ None → framed_words bytes ≡ None
unfolding framed_words
framed_words-none [] some h = absurd (omega arith)
framed_words-none (b ∷ bytes) some h =
    ap (λ o. option_and_then (λ (cut : List ℕ × List ℕ). option_map (λ words. cut.0 ∷ words) (words_within (length bytes) cut.1)) o) h

-- the frames of words are read as these words
pub frames-read : (words : List (List ℕ)) (bytes : List ℕ) → length bytes < 2 ^ 64 → AreFrames words bytes → framed_words bytes ≡ Some words
frames-read [] bytes small frames = ap framed_words frames.are ∙ framed_words-nil
frames-read (word ∷ words) bytes small frames =
    let rest = flat_map frame words in
    let some = All-head (λ (w : List ℕ). 0 < length w) word words frames.some in
    let text = All-head (λ (w : List ℕ). IsUtf8 w) word words frames.texts in
    let a = ap length frames.are in
    let b = length-append (frame word) rest in
    let c = length-append (decimal (length word)) (58 ∷ word) in
    let size : length word < 2 ^ 64 = omega arith in
    let rest_small : length rest < 2 ^ 64 = omega arith in
    ap framed_words frames.are
    ∙ framed_words-front (frame word ++ rest) word rest (front_word-frame word rest some size text)
    ∙ ap (λ o. option_map (λ ws. word ∷ ws) o)
    (frames-read words rest rest_small
    (record {
      are = refl;
      some = All-tail (λ (w : List ℕ). 0 < length w) word words frames.some;
      texts = All-tail (λ (w : List ℕ). IsUtf8 w) word words frames.texts;
    }))

one_more : (bytes word rest : List ℕ) (words : List (List ℕ)) → IsFront bytes word rest → AreFrames words rest → AreFrames (word ∷ words) bytes
one_more bytes word rest words front frames = record {
  are = front.are ∙ ap (λ r. frame word ++ r) frames.are;
  some = All-cons (λ (w : List ℕ). 0 < length w) word words front.some frames.some;
  texts = All-cons (λ (w : List ℕ). IsUtf8 w) word words front.text frames.texts;
}

none_left : AreFrames [] []
none_left = record { are = refl; some = All-nil (λ (w : List ℕ). 0 < length w); texts = All-nil (λ (w : List ℕ). IsUtf8 w) }

within-is : (most : ℕ) (bytes : List ℕ) (words : List (List ℕ)) → words_within most bytes ≡ Some words → AreFrames words bytes
within-is zero [] words h = let same : [] ≡ words = cc in subst (λ ws. AreFrames ws []) same none_left
within-is zero (b ∷ bytes) words h = absurd (cc)
within-is (suc most) [] words h = let same : [] ≡ words = cc in subst (λ ws. AreFrames ws []) same none_left
within-is (suc most) (b ∷ bytes) words h = by (λ rest more read. within-is most rest more read) (front_word (b ∷ bytes)) refl h
  where
    by_rest : ((rest : List ℕ) (more : List (List ℕ)) → words_within most rest ≡ Some more → AreFrames more rest) → (cut : List ℕ × List ℕ)
        → front_word (b ∷ bytes) ≡ Some cut → (o : Option (List (List ℕ))) → words_within most cut.1 ≡ o → option_map (λ ws. cut.0 ∷ ws) o ≡ Some words
        → AreFrames words (b ∷ bytes)
    by_rest later cut e None rest k = absurd (cc)
    by_rest later cut e (Some more) rest k =
        let same : cut.0 ∷ more ≡ words = cc in
        subst (λ ws. AreFrames ws (b ∷ bytes)) same (one_more (b ∷ bytes) cut.0 cut.1 more (front_word-is (b ∷ bytes) cut.0 cut.1 e) (later cut.1 more rest))

    by : ((rest : List ℕ) (more : List (List ℕ)) → words_within most rest ≡ Some more → AreFrames more rest) → (o : Option (List ℕ × List ℕ))
        → front_word (b ∷ bytes) ≡ o → option_and_then (λ (cut : List ℕ × List ℕ). option_map (λ ws. cut.0 ∷ ws) (words_within most cut.1)) o ≡ Some words
        → AreFrames words (b ∷ bytes)
    by later None e k = absurd (cc)
    by later (Some cut) e k = by_rest later cut e (words_within most cut.1) refl k

-- and nothing else is read
pub read-frames : (bytes : List ℕ) (words : List (List ℕ)) → framed_words bytes ≡ Some words → AreFrames words bytes
unfolding framed_words
read-frames bytes words h = within-is (length bytes) bytes words h

-- where there is no colon, there is no word at the front
pub front_word-plain : (bytes : List ℕ) → position (λ b. eqb b 58) bytes ≡ None → front_word bytes ≡ None
unfolding front_word
front_word-plain bytes none = elim (cases_lt (position_or_len (λ b. eqb b 58) bytes) (length bytes)) [
  | inl inside ↦ absurd (let found = rw (lt-ltb (position_or_len (λ b. eqb b 58) bytes) (length bytes) inside) at none in cc)
  | inr past ↦
      ap (λ after. option_and_then (λ n. cut_word n after) (number_of (2 ^ 64) (before_first (λ b. eqb b 58) bytes)))
      (drop_of_length-le bytes {i = position_or_len (λ b. eqb b 58) bytes + 1} (omega arith))
      ∙ by (number_of (2 ^ 64) (before_first (λ b. eqb b 58) bytes))
]
  where
    no_word : (n : ℕ) → cut_word n [] ≡ None
    no_word n = elim (cases_Bool (ltb 0 n && leb n 0)) [
      | inl some ↦
          absurd (let parts = and_parts (ltb 0 n) (leb n 0) some in let above = ltb-true 0 n parts.0 in let below = leb-true n 0 parts.1 in omega arith)
      | inr none ↦ rw none refl
    ]

    by : (o : Option ℕ) → option_and_then (λ n. cut_word n []) o ≡ None
    by None = refl
    by (Some n) = no_word n

first_place : (bytes : List ℕ) (at : ℕ) → position (λ b. eqb b 58) bytes ≡ Some at → position_or_len (λ b. eqb b 58) bytes ≡ at
first_place bytes at is = elim (cases_Bool (ltb (position_or_len (λ b. eqb b 58) bytes) (length bytes))) [
  | inl inside ↦ (let found = rw inside at is in cc)
  | inr past ↦ absurd (let none = rw past at is in cc)
]

-- the word at the front, from where the first colon stands
pub front_word-colon : (bytes : List ℕ) (at : ℕ) (o : Option ℕ) → position (λ b. eqb b 58) bytes ≡ Some at → number_of (2 ^ 64) (take at bytes) ≡ o
    → front_word bytes ≡ option_and_then (λ n. cut_word n (drop (at + 1) bytes)) o
unfolding front_word
front_word-colon bytes at o is read =
    ap (λ k. option_and_then (λ n. cut_word n (drop (k + 1) bytes)) (number_of (2 ^ 64) (take k bytes))) (first_place bytes at is)
    ∙ ap (λ x. option_and_then (λ n. cut_word n (drop (at + 1) bytes)) x) read

-- a word that was cut off
pub cut_word-some : (n : ℕ) (bytes word : List ℕ) → (n ≡ 0 → ⊥) → n ≤ length bytes → word ≡ take n bytes → IsUtf8 word
    → cut_word n bytes ≡ Some (word, drop n bytes)
cut_word-some n bytes word some inside same text =
    let above : 0 < n = omega arith in
    rw (lt-ltb 0 n above, le-leb n (length bytes) inside, is_utf8-from_IsUtf8 (take n bytes) (subst IsUtf8 same text), same) refl

-- and one that is no text
pub cut_word-other : (n : ℕ) (bytes : List ℕ) → (IsUtf8 (take n bytes) → ⊥) → cut_word n bytes ≡ None
cut_word-other n bytes other = elim (cases_Bool (is_utf8 (take n bytes))) [
  | inl text ↦ absurd (other (IsUtf8-from_is_utf8 (take n bytes) text))
  | inr off ↦ elim (cases_Bool (ltb 0 n && leb n (length bytes))) [ inl a ↦ rw (a, off) refl | inr a ↦ rw a refl ]
]

-- one word more
pub words-more : (found : List (List ℕ)) (word : List ℕ) (o : Option (List (List ℕ)))
    → option_map (λ ws. (found ++ word ∷ []) ++ ws) o ≡ option_map (λ ws. found ++ ws) (option_map (λ ws. word ∷ ws) o)
words-more found word None = refl
words-more found word (Some ws) = ap (λ x. Some x) (append_assoc found (word ∷ []) ws)

-- what is read after the beginning of version 2
read-framed : {V : Type 0} (items : V → List (List ℕ)) (text : List ℕ) (found : Option V) → is_framed text ≡ true
    → MatchOption found (framed_words (drop 4 text) ≡ None) (λ read. framed_words (drop 4 text) ≡ Some (items read))
    → MatchOption found (is_well_formed text ≡ false) (λ read. (is_well_formed text ≡ true) × (items read ≡ words text))
unfolding is_well_formed words
read-framed items text None begins none = rw (begins, none) refl
read-framed items text (Some read) begins some = rw (begins, some) (refl, refl)

pub read-framed_rest : {V E : Type 0} (r : Result (Option V) E) (items : V → List (List ℕ)) (text rest : List ℕ) → rest ≡ drop 4 text → is_framed text ≡ true
    → IfOk r (λ found. MatchOption found (framed_words rest ≡ None) (λ read. framed_words rest ≡ Some (items read)))
    → IfOk r (λ found. MatchOption found (is_well_formed text ≡ false) (λ read. (is_well_formed text ≡ true) × (items read ≡ words text)))
read-framed_rest {V} (Ok found) items text rest same begins read =
    read-framed items text found begins
    (subst (λ (b : List ℕ). MatchOption found (framed_words b ≡ None) (λ (x : V). framed_words b ≡ Some (items x))) same read)
read-framed_rest (Err e) items text rest same begins read = tt

-- and where a text doesn't begin so
pub read-unframed : (text : List ℕ) → is_framed text ≡ false → (is_well_formed text ≡ true) × (joined_words text ≡ words text)
unfolding is_well_formed words
read-unframed text begins = rw begins (refl, refl)
