-- What is written of a table, in either version, is read again as the table.
use Rattle.std.proofs.Common.{ℕ, ◌^◌, ◌<◌, ◌≤◌, true, false, not, eqb, leb, List, [], ◌∷◌, ◌++◌, Some, ◌≡◌, refl, sym, ap, ◌∙◌, arith, length, length-append, drop, inl, inr, IsUtf8}
use Rattle.std.specs.Fmt.{decimal}
use Rattle.std.specs.List.{All, list_any, flat_map}
use Rattle.std.specs.Char.{is_ascii_whitespace}
use Rattle.std.proofs.lemmas.Bool.{cases_Bool, and_parts, or_parts, leb-true, le-leb, or_left, or_right, or_cases, eqb-true, eqb-false, not-true, both_ways}
use Rattle.std.proofs.lemmas.List.{append-nil}
use Rattle.std.proofs.lemmas.List.Elements.{All-nil, All-cons}
use Rattle.std.proofs.lemmas.Str.{IsUtf8-append, IsUtf8-nil, IsUtf8-from_ascii}
use Rattle.std.proofs.lemmas.Fmt.{IsAscii-decimal}
use lib.Utf8.{encode as encode_char}
use Rattle.svc_fds.specs.Tables.{Entry, addresses, numbers, IsAscending}
use Rattle.svc_fds.specs.Messages.{AreTexts, has_empty_address, is_unjoinable, has_unjoinable, joined, is_joinable, version_2, frame, framed, is_frameable, is_sayable, message_bytes, framed_words, is_framed, is_well_formed, words, IsMessage, table_of, IsOldMessage, old_table_of}
use Rattle.svc_fds.proofs.PairLemmas.{joined_words-joined, read-addresses, read-joined}
use Rattle.svc_fds.proofs.FrameLemmas.{frames-read}

-- what is joined doesn't begin with a space
unframed : (a rest : List ℕ) → is_unjoinable a ≡ false → is_framed (a ++ rest) ≡ false
unframed [] rest fine = absurd (cc)
unframed (b ∷ a) rest fine =
    let blank = (or_parts (is_ascii_whitespace b) (list_any is_ascii_whitespace a)
    (or_parts (eqb (length (b ∷ a)) 0) (list_any is_ascii_whitespace (b ∷ a)) fine).1).0 in
    elim (cases_Bool (eqb 32 b)) [
      | inl space ↦ absurd (both_ways (is_ascii_whitespace b) blank (ap is_ascii_whitespace (sym (eqb-true 32 b space))))
      | inr other ↦ rw other refl
    ]

joined-unframed : (es : List Entry) → has_unjoinable es ≡ false → is_framed (joined es) ≡ false
joined-unframed [] fine = refl
joined-unframed (e ∷ []) fine = ap is_framed (sym (append-nil e.0)) ∙ unframed e.0 [] (or_parts (is_unjoinable e.0) (has_unjoinable []) fine).0
joined-unframed (e ∷ f ∷ es) fine = unframed e.0 (32 ∷ joined (f ∷ es)) (or_parts (is_unjoinable e.0) (has_unjoinable (f ∷ es)) fine).0

-- joined the addresses are a text
blank : IsUtf8 (32 ∷ [])
unfolding encode_char
blank = (32 ∷ [], (refl, refl))

joined-text : (es : List Entry) → AreTexts es → IsUtf8 (joined es)
joined-text [] texts = IsUtf8-nil
joined-text (e ∷ []) texts = texts.0
joined-text (e ∷ f ∷ es) texts =
    IsUtf8-append e.0 (32 ∷ joined (f ∷ es)) texts.0 (IsUtf8-append (32 ∷ []) (joined (f ∷ es)) blank (joined-text (f ∷ es) texts.1))

-- and framed they are one
beginning : IsUtf8 version_2
unfolding encode_char
beginning = (version_2, (refl, refl))

colon : IsUtf8 (58 ∷ [])
unfolding encode_char
colon = (58 ∷ [], (refl, refl))

frame-text : (word : List ℕ) → length word < 2 ^ 64 → IsUtf8 word → IsUtf8 (frame word)
frame-text word small text =
    IsUtf8-append (decimal (length word)) (58 ∷ word) (IsUtf8-from_ascii (decimal (length word)) (IsAscii-decimal (length word) small))
    (IsUtf8-append (58 ∷ []) word colon text)

frames-text : (es : List Entry) → length (flat_map frame (addresses es)) < 2 ^ 64 → AreTexts es → IsUtf8 (flat_map frame (addresses es))
frames-text [] small texts = IsUtf8-nil
frames-text (e ∷ es) small texts =
    let a = length-append (frame e.0) (flat_map frame (addresses es)) in
    let b = length-append (decimal (length e.0)) (58 ∷ e.0) in
    let here : length e.0 < 2 ^ 64 = omega arith in
    let later : length (flat_map frame (addresses es)) < 2 ^ 64 = omega arith in
    IsUtf8-append (frame e.0) (flat_map frame (addresses es)) (frame-text e.0 here texts.0) (frames-text es later texts.1)

frames-small : (es : List Entry) → is_frameable es ≡ true → length (flat_map frame (addresses es)) < 2 ^ 64
frames-small es fits =
    let size = leb-true (length (framed es)) 65536 (and_parts (not (has_empty_address es)) (leb (length (framed es)) 65536) fits).1 in
    let parts = length-append version_2 (flat_map frame (addresses es)) in
    omega arith

framed-text : (es : List Entry) → is_frameable es ≡ true → AreTexts es → IsUtf8 (framed es)
framed-text es fits texts = IsUtf8-append version_2 (flat_map frame (addresses es)) beginning (frames-text es (frames-small es fits) texts)

-- the words of what is framed are the addresses
some-addresses : (es : List Entry) → has_empty_address es ≡ false → All (λ (w : List ℕ). 0 < length w) (addresses es)
some-addresses [] some = All-nil (λ (w : List ℕ). 0 < length w)
some-addresses (e ∷ es) some =
    let parts = or_parts (eqb (length e.0) 0) (has_empty_address es) some in
    let full : length e.0 ≡ 0 → ⊥ = eqb-false (length e.0) 0 parts.0 in
    All-cons (λ (w : List ℕ). 0 < length w) e.0 (addresses es) (omega arith) (some-addresses es parts.1)

text-addresses : (es : List Entry) → AreTexts es → All (λ (w : List ℕ). IsUtf8 w) (addresses es)
text-addresses [] texts = All-nil (λ (w : List ℕ). IsUtf8 w)
text-addresses (e ∷ es) texts = All-cons (λ (w : List ℕ). IsUtf8 w) e.0 (addresses es) texts.0 (text-addresses es texts.1)

frames-addresses : (es : List Entry) → is_frameable es ≡ true → AreTexts es → framed_words (drop 4 (framed es)) ≡ Some (addresses es)
frames-addresses es fits texts =
    let some = not-true (has_empty_address es) (and_parts (not (has_empty_address es)) (leb (length (framed es)) 65536) fits).0 in
    frames-read (addresses es) (flat_map frame (addresses es)) (frames-small es fits)
    (record { are = refl; some = some-addresses es some; texts = text-addresses es texts })

joinable-fine : (es : List Entry) → is_joinable es ≡ true → has_unjoinable es ≡ false
joinable-fine es fits = not-true (has_unjoinable es) (and_parts (not (has_unjoinable es)) (leb (length (joined es)) 2048) fits).0

frameable-else : (es : List Entry) → is_sayable es ≡ true → is_joinable es ≡ false → is_frameable es ≡ true
unfolding is_sayable
frameable-else es said off = rw off at said

-- what is written where version 1 says the table
pub sayable-joined : (es : List Entry) → is_joinable es ≡ true → is_sayable es ≡ true
unfolding is_sayable
sayable-joined es fits = rw fits refl

pub written-joined : (es : List Entry) → is_joinable es ≡ true → message_bytes es ≡ joined es
unfolding message_bytes
written-joined es fits = rw fits refl

-- and where it doesn't
pub sayable-framed : (es : List Entry) → has_empty_address es ≡ false → length (framed es) ≤ 65536 → is_sayable es ≡ true
unfolding is_sayable
sayable-framed es some short = or_right (is_joinable es) (is_frameable es) (rw (some, le-leb (length (framed es)) 65536 short) refl)

pub written-framed : (es : List Entry) → is_joinable es ≡ false → message_bytes es ≡ framed es
unfolding message_bytes
written-framed es off = rw off refl

-- nothing says an empty address
empty-unjoinable : (es : List Entry) → has_empty_address es ≡ true → has_unjoinable es ≡ true
empty-unjoinable [] h = absurd (cc)
empty-unjoinable (e ∷ es) h = elim (or_cases (eqb (length e.0) 0) (has_empty_address es) h) [
  | inl here ↦ or_left (is_unjoinable e.0) (has_unjoinable es) (or_left (eqb (length e.0) 0) (list_any is_ascii_whitespace e.0) here)
  | inr later ↦ or_right (is_unjoinable e.0) (has_unjoinable es) (empty-unjoinable es later)
]

pub empty-unsayable : (es : List Entry) → has_empty_address es ≡ true → is_sayable es ≡ false
unfolding is_sayable
empty-unsayable es h = rw (empty-unjoinable es h, h) refl

-- nor a table that is too long for both
pub long-unsayable : (es : List Entry) → is_joinable es ≡ false → 65536 < length (framed es) → is_sayable es ≡ false
unfolding is_sayable
long-unsayable es off long = elim (cases_Bool (is_frameable es)) [
  | inl fits ↦
      absurd (let short = leb-true (length (framed es)) 65536 (and_parts (not (has_empty_address es)) (leb (length (framed es)) 65536) fits).1 in omega arith)
  | inr none ↦ rw (off, none) refl
]

-- it has at most 65,536 bytes
pub written-short : (es : List Entry) → is_sayable es ≡ true → length (message_bytes es) ≤ 65536
written-short es said = elim (cases_Bool (is_joinable es)) [
  | inl fits ↦
      let short = leb-true (length (joined es)) 2048 (and_parts (not (has_unjoinable es)) (leb (length (joined es)) 2048) fits).1 in
      let same = ap length (written-joined es fits) in
      omega arith
  | inr off ↦
      let short = leb-true (length (framed es)) 65536
      (and_parts (not (has_empty_address es)) (leb (length (framed es)) 65536) (frameable-else es said off)).1 in
      let same = ap length (written-framed es off) in
      omega arith
]

-- version 2 is written just where version 1 doesn't say the table
pub framed-written : (es : List Entry) → is_framed (message_bytes es) ≡ not (is_joinable es)
unfolding message_bytes
framed-written es = elim (cases_Bool (is_joinable es)) [
  | inl fits ↦ rw fits (joined-unframed es (joinable-fine es fits))
  | inr off ↦ rw off refl
]

-- the words of what is written are the addresses
pub words-written : (es : List Entry) → is_sayable es ≡ true → (is_joinable es ≡ false → AreTexts es)
    → (is_well_formed (message_bytes es) ≡ true) × (words (message_bytes es) ≡ addresses es)
unfolding message_bytes is_well_formed words
words-written es said texts = elim (cases_Bool (is_joinable es)) [
  | inl fits ↦
      let fine = joinable-fine es fits in
      let plain = joined-unframed es fine in
      rw (fits, plain) (refl, joined_words-joined es fine)
  | inr off ↦
      let read = frames-addresses es (frameable-else es said off) (texts off) in
      rw (off, read) (refl, refl)
]

-- what is written of texts is a text
pub written-text : (es : List Entry) → is_sayable es ≡ true → AreTexts es → IsUtf8 (message_bytes es)
unfolding message_bytes
written-text es said texts = elim (cases_Bool (is_joinable es)) [
  | inl fits ↦ rw fits (joined-text es texts)
  | inr off ↦ rw off (framed-text es (frameable-else es said off) texts)
]

-- what is written is read again
pub read-written : (es : List Entry) → IsAscending es → is_sayable es ≡ true → IsUtf8 (message_bytes es) → (is_joinable es ≡ false → AreTexts es)
    → IsMessage (message_bytes es) (length (numbers es)) × (table_of (message_bytes es) (numbers es) ≡ es)
read-written es up said text texts = let read = words-written es said texts in read-addresses es (message_bytes es) up text read.0 read.1

-- and by a reader of version 1 too, where version 1 says the table
pub read-old : (es : List Entry) → IsAscending es → AreTexts es → is_joinable es ≡ true
    → IsOldMessage (message_bytes es) (length (numbers es)) × (old_table_of (message_bytes es) (numbers es) ≡ es)
unfolding message_bytes
read-old es up texts fits = rw fits (read-joined es up (joinable-fine es fits) (joined-text es texts))
