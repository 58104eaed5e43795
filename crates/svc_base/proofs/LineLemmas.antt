-- How `lines` goes along a text.
use Rattle.std.proofs.Common.{◌≡◌, ◌≢◌, ℕ, zero, suc, ◌+◌, ◌-◌, ◌<◌, ◌==◌, false, eqb, List, [], ◌∷◌, ◌++◌, length, get_or, take, drop, position, All, Some, None, inl, inr, refl, sym, ap, subst, ◌∙◌, arith, add-one}
use Rattle.std.specs.List.{slice_split}
use Rattle.std.specs.Str.Lines.{lines, lines_of_parts, strip_carriage_return}
use Rattle.std.specs.Str.{IsAscii, IsUtf8}
use Rattle.std.specs.Prelude.{slice_index}
use Rattle.std.proofs.lemmas.Str.{IsUtf8-append, IsUtf8-from_ascii}
use Rattle.std.proofs.lemmas.Bool.{ne_eqb, eqb-true, cases_Bool}
use Rattle.std.proofs.lemmas.List.{take-append-drop, take_more, append-nil, get_or-take, get_or_default, get_or_past, length-take-le}
use Rattle.std.proofs.lemmas.List.Quantifiers.{position-Some}
use Rattle.std.proofs.lemmas.List.Splits.{slice_split_at, slice_split_none, length-slice_split}
use Rattle.std.proofs.Math.Seq.{drop-cons, take-length}
use Rattle.svc_base.specs.Words.{is_feed, IsCut}
use Rattle.svc_base.proofs.CutLemmas.{none_before}
use Rattle.svc_base.proofs.Pieces.{rest_whole}

-- the lines where the last part is not empty of parts
pub parts_then : (x : List ℕ) (parts : List (List ℕ)) → 0 < length parts → lines_of_parts (x ∷ parts) ≡ strip_carriage_return x ∷ lines_of_parts parts
parts_then x [] h = absurd (omega arith)
parts_then x (y ∷ more) h = refl

pub lines-then : (xs ys : List ℕ) → All (λ b. is_feed b ≡ false) xs → lines (xs ++ 10 ∷ ys) ≡ strip_carriage_return xs ∷ lines ys
lines-then xs ys clear =
    ap lines_of_parts (slice_split_at is_feed xs 10 ys clear refl) ∙ parts_then xs (slice_split is_feed ys) (omega (arith, length-slice_split is_feed ys))

pub lines-last : (xs : List ℕ) → 0 < length xs → All (λ b. is_feed b ≡ false) xs → lines xs ≡ xs ∷ []
lines-last xs some clear = ap lines_of_parts (slice_split_none is_feed xs clear) ∙ one_part xs some
  where
    one_part : (x : List ℕ) → 0 < length x → lines_of_parts (x ∷ []) ≡ x ∷ []
    one_part x h = let e : eqb (length x) 0 ≡ false = ne_eqb (length x) 0 (λ z. omega arith) in rw e refl

pub one_line : (text : List ℕ) → 0 < length text → position is_feed text ≡ None → lines text ≡ text ∷ []
one_line text some e = lines-last text some (λ k d lt. ap is_feed (get_or_default text k d 0 lt) ∙ none_before is_feed text e k lt)

pub line_cut : (text : List ℕ) (k : ℕ) (line rest : List ℕ) → position is_feed text ≡ Some k → line ≡ strip_carriage_return (take k text)
    → rest ≡ take (length text - (k + 1)) (drop (k + 1) text) → lines text ≡ line ∷ lines rest
line_cut text k line rest e hl hr =
    let p = position-Some is_feed text k 0 e in
    let lt : k < length text = p.0 in
    let feed : get_or text k 0 ≡ 10 = eqb-true (get_or text k 0) 10 p.1 in
    let cut : drop k text ≡ get_or text k 0 ∷ drop (suc k) text = drop-cons text k 0 lt in
    let whole : take k text ++ (10 ∷ drop (suc k) text) ≡ text = rw (← feed, ← cut) (take-append-drop k text) in
    let len : length (take k text) ≡ k = length-take-le k text (omega arith) in
    let clear : All (λ b. is_feed b ≡ false) (take k text) =
    λ j d below. let b : j < k = omega arith in
    let e' : get_or (take k text) j d ≡ get_or text j 0 = get_or-take k text j d b ∙ get_or_default text j d 0 (omega arith) in ap is_feed e'
    ∙ p.2 j b in
    let after : rest ≡ drop (suc k) text = hr ∙ rest_whole (k + 1) text ∙ rw add-one refl in
    ap lines (sym whole) ∙ lines-then (take k text) (drop (suc k) text) clear ∙ rw (hl, after) refl

-- ---- a line with what ends it

ascii_one : (b : ℕ) → b < 128 → IsAscii (b ∷ [])
ascii_one b lt zero = lt
ascii_one b lt (suc i) = omega arith

-- a line, and the carriage return that perhaps follows it
returned : (xs : List ℕ) → IsUtf8 (strip_carriage_return xs) → IsUtf8 xs
returned xs u =
    elim (cases_Bool (slice_index xs (length xs - 1) == 13)) [
      | inl is ↦
          let some : length xs ≢ 0 =
          λ z. absurd (let e : slice_index xs (length xs - 1) ≡ 0 = get_or_past xs (length xs - 1) 0 (omega (arith, z)) in
          omega (arith, e, eqb-true (slice_index xs (length xs - 1)) 13 is)) in
          let short : strip_carriage_return xs ≡ take (length xs - 1) xs = rw is refl in
          let last : get_or xs (length xs - 1) 0 ≡ 13 = eqb-true (slice_index xs (length xs - 1)) 13 is in
          let near : length xs - 1 < length xs = omega (arith, some) in
          let more : take ((length xs - 1) + 1) xs ≡ take (length xs - 1) xs ++ get_or xs (length xs - 1) 0 ∷ [] = take_more xs (length xs - 1) 0 near in
          let all : (length xs - 1) + 1 ≡ length xs = omega (arith, near) in
          let whole : take (length xs - 1) xs ++ 13 ∷ [] ≡ xs =
          ap (λ (b : ℕ). take (length xs - 1) xs ++ b ∷ []) (sym last) ∙ sym more ∙ ap (λ (n : ℕ). take n xs) all ∙ take-length xs in
          subst IsUtf8 whole (IsUtf8-append _ (13 ∷ []) (subst IsUtf8 short u) (IsUtf8-from_ascii (13 ∷ []) (ascii_one 13 (omega arith))))
      | inr other ↦ subst IsUtf8 (rw other refl) u
    ]

-- the last line, which has no line feed
pub cut_last : (text : List ℕ) → 0 < length text → position is_feed text ≡ None → IsCut text text []
cut_last text some e = record {
  chunk = text;
  whole = sym (append-nil text);
  one = one_line text some e;
  is_text = λ u. u;
  ends = inr refl;
}

pub cut_line : (text : List ℕ) (k : ℕ) (line rest : List ℕ) → position is_feed text ≡ Some k → line ≡ strip_carriage_return (take k text)
    → rest ≡ take (length text - (k + 1)) (drop (k + 1) text) → IsCut text line rest
cut_line text k line rest e hl hr =
    let p = position-Some is_feed text k 0 e in
    let feed : get_or text k 0 ≡ 10 = eqb-true (get_or text k 0) 10 p.1 in
    let chunk_is : take (k + 1) text ≡ take k text ++ 10 ∷ [] = take_more text k 0 p.0 ∙ ap (λ (b : ℕ). take k text ++ b ∷ []) feed in
    let len : length (take k text) ≡ k = length-take-le k text (omega (arith, p.0)) in
    let clear : All (λ b. is_feed b ≡ false) (take k text) =
    λ j d below. let b : j < k = omega (arith, below, len) in
    let e' : get_or (take k text) j d ≡ get_or text j 0 = get_or-take k text j d b ∙ get_or_default text j d 0 (omega (arith, b, p.0)) in ap is_feed e'
    ∙ p.2 j b in
    record {
      chunk = take k text ++ 10 ∷ [];
      whole = sym (take-append-drop (k + 1) text) ∙ ap (λ (xs : List ℕ). xs ++ drop (k + 1) text) chunk_is
          ∙ ap (λ (xs : List ℕ). (take k text ++ 10 ∷ []) ++ xs) (sym (hr ∙ rest_whole (k + 1) text));
      one = lines-then (take k text) [] clear ∙ ap (λ (l : List ℕ). l ∷ []) (sym hl);
      is_text = λ u. IsUtf8-append (take k text) (10 ∷ []) (returned (take k text) (subst IsUtf8 hl u))
          (IsUtf8-from_ascii (10 ∷ []) (ascii_one 10 (omega arith)));
      ends = inl (take k text, refl);
    }
