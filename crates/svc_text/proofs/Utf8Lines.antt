-- The lines of a text in UTF-8 are texts in UTF-8.
use Rattle.std.proofs.Common.{◌≡◌, ◌≢◌, ℕ, ◌+◌, ◌-◌, ◌==◌, true, List, [], ◌∷◌, ◌++◌, length, get_or, take, drop, position, Option, Some, None, inl, inr, refl, sym, ap, subst, ◌∙◌, arith}
use Rattle.std.specs.Prelude.{slice_index}
use Rattle.std.specs.Str.{IsUtf8, is_utf8}
use Rattle.std.specs.Str.Lines.{lines, strip_carriage_return}
use Rattle.std.proofs.lemmas.Bool.{eqb-true, cases_Bool}
use Rattle.std.proofs.lemmas.List.{get_or_past, get_or_push, get_or_append_left, length-append}
use Rattle.std.proofs.lemmas.List.Quantifiers.{position-Some}
use Rattle.std.proofs.lemmas.Str.{IsUtf8-nil, IsUtf8-take, IsUtf8-drop, IsCharBoundary-before_ascii, IsCharBoundary-after_ascii, is_utf8-from_IsUtf8}
use Rattle.std.proofs.Math.Seq.{drop-append_seam}
use Rattle.svc_base.specs.Words.{is_feed, IsCut}
use Rattle.svc_base.proofs.LineLemmas.{one_line, line_cut}

stripped : (xs : List ℕ) → IsUtf8 xs → IsUtf8 (strip_carriage_return xs)
stripped xs u =
    elim (cases_Bool (slice_index xs (length xs - 1) == 13)) [
      | inl is ↦
          let last : get_or xs (length xs - 1) 0 ≡ 13 = eqb-true (slice_index xs (length xs - 1)) 13 is in
          let some : length xs ≢ 0 =
          λ z. absurd (let e : slice_index xs (length xs - 1) ≡ 0 = get_or_past xs (length xs - 1) 0 (omega (arith, z)) in omega (arith, e, last)) in
          rw is (IsUtf8-take xs (length xs - 1) u (IsCharBoundary-before_ascii xs (length xs - 1) (omega (arith, some)) (omega (arith, last))))
      | inr other ↦ rw other u
    ]

line_before : (text line : List ℕ) (more : List (List ℕ)) (k : ℕ) → IsUtf8 text → lines text ≡ line ∷ more → position is_feed text ≡ Some k → IsUtf8 line
line_before text line more k u h e =
    let p = position-Some is_feed text k 0 e in
    let feed : get_or text k 0 ≡ 10 = eqb-true (get_or text k 0) 10 p.1 in
    let cut = line_cut text k (strip_carriage_return (take k text)) (take (length text - (k + 1)) (drop (k + 1) text)) e refl refl in
    let is : strip_carriage_return (take k text) ≡ line = cc in
    subst IsUtf8 is (stripped (take k text) (IsUtf8-take text k u (IsCharBoundary-before_ascii text k p.0 (omega (arith, feed)))))

line_alone : (text line : List ℕ) (more : List (List ℕ)) → IsUtf8 text → lines text ≡ line ∷ more → position is_feed text ≡ None → IsUtf8 line
line_alone [] line more u h e = absurd (cc)
line_alone (b ∷ bs) line more u h e =
    let one : lines (b ∷ bs) ≡ (b ∷ bs) ∷ [] = one_line (b ∷ bs) (omega arith) e in
    let is : (b ∷ bs) ≡ line = cc in
    subst IsUtf8 is u

-- the first line
first_line : (text line : List ℕ) (more : List (List ℕ)) → IsUtf8 text → lines text ≡ line ∷ more → IsUtf8 line
first_line text line more u h = by_place (position is_feed text) refl
  where
    by_place : (o : Option ℕ) → position is_feed text ≡ o → IsUtf8 line
    by_place None e = line_alone text line more u h e
    by_place (Some k) e = line_before text line more k u h e

-- what follows a line feed
behind_feed : (text front after : List ℕ) → IsUtf8 text → text ≡ (front ++ 10 ∷ []) ++ after → IsUtf8 after
behind_feed text front after u e =
    let chunk : List ℕ = front ++ 10 ∷ [] in
    let len : length chunk ≡ length front + 1 = length-append front (10 ∷ []) in
    let at : get_or text (length front) 0 ≡ 10 =
    ap (λ (xs : List ℕ). get_or xs (length front) 0) e ∙ get_or_append_left chunk after 0 (length front) (omega (arith, len))
    ∙ get_or_push front 10 0 (length front) (omega arith) in
    let all : length text ≡ length chunk + length after = ap length e ∙ length-append chunk after in
    let rest : drop (length front + 1) text ≡ after = rw (← len, e) (drop-append_seam chunk after) in
    subst IsUtf8 rest (IsUtf8-drop text (length front + 1) u (IsCharBoundary-after_ascii text (length front) u (omega (arith, len, all)) (omega (arith, at))))

after_line : (text line after : List ℕ) → IsUtf8 text → IsCut text line after → IsUtf8 after
after_line text line after u cut =
    elim cut.ends [
      | inl (front, e) ↦ behind_feed text front after u (cut.whole ∙ ap (λ (chunk : List ℕ). chunk ++ after) e)
      | inr none ↦ subst IsUtf8 (sym none) IsUtf8-nil
    ]

-- a line that is cut off, and what follows it
pub cut_text : (text line after : List ℕ) → IsUtf8 text → lines text ≡ line ∷ lines after → IsCut text line after → (is_utf8 line ≡ true) × IsUtf8 after
cut_text text line after u h cut = (is_utf8-from_IsUtf8 line (first_line text line (lines after) u h), after_line text line after u cut)
