-- A text that is written line by line.
use Rattle.std.proofs.Common.{◌≡◌, ℕ, ◌+◌, ◌≤◌, Bool, true, false, not, List, [], ◌∷◌, ◌++◌, refl, sym, ap, ◌∙◌, append_assoc, append-nil, arith, if◌then◌else◌}
use Rattle.std.specs.Str.Lines.{lines}
use Rattle.std.proofs.lemmas.List.Folds.{list_all-append}
use Rattle.svc_base.specs.Words.{is_feed}
use Rattle.svc_base.proofs.LineLemmas.{lines-then}
use Rattle.svc_main.proofs.PieceLemmas.{none_of, none_each, strip-return}

-- the text has whole lines: what is written behind it makes lines of its own
pub record IsWhole (text : List ℕ) : Type 0 where
  pub splits : (more : List ℕ) → lines (text ++ more) ≡ lines text ++ lines more

pub none_both : (p : ℕ → _) (xs ys : List ℕ) → none_of p xs ≡ true → none_of p ys ≡ true → none_of p (xs ++ ys) ≡ true
none_both p xs ys h k = list_all-append (λ x. not (p x)) xs ys ∙ rw (h, k) refl

-- a line that is written
line_first : (line more : List ℕ) → none_of is_feed line ≡ true → lines ((line ++ 13 ∷ 10 ∷ []) ++ more) ≡ line ∷ lines more
line_first line more none =
    let cut : (line ++ 13 ∷ 10 ∷ []) ++ more ≡ (line ++ 13 ∷ []) ++ 10 ∷ more =
    append_assoc line (13 ∷ 10 ∷ []) more ∙ sym (append_assoc line (13 ∷ []) (10 ∷ more)) in
    ap lines cut
    ∙ lines-then (line ++ 13 ∷ []) more (none_each is_feed (line ++ 13 ∷ []) (none_both is_feed line (13 ∷ []) none refl))
    ∙ ap (λ (l : List ℕ). l ∷ lines more) (strip-return line)

pub record Writes (text line new : List ℕ) : Type 0 where
  pub whole : IsWhole new
  pub lines_are : lines new ≡ lines text ++ line ∷ []

pub line_written : (text line new : List ℕ) → IsWhole text → none_of is_feed line ≡ true → new ≡ text ++ (line ++ 13 ∷ 10 ∷ []) → Writes text line new
line_written text line new whole none e = record {
  whole = record { splits = λ more. ap (λ (t : List ℕ). lines (t ++ more)) e ∙ both more ∙ ap (λ (ls : List (List ℕ)). ls ++ lines more) (sym alone) };
  lines_are = alone;
}
  where
    alone : lines new ≡ lines text ++ line ∷ []
    alone = ap lines e ∙ whole.splits (line ++ 13 ∷ 10 ∷ [])
        ∙ ap (λ (ls : List (List ℕ)). lines text ++ ls) (ap lines (sym (append-nil (line ++ 13 ∷ 10 ∷ []))) ∙ line_first line [] none)

    both : (more : List ℕ) → lines ((text ++ (line ++ 13 ∷ 10 ∷ [])) ++ more) ≡ (lines text ++ line ∷ []) ++ lines more
    both more =
        ap lines (append_assoc text (line ++ 13 ∷ 10 ∷ []) more)
        ∙ whole.splits ((line ++ 13 ∷ 10 ∷ []) ++ more)
        ∙ ap (λ (ls : List (List ℕ)). lines text ++ ls) (line_first line more none)
        ∙ sym (append_assoc (lines text) (line ∷ []) (lines more))

-- one more part at most
pub one_at_most : (b : Bool) → (if b then 1 else 0) ≤ 1
one_at_most true = omega arith
one_at_most false = omega arith
