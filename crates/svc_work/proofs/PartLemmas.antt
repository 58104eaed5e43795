-- What was passed of a file's lines, and a line more.
use Rattle.std.proofs.Common.{◌≡◌, ℕ, ◌+◌, ◌-◌, true, false, List, [], ◌∷◌, ◌++◌, length, take, Some, None, refl, sym, ap, ◌∙◌, append_assoc, length-append, arith}
use Rattle.std.proofs.lemmas.List.{take_at}
use Rattle.std.specs.List.{position_from}
use Rattle.std.specs.Str.Lines.{lines}
use Rattle.svc_base.specs.Words.{IsCut}
use Rattle.svc_work.specs.Parts.{is_header, header_at, AreParts}

-- so many lines less one were passed, and none is a header
pub record Passed (bytes rest : List ℕ) (number : ℕ) : Type 0 where
  pub front : List ℕ
  pub whole : bytes ≡ front ++ rest
  pub before : List (List ℕ)
  pub cut : lines bytes ≡ before ++ lines rest
  pub counted : number ≡ length before + 1
  pub place : header_at bytes ≡ position_from is_header number (lines rest)

-- none at first
pub passed_none : (bytes : List ℕ) → Passed bytes bytes 1
passed_none bytes = record {
  front = [];
  whole = refl;
  before = [];
  cut = refl;
  counted = refl;
  place = refl;
}

-- the place of the header where the next line isn't one
place_behind : (number : ℕ) (line : List ℕ) (ls : List (List ℕ)) → is_header line ≡ false
    → position_from is_header number (line ∷ ls) ≡ position_from is_header (number + 1) ls
place_behind number line ls h = rw h refl

place_here : (number : ℕ) (line : List ℕ) (ls : List (List ℕ)) → is_header line ≡ true → position_from is_header number (line ∷ ls) ≡ Some number
place_here number line ls h = rw h refl

-- one more
pub passed_more : (bytes rest line after : List ℕ) (number : ℕ) → Passed bytes rest number → IsCut rest line after → lines rest ≡ line ∷ lines after
    → is_header line ≡ false → Passed bytes after (number + 1)
passed_more bytes rest line after number passed is_cut first h = record {
  front = passed.front ++ is_cut.chunk;
  whole = passed.whole ∙ (ap (λ (l : List ℕ). passed.front ++ l) is_cut.whole ∙ sym (append_assoc passed.front is_cut.chunk after));
  before = passed.before ++ line ∷ [];
  cut = passed.cut ∙ (ap (λ (l : List (List ℕ)). passed.before ++ l) first ∙ sym (append_assoc passed.before (line ∷ []) (lines after)));
  counted =
      let counted : number ≡ length passed.before + 1 = passed.counted in
      let long : length (passed.before ++ line ∷ []) ≡ length passed.before + 1 = length-append passed.before (line ∷ []) in
      omega arith;
  place = passed.place ∙ (ap (λ (l : List (List ℕ)). position_from is_header number l) first ∙ place_behind number line (lines after) h);
}

-- the bytes before the rest
front_of : (front rest : List ℕ) → take (length (front ++ rest) - length rest) (front ++ rest) ≡ front
front_of front rest =
    take_at front rest (length (front ++ rest) - length rest) (omega (arith, length-append front rest))

-- the header
pub header_found : (bytes rest line after : List ℕ) (number : ℕ) → Passed bytes rest number → lines rest ≡ line ∷ lines after
    → is_header line ≡ true → AreParts bytes (take (length bytes - length rest) bytes) after number
header_found bytes rest line after number passed first h =
    let at : header_at bytes ≡ Some number =
    passed.place ∙ (ap (λ (l : List (List ℕ)). position_from is_header number l) first ∙ place_here number line (lines after) h) in
    let front : take (length bytes - length rest) bytes ≡ passed.front =
    ap (λ (l : List ℕ). take (length l - length rest) l) passed.whole ∙ front_of passed.front rest in
    rw at (
      refl,
      record {
        rest = rest;
        whole = passed.whole ∙ ap (λ (l : List ℕ). l ++ rest) (sym front);
        before = passed.before;
        header = line;
        cut = passed.cut;
        begins = first;
        is_one = h;
        counted = passed.counted;
      },
    )

-- no header
pub header_missing : (bytes rest : List ℕ) (number : ℕ) → Passed bytes rest number → lines rest ≡ [] → AreParts bytes bytes [] number
header_missing bytes rest number passed none =
    let at : header_at bytes ≡ None = passed.place ∙ ap (λ (l : List (List ℕ)). position_from is_header number l) none in
    rw at (refl, refl)
