-- The lines of a block, one after the other.
use Rattle.std.proofs.Common.{◌≡◌, ℕ, ◌+◌, ◌<◌, ◌≤◌, Bool, true, false, List, [], ◌∷◌, ◌++◌, length, Option, Some, None, refl, sym, ap, ◌∙◌, append_assoc, append-nil, arith, if◌then◌else◌}
use Rattle.std.specs.Prelude.{codes}
use Rattle.std.specs.List.{list_all}
use Rattle.std.specs.Str.Lines.{lines}
use Rattle.std.proofs.lemmas.Bool.{and_parts}
use Rattle.svc_base.specs.Words.{is_feed}
use Rattle.svc_text.specs.Script.{is_header}
use Rattle.svc_main.proofs.PieceLemmas.{none_of, lines_none}
use Rattle.svc_main.specs.TextLines.{part_with}
use Rattle.svc_main.proofs.TextLemmas.{IsWhole, Writes, line_written, one_at_most}
use Rattle.svc_generations.specs.declared.block_text.BlockText.{BlockText}
use Rattle.svc_generations.specs.Inputs.{is_mark, block_lines, behind_block, script_lines, makes_daemon, daemon_from}
use Rattle.svc_generations.specs.BlockTexts.{daemon_with, ends_block}

pub if_off : {X : Type 0} (b : Bool) (x y : X) → b ≡ false → (if b then x else y) ≡ y
if_off true x y e = absurd (cc)
if_off false x y e = refl

pub if_on : {X : Type 0} (b : Bool) (x y : X) → b ≡ true → (if b then x else y) ≡ x
if_on true x y e = refl
if_on false x y e = absurd (cc)

-- the first line that makes the server a daemon, where these follow
abbrev pub daemon_then : Option ℕ → ℕ → ℕ → List (List ℕ) → Option ℕ
daemon_then (Some n) part passed ls = Some n
daemon_then None part passed ls = daemon_from part passed ls

daemon_more : (o : Option ℕ) (part passed : ℕ) (line : List ℕ) (ls : List (List ℕ))
    → daemon_then (daemon_with o part passed line) (part_with part line) (passed + 1) ls ≡ daemon_then o part passed (line ∷ ls)
daemon_more (Some n) part passed line ls = refl
daemon_more None part passed line ls = by (makes_daemon part line)
  where
    by : (b : Bool)
        → daemon_then (if b then Some (passed + 1) else None) (part_with part line) (passed + 1) ls
        ≡ (if b then Some (passed + 1) else daemon_from (part_with part line) (passed + 1) ls)
    by true = refl
    by false = refl

-- the lines before the rest are those of the text
pub record HasBlock (all rest : List ℕ) (b : BlockText) : Type 0 where
  pub whole : IsWhole b.text.items
  pub said : lines b.text.items ++ block_lines (lines rest) ≡ block_lines (lines all)
  pub behind : behind_block (lines rest) ≡ behind_block (lines all)
  pub counted : b.count + length (block_lines (lines rest)) ≡ length (block_lines (lines all))
  pub daemon : daemon_then b.daemon b.part b.count (block_lines (lines rest)) ≡ daemon_from 0 0 (block_lines (lines all))
  pub room : b.count + length rest ≤ length all
  pub parts : b.part ≤ b.count

pub block_none : (all : List ℕ) (b : BlockText) → b.text.items ≡ [] → b.count ≡ 0 → b.part ≡ 0 → b.daemon ≡ None → HasBlock all all b
block_none all b text count part daemon = record {
  whole = record { splits = λ more. rw text refl };
  said = rw text refl;
  behind = refl;
  counted = omega (arith, count);
  daemon = rw (daemon, part, count) refl;
  room = omega (arith, count);
  parts = omega (arith, count, part);
}

pub block_more : (all rest line after : List ℕ) (b c : BlockText) → HasBlock all rest b → lines rest ≡ line ∷ lines after → is_mark line ≡ false
    → length after < length rest → c.text.items ≡ b.text.items ++ (line ++ 13 ∷ 10 ∷ []) → c.count ≡ b.count + 1
    → c.part ≡ part_with b.part line → c.daemon ≡ daemon_with b.daemon b.part b.count line → HasBlock all after c
block_more all rest line after b c h first clear shorter written count part daemon =
    let each = rw first at (lines_none rest) in
    let none = (and_parts (none_of is_feed line) (list_all (none_of is_feed) (lines after)) each).0 in
    let w : Writes b.text.items line c.text.items = line_written b.text.items line c.text.items h.whole none written in
    let inner : block_lines (lines rest) ≡ line ∷ block_lines (lines after) =
    ap block_lines first ∙ if_off (is_mark line) [] (line ∷ block_lines (lines after)) clear in
    let few : (if is_header line then 1 else 0) ≤ 1 = one_at_most (is_header line) in
    record {
      whole = w.whole;
      said =
          ap (λ (ls : List (List ℕ)). ls ++ block_lines (lines after)) w.lines_are
          ∙ append_assoc (lines b.text.items) (line ∷ []) (block_lines (lines after))
          ∙ ap (λ (ls : List (List ℕ)). lines b.text.items ++ ls) (sym inner)
          ∙ h.said;
      behind = sym (ap behind_block first ∙ if_off (is_mark line) (line ∷ lines after) (behind_block (lines after)) clear) ∙ h.behind;
      counted = omega (arith, h.counted, ap length inner, count);
      daemon =
          ap (λ (o : Option ℕ). daemon_then o c.part c.count (block_lines (lines after))) daemon
          ∙ ap (λ (n : ℕ). daemon_then (daemon_with b.daemon b.part b.count line) n c.count (block_lines (lines after))) part
          ∙ ap (λ (n : ℕ). daemon_then (daemon_with b.daemon b.part b.count line) (part_with b.part line) n (block_lines (lines after))) count
          ∙ daemon_more b.daemon b.part b.count line (block_lines (lines after))
          ∙ ap (daemon_then b.daemon b.part b.count) (sym inner)
          ∙ h.daemon;
      room = omega (arith, h.room, shorter, count);
      parts = omega (arith, h.parts, part, count, few);
    }

-- behind the last line of a block
block_ends : (ls : List (List ℕ)) → ends_block ls ≡ true → block_lines ls ≡ []
block_ends [] e = refl
block_ends (line ∷ more) e = if_on (is_mark line) [] (line ∷ block_lines more) e

behind_ends : (ls : List (List ℕ)) → ends_block ls ≡ true → behind_block ls ≡ ls
behind_ends [] e = refl
behind_ends (line ∷ more) e = if_on (is_mark line) (line ∷ more) (behind_block more) e

-- the whole block, with the line that begins the events
pub record ReadsAll (all rest new : List ℕ) (b : BlockText) : Type 0 where
  pub lines_are : lines new ≡ script_lines (block_lines (lines all))
  pub count : b.count ≡ length (block_lines (lines all))
  pub daemon : b.daemon ≡ daemon_from 0 0 (block_lines (lines all))
  pub rest_is : lines rest ≡ behind_block (lines all)

daemon_here : (o : Option ℕ) (part passed : ℕ) → daemon_then o part passed [] ≡ o
daemon_here (Some n) part passed = refl
daemon_here None part passed = refl

pub block_all : (all rest new : List ℕ) (b : BlockText) → HasBlock all rest b → ends_block (lines rest) ≡ true
    → new ≡ b.text.items ++ (codes "%events" ++ 13 ∷ 10 ∷ []) → ReadsAll all rest new b
block_all all rest new b h ends written =
    let none : block_lines (lines rest) ≡ [] = block_ends (lines rest) ends in
    let w : Writes b.text.items (codes "%events") new = line_written b.text.items (codes "%events") new h.whole refl written in
    let own : lines b.text.items ≡ block_lines (lines all) =
    sym (append-nil (lines b.text.items)) ∙ ap (λ (ls : List (List ℕ)). lines b.text.items ++ ls) (sym none) ∙ h.said in
    record {
      lines_are = w.lines_are ∙ ap script_lines own;
      count = omega (arith, h.counted, ap length none);
      daemon = sym (daemon_here b.daemon b.part b.count) ∙ ap (daemon_then b.daemon b.part b.count) (sym none) ∙ h.daemon;
      rest_is = sym (behind_ends (lines rest) ends) ∙ h.behind;
    }
