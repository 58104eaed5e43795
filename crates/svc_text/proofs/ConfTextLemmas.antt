-- The text of the configuration, while the lines of a script are passed.
use Rattle.std.proofs.Common.{◌≡◌, ℕ, zero, suc, ◌+◌, ◌-◌, ◌<◌, ◌⊎◌, Bool, true, false, not, ◌==◌, cond, List, [], ◌∷◌, ◌++◌, length, take, drop, map, refl, sym, ap, subst, ◌∙◌, inl, inr, arith, append_assoc}
use Rattle.std.specs.Str.{IsUtf8, is_utf8}
use Rattle.std.specs.Str.Lines.{lines, lines_of_parts, strip_carriage_return}
use Rattle.std.specs.List.{slice_split, onto_first}
use Rattle.std.proofs.lemmas.Bool.{ne_eqb, cases_Bool, and_right, and_parts}
use Rattle.std.proofs.lemmas.List.{append-nil, length-append}
use Rattle.std.proofs.lemmas.List.Splits.{length-slice_split, slice_split-cons_yes, slice_split-cons_no}
use Rattle.std.proofs.lemmas.Str.{IsUtf8-append, IsUtf8-nil, IsUtf8-from_is_utf8}
use Rattle.std.proofs.Math.Seq.{take-append_seam, drop-append_seam}
use Rattle.svc_base.specs.Words.{is_feed, EndsLine, IsCut}
use Rattle.svc_text.specs.declared.reading.Reading.{Reading}
use Rattle.svc_text.specs.Outcome.{After}
use Rattle.svc_text.specs.Script.{section_index, line_fits, is_header, begun, part_of}
use Rattle.svc_text.specs.declared.conf_text.ConfText.{ConfText}
use Rattle.svc_text.specs.ConfTexts.{between, text_at, passed, IsConfText}
use Rattle.svc_base.proofs.LineLemmas.{parts_then}
use Rattle.svc_text.proofs.ScriptLemmas.{HasRead, next_line}
use Rattle.svc_text.proofs.PartLemmas.{begun-push, part_gains, part_stays, part_unbegun}

-- ---- lines of texts that follow each other

onto_front : (x : ℕ) (xss yss : List (List ℕ)) → 0 < length xss → onto_first x (xss ++ yss) ≡ onto_first x xss ++ yss
onto_front x [] yss h = absurd (omega arith)
onto_front x (xs ∷ xss) yss h = refl

split_joined : (xs ys : List ℕ) → slice_split is_feed (xs ++ 10 ∷ ys) ≡ slice_split is_feed xs ++ slice_split is_feed ys
split_joined [] ys = slice_split-cons_yes is_feed 10 ys refl
split_joined (x ∷ xs) ys =
    elim (cases_Bool (is_feed x)) [
      | inl feed ↦
          slice_split-cons_yes is_feed x (xs ++ 10 ∷ ys) feed
          ∙ ap (λ (xss : List (List ℕ)). [] ∷ xss) (split_joined xs ys)
          ∙ ap (λ (xss : List (List ℕ)). xss ++ slice_split is_feed ys) (sym (slice_split-cons_yes is_feed x xs feed))
      | inr other ↦
          slice_split-cons_no is_feed x (xs ++ 10 ∷ ys) other
          ∙ ap (onto_first x) (split_joined xs ys)
          ∙ onto_front x (slice_split is_feed xs) (slice_split is_feed ys) (omega (arith, length-slice_split is_feed xs))
          ∙ ap (λ (xss : List (List ℕ)). xss ++ slice_split is_feed ys) (sym (slice_split-cons_no is_feed x xs other))
    ]

parts_joined : (xss yss : List (List ℕ)) → 0 < length yss → lines_of_parts (xss ++ yss) ≡ map strip_carriage_return xss ++ lines_of_parts yss
parts_joined [] yss h = refl
parts_joined (xs ∷ xss) yss h =
    parts_then xs (xss ++ yss) (omega (arith, length-append xss yss)) ∙ ap (λ (zss : List (List ℕ)). strip_carriage_return xs ∷ zss) (parts_joined xss yss h)

lines_cut : (xs ys : List ℕ) → lines (xs ++ 10 ∷ ys) ≡ map strip_carriage_return (slice_split is_feed xs) ++ lines ys
lines_cut xs ys =
    ap lines_of_parts (split_joined xs ys) ∙ parts_joined (slice_split is_feed xs) (slice_split is_feed ys) (omega (arith, length-slice_split is_feed ys))

pub lines_joined : (xs ys : List ℕ) → EndsLine xs → lines (xs ++ ys) ≡ lines xs ++ lines ys
lines_joined xs ys ends =
    let front = ends.0 in
    let whole : xs ++ ys ≡ front ++ 10 ∷ ys = ap (λ (zs : List ℕ). zs ++ ys) ends.1 ∙ append_assoc front (10 ∷ []) ys in
    let alone : lines xs ≡ map strip_carriage_return (slice_split is_feed front) = ap lines ends.1 ∙ lines_cut front [] ∙ append-nil _ in
    ap lines whole ∙ lines_cut front ys ∙ ap (λ (zss : List (List ℕ)). zss ++ lines ys) (sym alone)

-- ---- a text between two places

pub between_places : (head text rest : List ℕ) (start end : ℕ) → start ≡ length head → end ≡ length head + length text
    → between start end (head ++ (text ++ rest)) ≡ text
between_places head text rest start end s e =
    let len : end - start ≡ length text = omega (arith, s, e) in
    let from : drop start (head ++ (text ++ rest)) ≡ text ++ rest = ap (λ (n : ℕ). drop n (head ++ (text ++ rest))) s ∙ drop-append_seam head (text ++ rest) in
    ap (λ (n : ℕ). take n (drop start (head ++ (text ++ rest)))) len ∙ ap (take (length text)) from ∙ take-append_seam text rest

-- the text that is passed, up to the rest
pub record IsOpen (all rest : List ℕ) (c : ConfText) : Type 0 where
  pub head : List ℕ
  pub text : List ℕ
  pub whole : all ≡ head ++ (text ++ rest)
  pub start_is : c.start ≡ length head
  pub end_is : c.end ≡ length head + length text
  pub ends : ((text ≡ []) ⊎ EndsLine text) ⊎ (rest ≡ [])

open_text : (all rest : List ℕ) (c : ConfText) (o : IsOpen all rest c) → text_at c all ≡ o.text
open_text all rest c o = ap (between c.start c.end) o.whole ∙ between_places o.head o.text rest c.start c.end o.start_is o.end_is

-- the text of the configuration among these lines, with the rest behind them
pub record HasText (all rest : List ℕ) (ls : List (List ℕ)) (c : ConfText) : Type 0 where
  pub conf : IsConfText all ls c
  pub front : List ℕ
  pub front_is : all ≡ front ++ rest
  pub passing : begun ls ≡ 1 → IsOpen all rest c

pub none_passed : (all : List ℕ) → HasText all all [] (record { before = 1; start = 0; end = 0 })
unfolding begun part_of
none_passed all = record {
  conf = record { order = omega arith; inside = omega arith; is_text = IsUtf8-nil; says = refl; before = refl; room = omega arith };
  front = [];
  front_is = refl;
  passing = λ e. absurd (omega (arith, e));
}

-- ---- how one more line changes it

to_before : (c : ConfText) (was now place : ℕ) → now ≡ 0 → passed c was now place ≡ record c { before = c.before + 1 }
to_before c was now place e = rw e refl

to_open : (c : ConfText) (was now place : ℕ) → was ≡ 0 → now ≡ 1 → passed c was now place ≡ record c { start = place; end = place }
to_open c was now place e f = rw (e, f) refl

to_line : (c : ConfText) (was now place : ℕ) → was ≡ 1 → now ≡ 1 → passed c was now place ≡ record c { end = place }
to_line c was now place e f = rw (e, f) refl

to_behind : (c : ConfText) (was now place : ℕ) → 1 < now → passed c was now place ≡ c
to_behind c was now place lt =
    let a : (now == 0) ≡ false = ne_eqb now 0 (λ e. omega (arith, lt, e)) in
    let b : (now == 1) ≡ false = ne_eqb now 1 (λ e. omega (arith, lt, e)) in
    rw (a, b) refl

begun_more : (ls : List (List ℕ)) (line : List ℕ) (n : ℕ) (h : Bool) → begun ls ≡ n → is_header line ≡ h → begun (ls ++ line ∷ []) ≡ n + cond h 1 0
begun_more ls line n h e g = begun-push ls line ∙ ap (λ (m : ℕ). m + cond (is_header line) 1 0) e ∙ ap (λ (b : Bool). n + cond b 1 0) g

-- no part but the one that it stands in gets a line, and none gets one that begins a part
other_part : (k n : ℕ) (ls : List (List ℕ)) (line : List ℕ) → begun ls ≡ n → (n == k) ≡ false → part_of k (ls ++ line ∷ []) ≡ part_of k ls
other_part k n ls line e d =
    let t : (begun ls == k) ≡ false = ap (λ (m : ℕ). m == k) e ∙ d in
    part_stays k ls line (rw t refl)

no_part : (k : ℕ) (ls : List (List ℕ)) (line : List ℕ) → is_header line ≡ true → part_of k (ls ++ line ∷ []) ≡ part_of k ls
no_part k ls line h = part_stays k ls line (and_right (begun ls == k) _ (ap not h))

further : (all rest line after : List ℕ) (front : List ℕ) (k : IsCut rest line after) → all ≡ front ++ rest → all ≡ (front ++ k.chunk) ++ after
further all rest line after front k e = e ∙ ap (λ (xs : List ℕ). front ++ xs) k.whole ∙ sym (append_assoc front k.chunk after)

-- a line before the configuration's part
line_before : (all rest line after : List ℕ) (ls : List (List ℕ)) (c : ConfText) → begun ls ≡ 0 → is_header line ≡ false → HasText all rest ls c
    → IsCut rest line after
    → HasText all after (ls ++ line ∷ []) (record c { before = c.before + 1 })
line_before all rest line after ls c w h t k =
    let zeroth : part_of 0 (ls ++ line ∷ []) ≡ part_of 0 ls ++ line ∷ [] = part_gains 0 ls line w h in
    let first : part_of 1 (ls ++ line ∷ []) ≡ part_of 1 ls = other_part 1 0 ls line w refl in
    let begun_is : begun (ls ++ line ∷ []) ≡ 0 = begun_more ls line 0 false w h in
    record {
      conf = record {
        order = t.conf.order;
        inside = t.conf.inside;
        is_text = t.conf.is_text;
        says = t.conf.says ∙ sym first;
        before = omega (arith, t.conf.before, ap length zeroth, length-append (part_of 0 ls) (line ∷ []));
        room = omega (arith, t.conf.room, ap length first, length-append ls (line ∷ []));
      };
      front = t.front ++ k.chunk;
      front_is = further all rest line after t.front k t.front_is;
      passing = λ e. absurd (omega (arith, e, begun_is));
    }

-- the line that begins the configuration's part
line_opens : (all rest line after : List ℕ) (ls : List (List ℕ)) (c : ConfText) (place : ℕ) → place ≡ length all - length after → begun ls ≡ 0
    → is_header line ≡ true → HasText all rest ls c → IsCut rest line after
    → HasText all after (ls ++ line ∷ []) (record c { start = place; end = place })
line_opens all rest line after ls c place p w h t k =
    let zeroth : part_of 0 (ls ++ line ∷ []) ≡ part_of 0 ls = no_part 0 ls line h in
    let first : part_of 1 (ls ++ line ∷ []) ≡ [] = no_part 1 ls line h ∙ part_unbegun 1 ls (omega (arith, w)) in
    let whole : all ≡ (t.front ++ k.chunk) ++ after = further all rest line after t.front k t.front_is in
    let at : place ≡ length (t.front ++ k.chunk) = p ∙ omega (arith, ap length whole, length-append (t.front ++ k.chunk) after) in
    let empty : between place place all ≡ [] =
    ap (between place place) whole ∙ between_places (t.front ++ k.chunk) [] after place place at (omega (arith, at)) in
    record {
      conf = record {
        order = omega arith;
        inside = omega (arith, p);
        is_text = subst IsUtf8 (sym empty) IsUtf8-nil;
        says = ap lines empty ∙ sym first;
        before = t.conf.before ∙ ap (λ (xs : List (List ℕ)). length xs + 1) (sym zeroth);
        room = omega (arith, t.conf.room, ap length first, length-append ls (line ∷ []));
      };
      front = t.front ++ k.chunk;
      front_is = whole;
      passing = λ e. record { head = t.front ++ k.chunk; text = []; whole = whole; start_is = at; end_is = omega (arith, at); ends = inl (inl refl) };
    }

-- a text that ended with a line has the lines of what follows too
more_lines : (text chunk line rest after : List ℕ) → ((text ≡ []) ⊎ EndsLine text) ⊎ (rest ≡ []) → rest ≡ chunk ++ after → lines chunk ≡ line ∷ []
    → lines (text ++ chunk) ≡ lines text ++ line ∷ []
more_lines text chunk line rest after (inl (inl e)) w one = rw e one
more_lines text chunk line rest after (inl (inr ends)) w one = lines_joined text chunk ends ∙ ap (λ (xs : List (List ℕ)). lines text ++ xs) one
more_lines text [] line rest after (inr none) w one = absurd cc
more_lines text (x ∷ chunk) line rest after (inr none) w one = absurd cc

ends_more : (text chunk after : List ℕ) → EndsLine chunk ⊎ (after ≡ []) → ((text ++ chunk ≡ []) ⊎ EndsLine (text ++ chunk)) ⊎ (after ≡ [])
ends_more text chunk after (inl ends) = inl (inr (text ++ ends.0, ap (λ (xs : List ℕ). text ++ xs) ends.1 ∙ sym (append_assoc text ends.0 (10 ∷ []))))
ends_more text chunk after (inr none) = inr none

-- a line of the configuration
line_inside : (all rest line after : List ℕ) (ls : List (List ℕ)) (c : ConfText) (place : ℕ) → place ≡ length all - length after → begun ls ≡ 1
    → is_header line ≡ false → IsUtf8 line → HasText all rest ls c → IsCut rest line after
    → HasText all after (ls ++ line ∷ []) (record c { end = place })
line_inside all rest line after ls c place p w h u t k =
    let o = t.passing w in
    let zeroth : part_of 0 (ls ++ line ∷ []) ≡ part_of 0 ls = other_part 0 1 ls line w refl in
    let first : part_of 1 (ls ++ line ∷ []) ≡ part_of 1 ls ++ line ∷ [] = part_gains 1 ls line w h in
    let inner : o.text ++ rest ≡ (o.text ++ k.chunk) ++ after = ap (λ (xs : List ℕ). o.text ++ xs) k.whole ∙ sym (append_assoc o.text k.chunk after) in
    let whole : all ≡ o.head ++ ((o.text ++ k.chunk) ++ after) = o.whole ∙ ap (λ (xs : List ℕ). o.head ++ xs) inner in
    let len : length all ≡ length o.head + (length (o.text ++ k.chunk) + length after) =
    ap length whole ∙ length-append o.head _ ∙ ap (λ (n : ℕ). length o.head + n) (length-append (o.text ++ k.chunk) after) in
    let at : place ≡ length o.head + length (o.text ++ k.chunk) = p ∙ omega (arith, len) in
    let now : between c.start place all ≡ o.text ++ k.chunk =
    ap (between c.start place) whole ∙ between_places o.head (o.text ++ k.chunk) after c.start place o.start_is at in
    let old : text_at c all ≡ o.text = open_text all rest c o in
    let said : lines o.text ≡ part_of 1 ls = ap lines (sym old) ∙ t.conf.says in
    record {
      conf = record {
        order = omega (arith, o.start_is, at);
        inside = omega (arith, p);
        is_text = subst IsUtf8 (sym now) (IsUtf8-append o.text k.chunk (subst IsUtf8 old t.conf.is_text) (k.is_text u));
        says = ap lines now ∙ more_lines o.text k.chunk line rest after o.ends k.whole k.one ∙ ap (λ (xs : List (List ℕ)). xs ++ line ∷ []) said ∙ sym first;
        before = t.conf.before ∙ ap (λ (xs : List (List ℕ)). length xs + 1) (sym zeroth);
        room = omega (arith, t.conf.room, ap length first, length-append (part_of 1 ls) (line ∷ []), length-append ls (line ∷ []));
      };
      front = t.front ++ k.chunk;
      front_is = further all rest line after t.front k t.front_is;
      passing = λ e.
          record { head = o.head; text = o.text ++ k.chunk; whole = whole; start_is = o.start_is; end_is = at; ends = ends_more o.text k.chunk after k.ends };
    }

-- a line behind the configuration, or the one that ends its part
line_behind : (all rest line after : List ℕ) (ls : List (List ℕ)) (c : ConfText) → 1 < begun (ls ++ line ∷ []) → part_of 0 (ls ++ line ∷ []) ≡ part_of 0 ls
    → part_of 1 (ls ++ line ∷ []) ≡ part_of 1 ls
    → HasText all rest ls c → IsCut rest line after → HasText all after (ls ++ line ∷ []) c
line_behind all rest line after ls c more zeroth first t k = record {
  conf = record {
    order = t.conf.order;
    inside = t.conf.inside;
    is_text = t.conf.is_text;
    says = t.conf.says ∙ sym first;
    before = t.conf.before ∙ ap (λ (xs : List (List ℕ)). length xs + 1) (sym zeroth);
    room = omega (arith, t.conf.room, ap length first, length-append ls (line ∷ []));
  };
  front = t.front ++ k.chunk;
  front_is = further all rest line after t.front k t.front_is;
  passing = λ e. absurd (omega (arith, more, e));
}

-- ---- one more line

pub one_more : (all rest line after : List ℕ) (ls : List (List ℕ)) (c : ConfText) (w m place : ℕ) (h : Bool) → place ≡ length all - length after → begun ls ≡ w
    → is_header line ≡ h → m ≡ w + cond h 1 0
    → IsUtf8 line → HasText all rest ls c → IsCut rest line after → HasText all after (ls ++ line ∷ []) (passed c w m place)
one_more all rest line after ls c zero m place false p b h e u t k =
    subst (HasText all after (ls ++ line ∷ [])) (sym (to_before c 0 m place (e ∙ omega arith))) (line_before all rest line after ls c b h t k)
one_more all rest line after ls c zero m place true p b h e u t k =
    subst (HasText all after (ls ++ line ∷ [])) (sym (to_open c 0 m place refl (e ∙ omega arith))) (line_opens all rest line after ls c place p b h t k)
one_more all rest line after ls c (suc zero) m place false p b h e u t k =
    subst (HasText all after (ls ++ line ∷ [])) (sym (to_line c 1 m place refl (e ∙ omega arith))) (line_inside all rest line after ls c place p b h u t k)
one_more all rest line after ls c (suc zero) m place true p b h e u t k =
    let now : begun (ls ++ line ∷ []) ≡ 2 = begun_more ls line 1 true b h in
    subst (HasText all after (ls ++ line ∷ [])) (sym (to_behind c 1 m place (omega (arith, e))))
    (line_behind all rest line after ls c (omega (arith, now)) (no_part 0 ls line h) (no_part 1 ls line h) t k)
one_more all rest line after ls c (suc (suc w)) m place h p b hd e u t k =
    let now : begun (ls ++ line ∷ []) ≡ suc (suc w) + cond h 1 0 = begun_more ls line (suc (suc w)) h b hd in
    let a : (suc (suc w) == 0) ≡ false = ne_eqb (suc (suc w)) 0 (λ f. omega (arith, f)) in
    let d : (suc (suc w) == 1) ≡ false = ne_eqb (suc (suc w)) 1 (λ f. omega (arith, f)) in
    subst (HasText all after (ls ++ line ∷ [])) (sym (to_behind c (suc (suc w)) m place (omega (arith, e))))
    (line_behind all rest line after ls c (omega (arith, now)) (other_part 0 (suc (suc w)) ls line b a) (other_part 1 (suc (suc w)) ls line b d) t k)

-- the same of a reading, at the line that it takes
pub one_line_more : (all rest line after : List ℕ) (n : ℕ) (r s : Reading) (c d : ConfText) → HasRead all rest n r → lines rest ≡ line ∷ lines after
    → line_fits (section_index r.part) r.eager r.services.items line ≡ true → After r line s → HasText all rest (take n (lines all)) c → IsCut rest line after
    → d ≡ passed c (section_index r.part) (section_index s.part) (length all - length after) → HasText all after (take (n + 1) (lines all)) d
unfolding line_fits
one_line_more all rest line after n r s c d h e f a t k is =
    let next = next_line all rest line after n r h e in
    let text : IsUtf8 line = IsUtf8-from_is_utf8 line (and_parts (is_utf8 line) _ f).0 in
    let more = one_more all rest line after (take n (lines all)) c (section_index r.part) (section_index s.part) (length all - length after)
    (is_header line) refl (sym h.said.part) refl a.part text t k in
    subst (HasText all after (take (n + 1) (lines all))) (sym is)
    (subst (λ (ls : List (List ℕ)). HasText all after ls (passed c (section_index r.part) (section_index s.part) (length all - length after)))
    (sym next.more) more)
