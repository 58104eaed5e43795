-- Segments, and what one list of them says over another.
use Rattle.std.proofs.Common.{◌≡◌, ℕ, ◌+◌, ◌^◌, ◌<◌, ◌≤◌, Bool, true, false, leb, List, [], ◌∷◌, ◌++◌, length, get_or, take, drop, Option, Some, None, inl, inr, refl, sym, subst, ap, ◌∙◌, arith, length-append}
use Rattle.std.specs.Prelude.{nat_le, ◌==◌, if◌then◌else◌}
use Rattle.std.specs.Option.{option_or}
use Rattle.std.proofs.lemmas.Bool.{cases_lt, lt-leb, le-leb}
use Rattle.std.proofs.lemmas.Bool.Decides.{nat_tests}
use Rattle.std.proofs.lemmas.List.{take-append-drop}
use Rattle.svc_gate.specs.declared.rules.GateRule.{GateRule}
use Rattle.svc_gate.specs.declared.segments.Segment.{Segment}
use Rattle.svc_gate.specs.Rules.{is_held, first_allow}
use Rattle.svc_gate.specs.Segments.{found_from, found_in, FindsFirst, FindsEither, Ascends, next_begin, word_at, rest_at}

-- segments that ascend from one number to another
pub Ascends-low : (low : ℕ) (segments : List Segment) (high : ℕ) → Ascends low segments high → low ≤ high
Ascends-low low [] high h = h
Ascends-low low (s ∷ segments) high h = let more = Ascends-low (s.from + 1) segments high h.1 in omega (arith, more, h.0)

pub Ascends-to_lower : (low : ℕ) (segments : List Segment) (high other : ℕ) → high ≤ other → Ascends low segments high → Ascends low segments other
Ascends-to_lower low [] high other le h = omega arith
Ascends-to_lower low (s ∷ segments) high other le h = (h.0, Ascends-to_lower (s.from + 1) segments high other le h.1)

-- one segment more, behind the others
pub Ascends-push : (low : ℕ) (segments : List Segment) (high : ℕ) (s : Segment) → high ≤ s.from → Ascends low segments high
    → Ascends low (segments ++ s ∷ []) (s.from + 1)
Ascends-push low [] high s le h = (omega arith, omega arith)
Ascends-push low (t ∷ segments) high s le h = (h.0, Ascends-push (t.from + 1) segments high s le h.1)

pub found_from-push : (a : Option Bool) (low : ℕ) (segments : List Segment) (high : ℕ) (s : Segment) (x : ℕ) → high ≤ s.from → Ascends low segments high
    → found_from a (segments ++ s ∷ []) x ≡ (if nat_le s.from x then s.allow else found_from a segments x)
found_from-push a low [] high s x le h = refl
found_from-push a low (t ∷ segments) high s x le h =
    let more = found_from-push t.allow (t.from + 1) segments high s x le h.1 in
    let below = Ascends-low (t.from + 1) segments high h.1 in
    grind (arith, nat_tests)

-- before the first segment
pub found_from-before : (a : Option Bool) (low : ℕ) (segments : List Segment) (high x : ℕ) → Ascends low segments high → x < low → found_from a segments x ≡ a
found_from-before a low [] high x h lt = refl
found_from-before a low (s ∷ segments) high x h lt = let first : low ≤ s.from = h.0 in grind (arith, nat_tests)

-- what is left of a list of segments from a number on: what was said last, and the later segments
pub record Follows (all : List Segment) (low : ℕ) (a : Option Bool) (rest : List Segment) : Type 0 where
  pub ascend : Ascends low rest (2 ^ 128)
  pub same : (x : ℕ) → low ≤ x → found_from a rest x ≡ found_in all x

pub follows_first : (all : List Segment) → Ascends 0 all (2 ^ 128) → Follows all 0 None all
follows_first all h = record { ascend = h; same = λ x le. refl }

-- the next segment of either list begins at the number
pub record IsNext (low from : ℕ) (upper lower : List Segment) : Type 0 where
  pub behind : low ≤ from
  pub fits : from < 2 ^ 128
  pub upper_from : Ascends from upper (2 ^ 128)
  pub lower_from : Ascends from lower (2 ^ 128)

next_of_both : (low from : ℕ) (a b : Segment) (more rest : List Segment) (first : Bool) → leb a.from b.from ≡ first
    → (if first then Some a.from else Some b.from) ≡ Some from
    → Ascends low (a ∷ more) (2 ^ 128) → Ascends low (b ∷ rest) (2 ^ 128) → IsNext low from (a ∷ more) (b ∷ rest)
next_of_both low from a b more rest true e is h k =
    let at : a.from ≡ from = cc in
    let fits = Ascends-low (a.from + 1) more (2 ^ 128) h.1 in
    record {
      behind = omega (arith, h.0, at);
      fits = omega (arith, fits, at);
      upper_from = (omega (arith, at), h.1);
      lower_from = (grind (arith, nat_tests), k.1);
    }
next_of_both low from a b more rest false e is h k =
    let at : b.from ≡ from = cc in
    let fits = Ascends-low (b.from + 1) rest (2 ^ 128) k.1 in
    record {
      behind = omega (arith, k.0, at);
      fits = omega (arith, fits, at);
      upper_from = (grind (arith, nat_tests), h.1);
      lower_from = (omega (arith, at), k.1);
    }

pub next_is : (low from : ℕ) (upper lower : List Segment) → Ascends low upper (2 ^ 128) → Ascends low lower (2 ^ 128) → next_begin upper lower ≡ Some from
    → IsNext low from upper lower
next_is low from [] [] h k is = absurd (cc)
next_is low from (a ∷ more) [] h k is =
    let at : a.from ≡ from = cc in
    let fits = Ascends-low (a.from + 1) more (2 ^ 128) h.1 in
    record { behind = omega (arith, h.0, at); fits = omega (arith, fits, at); upper_from = (omega (arith, at), h.1); lower_from = omega (arith, fits, at) }
next_is low from [] (b ∷ rest) h k is =
    let at : b.from ≡ from = cc in
    let fits = Ascends-low (b.from + 1) rest (2 ^ 128) k.1 in
    record { behind = omega (arith, k.0, at); fits = omega (arith, fits, at); upper_from = omega (arith, fits, at); lower_from = (omega (arith, at), k.1) }
next_is low from (a ∷ more) (b ∷ rest) h k is = next_of_both low from a b more rest (leb a.from b.from) refl is h k

-- behind a number before which no later segment begins
pass_step : (s : Segment) (rest : List Segment) (a : Option Bool) (from : ℕ) (here : Bool) → (s.from == from) ≡ here → from < 2 ^ 128
    → Ascends from (s ∷ rest) (2 ^ 128)
    → Ascends (from + 1) (if here then rest else s ∷ rest) (2 ^ 128)
    × ((x : ℕ) → from ≤ x → found_from (if here then s.allow else a) (if here then rest else s ∷ rest) x ≡ found_from a (s ∷ rest) x)
pass_step s rest a from true e fits h =
    let at : s.from ≡ from = grind (arith, nat_tests) in
    (subst (λ n. Ascends (n + 1) rest (2 ^ 128)) at h.1, λ x le. grind (arith, nat_tests))
pass_step s rest a from false e fits h =
    let first : from ≤ s.from = h.0 in
    ((grind (arith, nat_tests), h.1), λ x le. refl)

passed : (a : Option Bool) (rest : List Segment) (from : ℕ) → from < 2 ^ 128 → Ascends from rest (2 ^ 128)
    → Ascends (from + 1) (rest_at rest from) (2 ^ 128) × ((x : ℕ) → from ≤ x → found_from (word_at a rest from) (rest_at rest from) x ≡ found_from a rest x)
passed a [] from fits h = (omega arith, λ x le. refl)
passed a (s ∷ rest) from fits h = pass_step s rest a from (s.from == from) refl fits h

pub follows_pass : (all : List Segment) (low : ℕ) (a : Option Bool) (rest : List Segment) (from : ℕ) → Follows all low a rest → low ≤ from → from < 2 ^ 128
    → Ascends from rest (2 ^ 128)
    → Follows all (from + 1) (word_at a rest from) (rest_at rest from)
follows_pass all low a rest from f le fits h =
    let p = passed a rest from fits h in
    record { ascend = p.0; same = λ x more. p.1 x (omega arith) ∙ f.same x (omega arith) }

-- what is said at the number itself
pub word_at-found : (all : List Segment) (low : ℕ) (a : Option Bool) (rest : List Segment) (from : ℕ) → Follows all low a rest → low ≤ from → from < 2 ^ 128
    → Ascends from rest (2 ^ 128)
    → word_at a rest from ≡ found_in all from
word_at-found all low a rest from f le fits h =
    let p = passed a rest from fits h in
    sym (found_from-before (word_at a rest from) (from + 1) (rest_at rest from) (2 ^ 128) from p.0 (omega arith)) ∙ p.1 from (omega arith) ∙ f.same from le

-- what was said last holds up to the next segment
pub word_before : (all : List Segment) (low : ℕ) (a : Option Bool) (rest : List Segment) (from x : ℕ) → Follows all low a rest → Ascends from rest (2 ^ 128)
    → low ≤ x → x < from → a ≡ found_in all x
word_before all low a rest from x f h le lt = sym (found_from-before a from rest (2 ^ 128) x h lt) ∙ f.same x le

pub length-rest_at : (rest : List Segment) (from : ℕ) → length (rest_at rest from) ≤ length rest
length-rest_at [] from = omega arith
length-rest_at (s ∷ rest) from = grind arith

-- the segments of the upper list over those of the lower one, up to a number
pub record Overlays (first second : List Segment) (low : ℕ) (a : Option Bool) (upper : List Segment) (b : Option Bool) (lower : List Segment)
    (made : List Segment) : Type 0 where
  pub upper_follows : Follows first low a upper
  pub lower_follows : Follows second low b lower
  pub fits : low ≤ 2 ^ 128
  pub ascend : Ascends 0 made low
  pub before : (x : ℕ) → x < low → found_in made x ≡ option_or (found_in first x) (found_in second x)
  pub behind : (x : ℕ) → low ≤ x → found_in made x ≡ option_or a b
  pub few : length made + (length upper + length lower) ≤ length first + length second

-- a step passes a segment of one list at least
shorter_both : (a b : Segment) (more rest : List Segment) (from : ℕ) (first : Bool) → leb a.from b.from ≡ first
    → (if first then Some a.from else Some b.from) ≡ Some from
    → length (rest_at (a ∷ more) from) + length (rest_at (b ∷ rest) from) < length (a ∷ more) + length (b ∷ rest)
shorter_both a b more rest from true e is = let at : a.from ≡ from = cc in grind (arith, nat_tests)
shorter_both a b more rest from false e is = let at : b.from ≡ from = cc in grind (arith, nat_tests)

pub shorter : (upper lower : List Segment) (from : ℕ) → next_begin upper lower ≡ Some from
    → length (rest_at upper from) + length (rest_at lower from) < length upper + length lower
shorter [] [] from is = absurd (cc)
shorter (a ∷ more) [] from is = let at : a.from ≡ from = cc in grind (arith, nat_tests)
shorter [] (b ∷ rest) from is = let at : b.from ≡ from = cc in grind (arith, nat_tests)
shorter (a ∷ more) (b ∷ rest) from is = shorter_both a b more rest from (leb a.from b.from) refl is

-- the segment that one step adds
abbrev pub made_at : Option Bool → List Segment → Option Bool → List Segment → ℕ → Segment
made_at a upper b lower from = record { from = from; allow = option_or (word_at a upper from) (word_at b lower from) }

step_before : (first second : List Segment) (low : ℕ) (a : Option Bool) (upper : List Segment) (b : Option Bool) (lower made : List Segment) (from x : ℕ)
    → Overlays first second low a upper b lower made → IsNext low from upper lower → x < from + 1
    → found_in (made ++ made_at a upper b lower from ∷ []) x ≡ option_or (found_in first x) (found_in second x)
step_before first second low a upper b lower made from x o n lt =
    let push = found_from-push None 0 made low (made_at a upper b lower from) x n.behind o.ascend in
    elim (cases_lt x from) [
      | inr ge ↦
          let here : x ≡ from = omega arith in
          let above = word_at-found first low a upper from o.upper_follows n.behind n.fits n.upper_from in
          let below = word_at-found second low b lower from o.lower_follows n.behind n.fits n.lower_from in
          subst (λ y. found_in (made ++ made_at a upper b lower from ∷ []) y ≡ option_or (found_in first y) (found_in second y)) (sym here)
          (found_from-push None 0 made low (made_at a upper b lower from) from n.behind o.ascend ∙ rw (le-leb from from (omega arith), above, below) refl)
      | inl less ↦ elim (cases_lt x low) [
        | inl early ↦ push ∙ rw (lt-leb from x less) (o.before x early)
        | inr late ↦
            let above = word_before first low a upper from x o.upper_follows n.upper_from late less in
            let below = word_before second low b lower from x o.lower_follows n.lower_from late less in
            push ∙ rw (lt-leb from x less) (o.behind x late ∙ rw (above, below) refl)
      ]
    ]

pub overlays_step : (first second : List Segment) (low : ℕ) (a : Option Bool) (upper : List Segment) (b : Option Bool) (lower made : List Segment) (from : ℕ)
    → Overlays first second low a upper b lower made → next_begin upper lower ≡ Some from
    → Overlays first second (from + 1) (word_at a upper from) (rest_at upper from) (word_at b lower from) (rest_at lower from)
    (made ++ made_at a upper b lower from ∷ [])
overlays_step first second low a upper b lower made from o is =
    let n = next_is low from upper lower o.upper_follows.ascend o.lower_follows.ascend is in
    let less = shorter upper lower from is in
    record {
      upper_follows = follows_pass first low a upper from o.upper_follows n.behind n.fits n.upper_from;
      lower_follows = follows_pass second low b lower from o.lower_follows n.behind n.fits n.lower_from;
      fits = omega (arith, n.fits);
      ascend = Ascends-push 0 made low (made_at a upper b lower from) n.behind o.ascend;
      before = λ x lt. step_before first second low a upper b lower made from x o n lt;
      behind = λ x le. found_from-push None 0 made low (made_at a upper b lower from) x n.behind o.ascend ∙ rw (le-leb from x (omega arith)) refl;
      few = omega (arith, less, o.few, length-append made (made_at a upper b lower from ∷ []));
    }

-- behind the last segment of both lists
pub overlaid : (first second : List Segment) (low : ℕ) (a : Option Bool) (upper : List Segment) (b : Option Bool) (lower made : List Segment) (x : ℕ)
    → Overlays first second low a upper b lower made → next_begin upper lower ≡ None → found_in made x ≡ option_or (found_in first x) (found_in second x)
overlaid first second low a [] b [] made x o is = elim (cases_lt x low) [
  | inl early ↦ o.before x early
  | inr late ↦ o.behind x late ∙ rw (o.upper_follows.same x late, o.lower_follows.same x late) refl
]
overlaid first second low a (s ∷ more) b [] made x o is = absurd (cc)
overlaid first second low a [] b (t ∷ rest) made x o is = absurd (cc)
overlaid first second low a (s ∷ more) b (t ∷ rest) made x o is = absurd (both_begin s.from t.from (leb s.from t.from) is)
  where
    both_begin : (m n : ℕ) (first : Bool) → (if first then Some m else Some n) ≡ None → ⊥
    both_begin m n true e = cc
    both_begin m n false e = cc

-- the same, from what the calls of a step give
pub overlays_pushed : (first second : List Segment) (low : ℕ) (a : Option Bool) (upper : List Segment) (b : Option Bool) (lower made : List Segment) (from : ℕ)
    (a' : Option Bool) (upper' : List Segment) (b' : Option Bool) (lower' made' : List Segment) (allow : Option Bool)
    → Overlays first second low a upper b lower made → Some from ≡ next_begin upper lower
    → a' ≡ word_at a upper from → upper' ≡ rest_at upper from → b' ≡ word_at b lower from → lower' ≡ rest_at lower from
    → allow ≡ option_or a' b' → made' ≡ made ++ record { from = from; allow = allow } ∷ []
    → Overlays first second (from + 1) a' upper' b' lower' made'
overlays_pushed first second low a upper b lower made from a' upper' b' lower' made' allow o is ea eu eb el eo em =
    rw (em, eo, ea, eu, eb, el) (overlays_step first second low a upper b lower made from o (sym is))

pub overlaid_ascends : (first second : List Segment) (low : ℕ) (a : Option Bool) (upper : List Segment) (b : Option Bool) (lower made : List Segment)
    → Overlays first second low a upper b lower made → Ascends 0 made (2 ^ 128)
overlaid_ascends first second low a upper b lower made o = Ascends-to_lower 0 made low (2 ^ 128) o.fits o.ascend

-- the first rule of two lists, one behind the other
one_more : (held : Bool) (allow : Bool) (more a b : Option Bool) → more ≡ option_or a b
    → (if held then Some allow else more) ≡ option_or (if held then Some allow else a) b
one_more true allow more a b e = refl
one_more false allow more a b e = e

pub first_allow-append : (v6 : Bool) (x : ℕ) (front back : List GateRule)
    → first_allow v6 x (front ++ back) ≡ option_or (first_allow v6 x front) (first_allow v6 x back)
first_allow-append v6 x [] back = refl
first_allow-append v6 x (rule ∷ front) back = one_more (is_held v6 x rule) rule.allow _ _ _ (first_allow-append v6 x front back)

-- a list of one rule
pub only_rule : (rules : List GateRule) (d : GateRule) → 1 ≤ length rules → length rules < 2 → get_or rules 0 d ∷ [] ≡ rules
only_rule [] d some few = absurd (omega arith)
only_rule (rule ∷ []) d some few = refl
only_rule (rule ∷ more ∷ rules) d some few = absurd (omega arith)

-- the rules of both halves
pub halves_found : (v6 : Bool) (rules front back : List GateRule) (k : ℕ) (upper lower upper_now lower_now made : List Segment) → front ≡ take k rules
    → back ≡ drop k rules
    → FindsFirst v6 front upper → FindsFirst v6 back lower → upper_now ≡ upper → lower_now ≡ lower → FindsEither upper_now lower_now made
    → FindsFirst v6 rules made
halves_found v6 rules front back k upper lower upper_now lower_now made ef eb u l eu el e = λ x fits.
    e x ∙ rw (eu, el, u x fits, l x fits) (sym (first_allow-append v6 x front back) ∙ ap (first_allow v6 x) (rw (ef, eb) (take-append-drop k rules)))
