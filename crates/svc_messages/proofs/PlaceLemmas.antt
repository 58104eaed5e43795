-- How the part in which a line stands goes along a script.
use Rattle.std.proofs.Common.{ℕ, ◌+◌, ◌-◌, ◌<◌, ◌≤◌, ◌≡◌, length, take, drop, get_or, List, [], ◌∷◌, ◌++◌, refl, sym, ap, subst, ◌∙◌, inl, inr, append_assoc, arith, Option, Some, None, MatchOption, unwrap_or, length-drop, suc, add-one}
use Rattle.std.specs.Prelude.{slice_get}
use Rattle.std.proofs.Math.Seq.{drop-cons}
use Rattle.std.proofs.lemmas.List.{take_more, take_all}
use Rattle.std.proofs.lemmas.List.Elements.{All-push, All-nil}
use Rattle.std.proofs.lemmas.Option.{slice_get-get_or}
use Rattle.svc_messages.specs.declared.places.Section.{Section}
use Rattle.svc_messages.specs.Places.{Begins, BeginsNone, StandsBehind}

-- a list from the nth element on
pub record GoesOn (ls : List (List ℕ)) (n : ℕ) (line : List ℕ) (after : List (List ℕ)) : Type 0 where
  pub within : n < length ls
  pub at : slice_get ls n ≡ Some line
  pub behind : drop (n + 1) ls ≡ after
  pub before : take (n + 1) ls ≡ take n ls ++ line ∷ []

pub goes_on : (ls : List (List ℕ)) (n : ℕ) (line : List ℕ) (after : List (List ℕ)) → drop n ls ≡ line ∷ after → GoesOn ls n line after
goes_on ls n line after e =
    let within : n < length ls = omega (arith, length-drop n ls, ap length e) in
    let cut : drop n ls ≡ get_or ls n line ∷ drop (suc n) ls = drop-cons ls n line within in
    let same : get_or ls n line ≡ line = cc in
    let next : drop (suc n) ls ≡ after = cc in
    let P : List ℕ → Type 0 = λ x. take (n + 1) ls ≡ take n ls ++ x ∷ [] in
    let Q : List ℕ → Type 0 = λ x. slice_get ls n ≡ Some x in
    record {
      within = within;
      at = subst Q same (slice_get-get_or ls n line within);
      behind = rw add-one next;
      before = subst P same (take_more ls n line within);
    }

-- one line more
pub stands_next : (passed : List (List ℕ)) (line : List ℕ) (section next : Section) (begun : Option Section)
    → MatchOption begun (BeginsNone line) (λ part. Begins part line) → next ≡ unwrap_or begun section → StandsBehind passed section
    → StandsBehind (passed ++ line ∷ []) next
stands_next passed line section next (Some part) h e s = inr (passed, [], line, refl, subst (λ (x : Section). Begins x line) (sym e) h, All-nil BeginsNone)
stands_next passed line section next None h e (inl s) = inl (e ∙ s.0, All-push BeginsNone passed line s.1 h)
stands_next passed line section next None h e (inr s) =
    inr (
      s.0,
      s.1 ++ line ∷ [],
      s.2,
      rw s.3 (append_assoc s.0 (s.2 ∷ s.1) (line ∷ [])),
      subst (λ (x : Section). Begins x s.2) (sym e) s.4,
      All-push BeginsNone s.1 line s.5 h,
    )

-- where the lines before number n were passed, of which the first is 1
pub record Passed (ls rest : List (List ℕ)) (n : ℕ) (section : Section) : Type 0 where
  pub begun : 0 < n
  pub left : drop (n - 1) ls ≡ rest
  pub place : StandsBehind (take (n - 1) ls) section

pub passed_one : (ls : List (List ℕ)) (section : Section) → StandsBehind [] section → Passed ls ls 1 section
passed_one ls section s = record { begun = omega arith; left = refl; place = s }

pub passed_next : (ls rest after : List (List ℕ)) (n : ℕ) (line : List ℕ) (section next : Section) (begun : Option Section) → Passed ls rest n section
    → rest ≡ line ∷ after → MatchOption begun (BeginsNone line) (λ part. Begins part line) → next ≡ unwrap_or begun section → Passed ls after (n + 1) next
passed_next ls rest after n line section next begun p e h f =
    let g : GoesOn ls (n - 1) line after = goes_on ls (n - 1) line after (p.left ∙ e) in
    let same : n - 1 + 1 ≡ n + 1 - 1 = omega (arith, p.begun) in
    let P : ℕ → Type 0 = λ k. drop k ls ≡ after in
    let Q : ℕ → Type 0 = λ k. StandsBehind (take k ls) next in
    let R : List (List ℕ) → Type 0 = λ x. StandsBehind x next in
    record {
      begun = omega arith;
      left = subst P same g.behind;
      place = subst Q same (subst R (sym g.before) (stands_next (take (n - 1) ls) line section next begun h f p.place));
    }

-- the line that is asked for
pub passed_at : (ls rest after : List (List ℕ)) (n number : ℕ) (line : List ℕ) (section : Section) → Passed ls rest n section → rest ≡ line ∷ after
    → n - 1 ≡ number - 1 → (slice_get ls (number - 1) ≡ Some line) × StandsBehind (take (number - 1) ls) section
passed_at ls rest after n number line section p e same =
    let P : ℕ → Type 0 = λ k. slice_get ls k ≡ Some line in
    let Q : ℕ → Type 0 = λ k. StandsBehind (take k ls) section in
    (subst P same (goes_on ls (n - 1) line after (p.left ∙ e)).at, subst Q same p.place)

-- no line is left
pub passed_all : (ls rest : List (List ℕ)) (n number : ℕ) (section : Section) → Passed ls rest n section → rest ≡ [] → n - 1 ≤ number - 1
    → (length ls ≤ number - 1) × StandsBehind (take (number - 1) ls) section
passed_all ls rest n number section p e below =
    let short : length ls ≤ n - 1 = omega (arith, length-drop (n - 1) ls, ap length (p.left ∙ e)) in
    let same : take (n - 1) ls ≡ take (number - 1) ls = take_all (n - 1) ls short ∙ sym (take_all (number - 1) ls (omega arith)) in
    (omega arith, subst (λ (x : List (List ℕ)). StandsBehind x section) same p.place)
