-- Endpoints that are held, by other ways of looking.
use Rattle.std.proofs.Common.{ℕ, suc, nat_lt, ◌<◌, ◌++◌, Bool, true, false, not, ◌==◌, ◌&&◌, ◌||◌, arith, List, [], ◌∷◌, length, ◌≡◌, refl, sym, ap, ◌∙◌, if◌then◌else◌, Option, Some}
use Rattle.std.proofs.Math.Bool.{or-false}
use Rattle.std.specs.List.{list_any, list_all, find, range_with_len}
use Rattle.std.proofs.lemmas.Bool.{ne_eqb, lt-ltb}
use Rattle.std.proofs.lemmas.List.Folds.{list_any-append}
use Rattle.svc_record.specs.declared.plan.Plan.{Plan}
use Rattle.svc_record.specs.declared.entry.Entry.{Entry}
use Rattle.svc_record.specs.declared.entry.Entry.TheVariants.{Got}
use Rattle.svc_record.specs.declared.event.Event.TheVariants.{Bound, Adopted}
use Rattle.svc_record.specs.Record.{Record, has}
use Rattle.svc_record.specs.Endpoints.{is_one_of, is_held, is_held_by, held_numbers, held_numbers_of, first_missing}
use Rattle.svc_judge.specs.Holding.{is_some_number, is_taken, lets_hold, lets_hold_by}
use Rattle.svc_record.proofs.Complete.{below}
use Rattle.svc_judge.proofs.AnewLemmas.{neither_holds}

-- the list has one number, which is among the others
pub held_by_one : (ns others : List ℕ)
    → is_one_of ns others ≡ ((length ns == 1) && list_any (λ n. list_any (λ m. m == n) others) ns)
held_by_one [] others = refl
held_by_one (n ∷ []) others = sym (or-false (list_any (λ m. m == n) others))
held_by_one (n ∷ m ∷ more) others = rw (ne_eqb (length (n ∷ m ∷ more)) 1 (λ h. two (length more) h))
  where
    two : (k : ℕ) → suc (suc k) ≡ 1 → ⊥
    two k h = omega arith

if-swap : (b : Bool) (x y : Option ℕ) → (if b then x else y) ≡ (if not b then y else x)
if-swap true x y = refl
if-swap false x y = refl

-- the first that isn't held is found
pub first_missing_is : (p : Plan) (q : Record) (s : ℕ) (is : List ℕ) → first_missing p q s is ≡ find (λ i. not (is_held p q s i)) is
first_missing_is p q s [] = refl
first_missing_is p q s (i ∷ more) =
    if-swap (is_held p q s i) (first_missing p q s more) (Some i)
    ∙ ap (λ x. if not (is_held p q s i) then Some i else x) (first_missing_is p q s more)

some-append : (xs ys : List ℕ) → is_some_number (xs ++ ys) ≡ (is_some_number xs || is_some_number ys)
some-append [] ys = refl
some-append (x ∷ xs) ys = rw (more (length (xs ++ ys)), more (length xs)) refl
  where
    more : (k : ℕ) → nat_lt 0 (suc k) ≡ true
    more k = lt-ltb 0 (suc k) (omega arith)

-- an endpoint is held by the newest entry, or by one before it
pub held_step : (p : Plan) (e : Entry) (q : Record) (s i : ℕ) → is_held p (e ∷ q) s i ≡ (lets_hold p s i e q || is_held p q s i)
held_step p e q s i = some-append (held_numbers_of p s i e q) (held_numbers p q s i)

pub held_by_step : (p : Plan) (e : Entry) (q : Record) (s i fd : ℕ) → is_held_by p (e ∷ q) s i fd ≡ (lets_hold_by p s i fd e q || is_held_by p q s i fd)
held_by_step p e q s i fd = list_any-append (λ n. n == fd) (held_numbers_of p s i e q) (held_numbers p q s i)

none_taken : (p : Plan) (q : Record) (s i : ℕ) → has (is_taken s i) q ≡ false → held_numbers p q s i ≡ []
none_taken p [] s i h = refl
none_taken p (Got (Bound t j fd) ∷ q) s i h =
    let parts = neither_holds (t == s && j == i) (has (is_taken s i) q) h in rw (parts.0) (none_taken p q s i parts.1)
none_taken p (Got (Adopted t j) ∷ q) s i h =
    let parts = neither_holds (t == s && j == i) (has (is_taken s i) q) h in rw (parts.0) (none_taken p q s i parts.1)
none_taken p (_ ∷ q) s i h = none_taken p q s i h

-- where no bind or adoption ended well, none holds
pub never_taken : (p : Plan) (q : Record) (s i : ℕ) → has (is_taken s i) q ≡ false → is_held p q s i ≡ false
never_taken p q s i h = rw (none_taken p q s i h) refl

-- the first n are held
abbrev pub AreHeld : Plan → Record → ℕ → ℕ → Type 0
AreHeld p q s n = (j : ℕ) → j < n → is_held p q s j ≡ true

-- where none is left to be held, all are
pub all_in_turn : (p : Plan) (q r : Record) (s n left : ℕ) → left ≡ 0 → (AreHeld p r s left → AreHeld p q s n)
    → list_all (is_held p q s) (range_with_len 0 n) ≡ true
all_in_turn p q r s n left none h = below (is_held p q s) n (h (λ j less. absurd (nothing j less)))
  where
    nothing : (j : ℕ) → j < left → ⊥
    nothing j less = omega (arith, none, less)
