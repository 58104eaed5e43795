-- Live connections in ascending number, and what becomes of one of them.
use Rattle.std.proofs.Common.{ℕ, Bool, true, false, not, ◌==◌, inl, inr, List, [], ◌∷◌, ◌++◌, ◌≡◌, refl, ap, sym, ◌∙◌, arith, filter, nat_lt, Some, None, Option, IfSome, IfNone}
use Rattle.std.specs.Bool.{OnTrue, OnFalse}
use Rattle.std.specs.List.{list_all}
use Rattle.std.proofs.lemmas.Bool.{eq-eqb, ne_eqb, and_parts, and_from, or_parts, or_from, cases_Bool, ltb-true}
use Rattle.std.proofs.lemmas.List.{append-nil, map-append}
use Rattle.std.proofs.lemmas.List.Elements.{filter-append}
use Rattle.std.proofs.lemmas.List.Folds.{list_all-map}
use Rattle.svc_base.specs.Items.{list_of}
use Rattle.svc_base.specs.Blocks.{put_by, has_key, StandsIn}
use Rattle.svc_base.proofs.KeyLemmas.{all-mid, all-weaker, none-over}
use Rattle.svc_base.proofs.NumberSetLemmas.{all-filter}
use Rattle.svc_connections.specs.declared.stage.Connection.{Connection}
use Rattle.svc_connections.specs.declared.stage.Stage.{Stage}
use Rattle.svc_connections.specs.ConnectionsState.{numbers, climbs, stage_of, is_live}
use Rattle.svc_connections.specs.ConnectionsEffects.{put_connection, moved, at_stage, without}
use Rattle.svc_connections.proofs.StageLemmas.{moved-here}

abbrev pub number : Connection → ℕ
number x = x.number

-- what is above a number is above a lower one
climb-on : (n m k : ℕ) → nat_lt n m ≡ true → nat_lt m k ≡ true → nat_lt n k ≡ true
climb-on n m k a b = grind arith

all-over : (n m : ℕ) (ns : List ℕ) → nat_lt n m ≡ true → list_all (λ k. nat_lt m k) ns ≡ true → list_all (λ k. nat_lt n k) ns ≡ true
all-over n m ns below h = all-weaker (λ k. nat_lt m k) (λ k. nat_lt n k) ns (λ k g. climb-on n m k below g) h

-- where all have higher numbers, none has this one
behind-more : (c : ℕ) (live : List Connection) → list_all (λ m. nat_lt c m) (numbers live) ≡ true → has_key number c live ≡ false
behind-more c live h = none-over number c live (sym (list_all-map (λ m. nat_lt c m) number live) ∙ h)

-- where none has the number, nothing changes
none-before : (c : ℕ) (front back : List Connection) → has_key number c front ≡ false → stage_of (front ++ back) c ≡ stage_of back c
none-before c [] back h = refl
none-before c (x ∷ front) back h = let parts = or_parts (x.number == c) (has_key number c front) h in rw parts.0 (none-before c front back parts.1)

pub none-stage : (c : ℕ) (live : List Connection) → has_key number c live ≡ false → stage_of live c ≡ None
none-stage c live h = ap (λ (xs : List Connection). stage_of xs c) (sym (append-nil live)) ∙ none-before c live [] h

pub none-key : (c : ℕ) (live : List Connection) → stage_of live c ≡ None → has_key number c live ≡ false
none-key c [] h = refl
none-key c (x ∷ live) h = elim (cases_Bool (x.number == c)) [
  | inl same ↦ absurd (let k : Some x.stage ≡ None = rw same at h in cc)
  | inr other ↦ or_from (x.number == c) (has_key number c live) other (none-key c live (rw other at h))
]

none-moved : (c : ℕ) (stage : Stage) (live : List Connection) → has_key number c live ≡ false → at_stage c stage live ≡ live
none-moved c stage [] h = refl
none-moved c stage (x ∷ live) h =
    let parts = or_parts (x.number == c) (has_key number c live) h in rw parts.0 (ap (λ (xs : List Connection). x ∷ xs) (none-moved c stage live parts.1))

none-without : (c : ℕ) (live : List Connection) → has_key number c live ≡ false → without c live ≡ live
none-without c [] h = refl
none-without c (x ∷ live) h =
    let parts = or_parts (x.number == c) (has_key number c live) h in rw parts.0 (ap (λ (xs : List Connection). x ∷ xs) (none-without c live parts.1))

-- a new one goes where its number does
pub new-put : (x : Connection) (live : List Connection) → has_key number x.number live ≡ false → put_by number x live ≡ put_connection x live
new-put x [] h = refl
new-put x (y ∷ live) h = elim (cases_Bool (nat_lt x.number y.number)) [
  | inl below ↦ rw below refl
  | inr above ↦
      (let parts = or_parts (y.number == x.number) (has_key number x.number live) h in
      rw (above, parts.0) (ap (λ (xs : List Connection). y ∷ xs) (new-put x live parts.1)))
]

-- of a connection that stands among the others
module _ (c : ℕ) (live : List Connection) (rise : climbs (numbers live) ≡ true) (x : Connection) (s : StandsIn number c live x) where
  front-apart : (front : List Connection) → climbs (numbers (front ++ x ∷ s.back)) ≡ true → has_key number c front ≡ false
  front-apart [] h = refl
  front-apart (y ∷ front) h =
      let parts = and_parts (list_all (λ m. nat_lt y.number m) (numbers (front ++ x ∷ s.back))) (climbs (numbers (front ++ x ∷ s.back))) h in
      let all = sym (list_all-map (λ m. nat_lt y.number m) number (front ++ x ∷ s.back)) ∙ parts.0 in
      let less = ltb-true y.number x.number (all-mid (λ (z : Connection). nat_lt y.number z.number) front x s.back all) in
      let has = s.has in
      or_from (y.number == c) (has_key number c front) (ne_eqb y.number c (λ e. omega arith)) (front-apart front parts.1)

  back-apart : (front : List Connection) → climbs (numbers (front ++ x ∷ s.back)) ≡ true → has_key number c s.back ≡ false
  back-apart [] h =
      behind-more c s.back
      (ap (λ (n : ℕ). list_all (λ m. nat_lt n m) (numbers s.back)) (sym s.has)
      ∙ (and_parts (list_all (λ m. nat_lt x.number m) (numbers s.back)) (climbs (numbers s.back)) h).0)
  back-apart (y ∷ front) h =
      back-apart front (and_parts (list_all (λ m. nat_lt y.number m) (numbers (front ++ x ∷ s.back))) (climbs (numbers (front ++ x ∷ s.back))) h).1

  rise-is : climbs (numbers (s.front ++ x ∷ s.back)) ≡ true
  rise-is = ap (λ (xs : List Connection). climbs (numbers xs)) (sym s.is) ∙ rise

  pub found-stage : stage_of live c ≡ Some x.stage
  found-stage =
      ap (λ (xs : List Connection). stage_of xs c) s.is ∙ none-before c s.front (x ∷ s.back) (front-apart s.front rise-is) ∙ (rw (eq-eqb x.number c s.has) refl)

  found-moved : (stage : Stage) → at_stage c stage live ≡ s.front ++ record { number = c; stage = stage } ∷ s.back
  found-moved stage = ap (at_stage c stage) s.is ∙ map-append (moved c stage) s.front (x ∷ s.back)
      ∙ (rw (none-moved c stage s.front (front-apart s.front rise-is), none-moved c stage s.back (back-apart s.front rise-is), eq-eqb x.number c s.has, s.has)
      refl)

  found-without : without c live ≡ s.front ++ s.back
  found-without = ap (without c) s.is ∙ filter-append (λ (y : Connection). not (y.number == c)) s.front (x ∷ s.back)
      ∙ (rw (none-without c s.front (front-apart s.front rise-is), eq-eqb x.number c s.has, none-without c s.back (back-apart s.front rise-is)) refl)

-- what a move and a removal leave
pub moved-left : (c : ℕ) (stage : Stage) (old new : List Connection × ℕ) (r : Bool) → climbs (numbers (list_of old)) ≡ true
    → OnTrue r ((x : Connection) × (s : StandsIn number c (list_of old) x) × (list_of new ≡ s.front ++ record { number = c; stage = stage } ∷ s.back))
    → OnFalse r (has_key number c (list_of old) ≡ false) → OnFalse r (new ≡ old) → list_of new ≡ at_stage c stage (list_of old)
moved-left c stage old new true rise replaced absent same = replaced.2 ∙ sym (found-moved c (list_of old) rise replaced.0 replaced.1 stage)
moved-left c stage old new false rise replaced absent same = ap list_of same ∙ sym (none-moved c stage (list_of old) absent)

-- what was moved has come so far
pub moved-stage : (c : ℕ) (stage : Stage) (old new : List Connection × ℕ) (r : Bool) → climbs (numbers (list_of old)) ≡ true → r ≡ true
    → OnTrue r ((x : Connection) × (s : StandsIn number c (list_of old) x) × (list_of new ≡ s.front ++ record { number = c; stage = stage } ∷ s.back))
    → list_of new ≡ at_stage c stage (list_of old) → stage_of (list_of new) c ≡ Some stage
moved-stage c stage old new true rise is replaced after = ap (λ (xs : List Connection). stage_of xs c) after ∙ moved-here c stage (list_of old)
    (ap is_live (found-stage c (list_of old) rise replaced.0 replaced.1))
moved-stage c stage old new false rise is replaced after = cc

pub removed-left : (c : ℕ) (old new : List Connection × ℕ) (r : Option Connection) → climbs (numbers (list_of old)) ≡ true
    → IfSome r (λ x. (s : StandsIn number c (list_of old) x) × (list_of new ≡ s.front ++ s.back)) → IfNone r (has_key number c (list_of old) ≡ false)
    → IfNone r (new ≡ old)
    → list_of new ≡ without c (list_of old)
removed-left c old new (Some x) rise removed absent same = removed.1 ∙ sym (found-without c (list_of old) rise x removed.0)
removed-left c old new None rise removed absent same = ap list_of same ∙ sym (none-without c (list_of old) absent)

-- a connection that moves keeps its number
pub numbers-moved : (c : ℕ) (stage : Stage) (live : List Connection) → numbers (at_stage c stage live) ≡ numbers live
numbers-moved c stage [] = refl
numbers-moved c stage (x ∷ live) = elim (cases_Bool (x.number == c)) [
  | inl y ↦ rw y (ap (λ (ns : List ℕ). x.number ∷ ns) (numbers-moved c stage live))
  | inr n ↦ rw n (ap (λ (ns : List ℕ). x.number ∷ ns) (numbers-moved c stage live))
]

pub numbers-without : (c : ℕ) (live : List Connection) → numbers (without c live) ≡ filter (λ n. not (n == c)) (numbers live)
numbers-without c [] = refl
numbers-without c (x ∷ live) = elim (cases_Bool (x.number == c)) [
  | inl y ↦ rw y (numbers-without c live)
  | inr n ↦ rw n (ap (λ (ns : List ℕ). x.number ∷ ns) (numbers-without c live))
]

climbs-filter : (f : ℕ → Bool) (ns : List ℕ) → climbs ns ≡ true → climbs (filter f ns) ≡ true
climbs-filter f [] h = refl
climbs-filter f (n ∷ ns) h = let parts = and_parts (list_all (λ m. nat_lt n m) ns) (climbs ns) h in elim (cases_Bool (f n)) [
  | inl y ↦ rw y
      (and_from (list_all (λ m. nat_lt n m) (filter f ns)) (climbs (filter f ns)) (all-filter (λ m. nat_lt n m) f ns parts.0) (climbs-filter f ns parts.1))
  | inr out ↦ rw out (climbs-filter f ns parts.1)
]

pub climbs-without : (c : ℕ) (live : List Connection) → climbs (numbers live) ≡ true → climbs (numbers (without c live)) ≡ true
climbs-without c live h = ap climbs (numbers-without c live) ∙ climbs-filter (λ n. not (n == c)) (numbers live) h

pub climbs-moved : (c : ℕ) (stage : Stage) (live : List Connection) → climbs (numbers live) ≡ true → climbs (numbers (at_stage c stage live)) ≡ true
climbs-moved c stage live h = ap climbs (numbers-moved c stage live) ∙ h

pub all-put : (test : ℕ → Bool) (x : Connection) (live : List Connection) → test x.number ≡ true → list_all test (numbers live) ≡ true
    → list_all test (numbers (put_connection x live)) ≡ true
all-put test x [] t h = and_from (test x.number) true t refl
all-put test x (y ∷ live) t h = let parts = and_parts (test y.number) (list_all test (numbers live)) h in elim (cases_Bool (nat_lt x.number y.number)) [
  | inl below ↦ rw below (and_from (test x.number) (list_all test (numbers (y ∷ live))) t h)
  | inr above ↦ elim (cases_Bool (y.number == x.number)) [
    | inl same ↦ rw (above, same) h
    | inr other ↦ rw (above, other) (and_from (test y.number) (list_all test (numbers (put_connection x live))) parts.0 (all-put test x live t parts.1))
  ]
]

over : (n m : ℕ) → nat_lt n m ≡ false → (m == n) ≡ false → nat_lt m n ≡ true
over n m a b = grind arith

pub climbs-put : (x : Connection) (live : List Connection) → climbs (numbers live) ≡ true → climbs (numbers (put_connection x live)) ≡ true
climbs-put x [] h = refl
climbs-put x (y ∷ live) h =
    let parts = and_parts (list_all (λ m. nat_lt y.number m) (numbers live)) (climbs (numbers live)) h in elim (cases_Bool (nat_lt x.number y.number)) [
      | inl below ↦ rw below (and_from (list_all (λ m. nat_lt x.number m) (numbers (y ∷ live))) (climbs (numbers (y ∷ live)))
          (and_from (nat_lt x.number y.number) (list_all (λ m. nat_lt x.number m) (numbers live)) below
          (all-over x.number y.number (numbers live) below parts.0))
          h)
      | inr above ↦ elim (cases_Bool (y.number == x.number)) [
        | inl same ↦ rw (above, same) h
        | inr other ↦
            rw (above, other) (and_from (list_all (λ m. nat_lt y.number m) (numbers (put_connection x live))) (climbs (numbers (put_connection x live)))
            (all-put (λ m. nat_lt y.number m) x live (over x.number y.number above other) parts.0) (climbs-put x live parts.1))
      ]
    ]
