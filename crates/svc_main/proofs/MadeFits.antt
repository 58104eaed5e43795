-- What stands of a right record of the generator's events while its run goes on.
use Rattle.std.proofs.Common.{◌≡◌, ℕ, zero, suc, ◌+◌, ◌<◌, ◌≤◌, Bool, true, false, not, ◌&&◌, ◌||◌, ◌==◌, cond, List, [], ◌∷◌, ◌++◌, length, map, filter, Some, refl, sym, ap, ◌∙◌, inl, inr, arith, length-append}
use Rattle.std.specs.Prelude.{count_by}
use Rattle.std.specs.List.{list_any, list_all}
use Rattle.std.proofs.lemmas.Bool.{and_parts, and_from, or_cases, or_left, or_right, or_parts, or_from, eqb-true, eq-eqb, lt-leb, both_ways, false_from_ne_true, true_from_ne_false, cases_Bool, not_from_false, OnTrue_at}
use Rattle.std.proofs.lemmas.List.Folds.{list_any-append, Any-from_list_any}
use Rattle.svc_record.specs.declared.plan.Plan.{Plan}
use Rattle.svc_record.specs.declared.event.Event.{Event}
use Rattle.svc_record.specs.declared.event.Event.TheVariants as events
use Rattle.svc_record.specs.declared.entry.Entry.{Entry}
use Rattle.svc_record.specs.declared.entry.Entry.TheVariants.{Got, Told}
use Rattle.svc_record.specs.declared.action.Action.TheVariants.{Adopt}
use Rattle.svc_record.specs.Record.{Record, has, times, now, is_running, is_signal, from_the_start, EachEntry}
use Rattle.svc_record.specs.Plans.{endpoint_numbers, address, same_address, services}
use Rattle.svc_record.specs.Descriptors.{Descriptor, descriptors_of, opened_descriptors, live_descriptors, live_numbers_with, has_live, is_close}
use Rattle.svc_record.specs.Failed.{is_failure, in_use_count, has_failed}
use Rattle.svc_record.specs.Asks.{is_bind_open, is_adopt, is_adopt_answer}
use Rattle.svc_record.specs.AskRules.{ask_due}
use Rattle.svc_record.specs.Starts.{is_start, is_started, is_ready, is_ready_event, is_due, StartsRight}
use Rattle.svc_record.specs.Endpoints.{held_numbers, is_held, is_one_of, holds, is_at_work, in_use_within, is_busy, is_busy_elsewhere, waits_at, first_missing, waits_from, waits}
use Rattle.svc_record.specs.Boot.{runs}
use Rattle.svc_record.specs.Right.{OpenRight, in_service}
use Rattle.svc_server.specs.Runs.{events_of}
use Rattle.svc_main.specs.Generator.{is_even, made_plan}
use Rattle.svc_main.proofs.MadeRecords.{came, has-came, times-some, once-has, closed-from, find-entry}
use Rattle.svc_main.proofs.MadeLists.{is_usual, is_in_use_of, count-append}
use Rattle.svc_main.proofs.MadePlan.{plan-count, endpoints-at, numbers-at, unix-at, own-address, kind-even, depends-pass}

-- an event that isn't usual
abbrev pub is_odd : Event → Bool
is_odd e = not (is_usual e)

-- the service's address was bound
abbrev pub is_bound_at : ℕ → Event → Bool
is_bound_at s (events.Bound t j fd) = t == s && j == 0
is_bound_at s _ = false

pub usual-came : (xs : List Event) → list_all is_usual xs ≡ true → list_any is_odd xs ≡ false
usual-came [] h = refl
usual-came (e ∷ xs) h = let p = and_parts (is_usual e) (list_all is_usual xs) h in rw p.0 (usual-came xs p.1)

pub any-implied : {X : Type 0} (s t : X → Bool) → ((x : X) → s x ≡ true → t x ≡ true) → (xs : List X) → list_any t xs ≡ false → list_any s xs ≡ false
any-implied s t f [] h = refl
any-implied s t f (x ∷ xs) h =
    let p = or_parts (t x) (list_any t xs) h in
    or_from (s x) (list_any s xs) (false_from_ne_true (s x) (λ found. both_ways (t x) p.0 (f x found))) (any-implied s t f xs p.1)

pub came-implied : (s t : Event → Bool) (q : Record) → ((e : Event) → s e ≡ true → t e ≡ true) → came q t ≡ false → came q s ≡ false
came-implied s t q f h = any-implied s t f (events_of q) h

-- a test that no usual event passes
pub came-none : (t : Event → Bool) (q : Record) → ((e : Event) → is_usual e ≡ true → t e ≡ false) → came q is_odd ≡ false → came q t ≡ false
came-none t q f h = came-implied t is_odd q (λ e found. true_from_ne_false (is_odd e) (λ plain. both_ways (t e) (f e (not-usual e plain)) found)) h
  where
    not-usual : (e : Event) → not (is_usual e) ≡ false → is_usual e ≡ true
    not-usual e n = elim (cases_Bool (is_usual e)) [ inl u ↦ u | inr o ↦ absurd (both_ways (not (is_usual e)) n (not_from_false (is_usual e) o)) ]

-- the same of what stands before the last event
came-before : (t : Event → Bool) (q : Record) (e : Event) → came (Got e ∷ q) t ≡ false → (came q t ≡ false) × (t e ≡ false)
came-before t q e h =
    let p = or_parts (came q t) (t e || false) (sym (list_any-append t (events_of q) (e ∷ [])) ∙ h) in
    (p.0, (or_parts (t e) false p.1).0)

-- ---- it runs

pub runs-now : (n : ℕ) (q : Record) → OpenRight (made_plan n) q → from_the_start q ≡ true
runs-now n q going =
    let entries = and_parts _ _ going.boot.entries in
    let last = and_parts _ _ entries.1 in
    once-has (runs (made_plan n) q) is_running q refl last.1

-- ---- no service has failed

in_use-le : (p : Plan) (s i : ℕ) (q : Record) → in_use_count p q s i ≤ count_by (is_in_use_of s) (events_of q)
in_use-le p s i [] = omega arith
in_use-le p s i (Told a ∷ q) = in_use-le p s i q
in_use-le p s i (Got e ∷ q) = by e (in_use-le p s i q)
  where
    all : (x : Event) → count_by (is_in_use_of s) (events_of q ++ x ∷ []) ≡ count_by (is_in_use_of s) (events_of q) + count_by (is_in_use_of s) (x ∷ [])
    all x = count-append (is_in_use_of s) (events_of q) (x ∷ [])

    step : (b : Bool) → in_use_count p q s i ≤ count_by (is_in_use_of s) (events_of q)
        → cond b (in_use_count p q s i + 1) (in_use_count p q s i) ≤ count_by (is_in_use_of s) (events_of q) + cond b 1 0
    step true h = omega (arith, h)
    step false h = omega (arith, h)

    wider : (a b c : Bool) → in_use_count p q s i ≤ count_by (is_in_use_of s) (events_of q)
        → cond ((a && b) && c) (in_use_count p q s i + 1) (in_use_count p q s i) ≤ count_by (is_in_use_of s) (events_of q) + cond a 1 0
    wider true true true h = omega (arith, h)
    wider true true false h = omega (arith, h)
    wider true false c h = omega (arith, h)
    wider false b c h = omega (arith, h)

    by : (x : Event) → in_use_count p q s i ≤ count_by (is_in_use_of s) (events_of q)
        → in_use_count p (Got x ∷ q) s i ≤ count_by (is_in_use_of s) (events_of (Got x ∷ q))
    by (events.InUse t j) h = let w = wider (t == s) (j == i) (not (has_live p q (address p s i))) h in omega (arith, all (events.InUse t j), w)
    by x h = omega (arith, all x, h)

pub not-failed : (n s : ℕ) (q : Record) → s < n → came q is_odd ≡ false → count_by (is_in_use_of s) (events_of q) ≤ 1 → has_failed (made_plan n) q s ≡ false
not-failed n s q lt odd once =
    let failing : has (is_failure s 0) q ≡ false = has-came (is_failure s 0) (λ a. refl) q ∙ came-none (λ e. is_failure s 0 (Got e)) q f odd in
    let few : in_use_count (made_plan n) q s 0 < 30 = let le = in_use-le (made_plan n) s 0 q in omega arith in
    rw (numbers-at n s lt, unix-at n s lt, failing, lt-leb 30 (in_use_count (made_plan n) q s 0) few) refl
  where
    f : (e : Event) → is_usual e ≡ true → is_failure s 0 (Got e) ≡ false
    f (events.BindFailed t j) u = absurd cc
    f (events.AdoptFailed t j) u = absurd cc
    f e u = refl

-- ---- services are started

starts-due : (n s : ℕ) (q : Record) → s < n → StartsRight (made_plan n) q → is_due (made_plan n) q s ≡ true → times (is_start s) q ≡ 1
starts-due n s q lt starts due = let each = starts.each s (let count = plan-count n in omega arith) in rw due at each

-- a service that is ready
ready-now : (n t : ℕ) (q : Record) → t < n → is_started q t ≡ true → (is_even t ≡ false → has (is_ready_event t) q ≡ true) → is_ready (made_plan n) q t ≡ true
ready-now n t q lt started says = by (is_even t) refl
  where
    by : (b : Bool) → is_even t ≡ b → is_ready (made_plan n) q t ≡ true
    by true even = or_right _ _ (and_from (is_started q t) _ started (or_left _ _ (kind-even n t lt even)))
    by false odd = or_left _ _ (or_left _ _ (or_left _ _ (says odd)))

pub started-once : (n s : ℕ) (q : Record) → s < n → StartsRight (made_plan n) q → ((j : ℕ) → j < s → is_even j ≡ false → has (is_ready_event j) q ≡ true)
    → times (is_start s) q ≡ 1
started-once n zero q lt going says = starts-due n zero q lt going (depends-pass n zero (is_ready (made_plan n) q) lt (λ t e. absurd (omega arith)))
started-once n (suc s) q lt going says =
    let once : times (is_start s) q ≡ 1 = started-once n s q (omega arith) going (λ j below odd. says j (omega arith) odd) in
    let before : is_started q s ≡ true = times-some (is_start s) q (omega arith) in
    let this : is_ready (made_plan n) q s ≡ true = ready-now n s q (omega arith) before (says s (omega arith)) in
    starts-due n (suc s) q lt going
    (depends-pass n (suc s) (is_ready (made_plan n) q) lt (λ t e. let same : s ≡ t = omega arith in ap (is_ready (made_plan n) q) (sym same) ∙ this))

pub started-now : (n s : ℕ) (q : Record) → s < n → StartsRight (made_plan n) q → ((j : ℕ) → j < s → is_even j ≡ false → has (is_ready_event j) q ≡ true)
    → is_started q s ≡ true
started-now n s q lt starts says = times-some (is_start s) q (let once = started-once n s q lt starts says in omega arith)

-- ---- descriptors

any-filter-none : {X : Type 0} (f g : X → Bool) (xs : List X) → list_any f xs ≡ false → list_any f (filter g xs) ≡ false
any-filter-none f g [] h = refl
any-filter-none f g (x ∷ xs) h = let p = or_parts (f x) (list_any f xs) h in by (g x) p.0 (any-filter-none f g xs p.1)
  where
    by : (b : Bool) → f x ≡ false → list_any f (filter g xs) ≡ false → list_any f (cond b (x ∷ filter g xs) (filter g xs)) ≡ false
    by true here more = or_from (f x) _ here more
    by false here more = more

-- nothing with the service's address was opened, where it wasn't bound
opened-none : (n s : ℕ) (q : Record) → n ≤ 1024 → s < n → came q is_odd ≡ false → came q (is_bound_at s) ≡ false
    → list_any (λ (d : Descriptor). same_address d.address (address (made_plan n) s 0)) (opened_descriptors (made_plan n) q) ≡ false
opened-none n s [] few lt odd none = refl
opened-none n s (Told a ∷ q) few lt odd none = opened-none n s q few lt odd none
opened-none n s (Got e ∷ q) few lt odd none =
    list_any-append f (descriptors_of (made_plan n) (Got e)) (opened_descriptors (made_plan n) q)
    ∙ or_from _ _ (one e (came-before is_odd q e odd).1 (came-before (is_bound_at s) q e none).1)
    (opened-none n s q few lt (came-before is_odd q e odd).0 (came-before (is_bound_at s) q e none).0)
  where
    f : Descriptor → Bool
    f d = same_address d.address (address (made_plan n) s 0)

    one : (x : Event) → is_odd x ≡ false → is_bound_at s x ≡ false → list_any f (descriptors_of (made_plan n) (Got x)) ≡ false
    one (events.Bound t j fd) o b =
        or_from _ false
        (false_from_ne_true _
        (λ same. let own = own-address n s t j few lt same in both_ways (t == s && j == 0) b (and_from _ _ (eq-eqb t s own.0) (eq-eqb j 0 own.1)))) refl
    one (events.Received bytes fds) o b = absurd cc
    one x o b = refl

pub not-live : (n s : ℕ) (q : Record) → n ≤ 1024 → s < n → came q is_odd ≡ false → came q (is_bound_at s) ≡ false
    → has_live (made_plan n) q (address (made_plan n) s 0) ≡ false
not-live n s q few lt odd none =
    any-filter-none _ (λ (d : Descriptor). not (has (is_close d.number) q)) (opened_descriptors (made_plan n) q) (opened-none n s q few lt odd none)

-- ---- nothing is adopted

found-kept : (f : Descriptor → Bool) (h : ℕ → Bool) (ds : List Descriptor) → list_any h (map (λ (d : Descriptor). d.number) (filter f ds)) ≡ true
    → list_any f ds ≡ true
found-kept f h [] e = absurd (both_ways false refl e)
found-kept f h (d ∷ ds) e = by (f d) refl (found-kept f h ds)
  where
    by : (b : Bool) → f d ≡ b → (list_any h (map (λ (x : Descriptor). x.number) (filter f ds)) ≡ true → list_any f ds ≡ true) → list_any f (d ∷ ds) ≡ true
    by true is later = or_left _ _ is
    by false is later = or_right _ _ (later (rw is at e))

pub not-adopted : (n s : ℕ) (q : Record) → n ≤ 1024 → s < n → came q is_odd ≡ false → came q (is_bound_at s) ≡ false
    → EachEntry (λ e before. ask_due (made_plan n) e before ≡ true) q → has (is_adopt s 0) q ≡ false
not-adopted n s q few lt odd none each =
    false_from_ne_true (has (is_adopt s 0) q) (λ found. let f = find-entry (is_adopt s 0) (λ e before. ask_due (made_plan n) e before ≡ true) q each found in
    never f.entry f.before f.passes f.meets (f.came_then is_odd odd) (f.came_then (is_bound_at s) none))
  where
    never : (e : Entry) (before : Record) → is_adopt s 0 e ≡ true → ask_due (made_plan n) e before ≡ true → came before is_odd ≡ false
        → came before (is_bound_at s) ≡ false → ⊥
    never (Told (Adopt t j fd)) before is due o b =
        let same = and_parts (t == s) (j == 0) is in
        let listed = and_parts _ _ due in
        let live : has_live (made_plan n) before (address (made_plan n) t j) ≡ true =
        found-kept (λ (d : Descriptor). same_address d.address (address (made_plan n) t j)) (λ m. m == fd)
        (live_descriptors (made_plan n) before) listed.1 in
        both_ways _ (not-live n s before few lt o b)
        (ap (λ (i : ℕ). has_live (made_plan n) before (address (made_plan n) s i)) (sym (eqb-true j 0 same.1))
        ∙ ap (λ (i : ℕ). has_live (made_plan n) before (address (made_plan n) i j)) (sym (eqb-true t s same.0)) ∙ live)
    never (Got e) before is due o b = absurd cc
    never e before is due o b = absurd cc

-- ---- the endpoint isn't held

held-none : (n s : ℕ) (q : Record) → came q is_odd ≡ false → came q (is_bound_at s) ≡ false → held_numbers (made_plan n) q s 0 ≡ []
held-none n s [] odd none = refl
held-none n s (Told a ∷ q) odd none = held-none n s q odd none
held-none n s (Got e ∷ q) odd none =
    one e (came-before is_odd q e odd).1 (came-before (is_bound_at s) q e none).1
    (held-none n s q (came-before is_odd q e odd).0 (came-before (is_bound_at s) q e none).0)
  where
    one : (x : Event) → is_odd x ≡ false → is_bound_at s x ≡ false → held_numbers (made_plan n) q s 0 ≡ [] → held_numbers (made_plan n) (Got x ∷ q) s 0 ≡ []
    one (events.Bound t j fd) o b more = rw b more
    one (events.Adopted t j) o b more = absurd cc
    one x o b more = more

pub not-held : (n s : ℕ) (q : Record) → came q is_odd ≡ false → came q (is_bound_at s) ≡ false → is_held (made_plan n) q s 0 ≡ false
not-held n s q odd none = rw (held-none n s q odd none) refl

-- ---- so a bind is open

no-holder : (numbers : List ℕ) → is_one_of numbers [] ≡ false
no-holder [] = refl
no-holder (x ∷ []) = refl
no-holder (x ∷ y ∷ more) = refl

-- busy elsewhere means busy itself, since its address is its own
own-busy : (n s : ℕ) (q : Record) → n ≤ 1024 → s < n → is_busy_elsewhere (made_plan n) q (address (made_plan n) s 0) ≡ true → is_busy (made_plan n) q s 0 ≡ true
own-busy n s q few lt h =
    let t = Any-from_list_any outer (services (made_plan n)) h in
    let i = Any-from_list_any (inner t.1) (endpoint_numbers (made_plan n) t.1) t.4 in
    let parts = and_parts (same_address (address (made_plan n) t.1 i.1) (address (made_plan n) s 0)) _ i.4 in
    let own = own-address n s t.1 i.1 few lt parts.0 in
    let busy : is_busy (made_plan n) q t.1 i.1 ≡ true = (and_parts _ _ parts.1).1 in
    ap (λ (k : ℕ). is_busy (made_plan n) q k 0) (sym own.0) ∙ ap (is_busy (made_plan n) q t.1) (sym own.1) ∙ busy
  where
    inner : ℕ → ℕ → Bool
    inner t i = same_address (address (made_plan n) t i) (address (made_plan n) s 0) && (is_at_work (made_plan n) q t && is_busy (made_plan n) q t i)

    outer : ℕ → Bool
    outer t = list_any (inner t) (endpoint_numbers (made_plan n) t)

waits-first : (n s : ℕ) (q : Record) → s < n → is_held (made_plan n) q s 0 ≡ false → waits (made_plan n) q s 0 ≡ true → waits_at (made_plan n) q s 0 ≡ true
waits-first n s q lt free h =
    let first : first_missing (made_plan n) q s (endpoint_numbers (made_plan n) s) ≡ Some 0 =
    ap (first_missing (made_plan n) q s) (numbers-at n s lt) ∙ rw free refl in
    ap (waits_from (made_plan n) q s 0) (sym first) ∙ h

-- what a service at work whose endpoint isn't held waits for: the answer to a bind, unless it rests
pub bind-open : (n s : ℕ) (q : Record) → n ≤ 1024 → s < n → OpenRight (made_plan n) q → EachEntry (λ e before. ask_due (made_plan n) e before ≡ true) q
    → came q is_odd ≡ false → has is_signal q ≡ false → is_at_work (made_plan n) q s ≡ true → came q (is_bound_at s) ≡ false
    → in_use_within (now q) q s 0 ≡ false → is_bind_open q s 0 ≡ true
bind-open n s q few lt going asks odd unsigned work none rested =
    let serving : in_service q ≡ true = and_from _ _ (runs-now n q going) (not_from_false _ unsigned) in
    let due = (OnTrue_at serving going.endpoints) s 0 (let count = plan-count n in omega arith)
    (let one = endpoints-at n s lt in omega (arith, ap length one)) in
    let live : List ℕ = live_numbers_with (made_plan n) q (address (made_plan n) s 0) in
    let waiting : (holds (made_plan n) q s 0 || waits (made_plan n) q s 0) ≡ true = rw work at due in
    elim (or_cases _ _ waiting) [
      | inl holding ↦ absurd (both_ways _ (ap (is_one_of live) (held-none n s q odd none) ∙ no-holder live) holding)
      | inr later ↦
          let at : waits_at (made_plan n) q s 0 ≡ true = waits-first n s q lt (not-held n s q odd none) later in
          let busy : is_busy (made_plan n) q s 0 ≡ true = elim (or_cases _ _ at) [
            | inl here ↦ here
            | inr elsewhere ↦ own-busy n s q few lt (and_parts _ _ elsewhere).1
          ] in
          elim (or_cases _ _ busy) [
            | inl asked ↦ elim (or_cases _ _ asked) [
              | inl bound ↦ bound
              | inr adopted ↦ absurd (both_ways _ (closed-from (is_adopt s 0) (is_adopt_answer s 0) q (not-adopted n s q few lt odd none asks)) adopted)
            ]
            | inr resting ↦ absurd (both_ways _ rested (and_parts _ _ (and_parts _ _ resting).0).1)
          ]
    ]

-- ---- a bound endpoint is held

after-false : (a b : Bool) → a ≡ false → (a || b) ≡ true → b ≡ true
after-false false b n h = h
after-false true b n h = absurd (both_ways true n refl)

pub plain-true : (b : Bool) → (b || false) ≡ true → b ≡ true
plain-true true h = refl
plain-true false h = absurd (both_ways false refl h)

pub held-some : (n s : ℕ) (q : Record) → n ≤ 1024 → s < n → came q is_odd ≡ false → came q (is_bound_at s) ≡ true
    → 0 < length (held_numbers (made_plan n) q s 0)
held-some n s [] few lt odd h = absurd (both_ways false refl h)
held-some n s (Told a ∷ q) few lt odd h = held-some n s q few lt odd h
held-some n s (Got e ∷ q) few lt odd h = one e (came-before is_odd q e odd) h (held-some n s q few lt (came-before is_odd q e odd).0)
  where
    kept : (x : Event) → is_bound_at s x ≡ false → came (Got x ∷ q) (is_bound_at s) ≡ true → came q (is_bound_at s) ≡ true
    kept x none found =
        elim (or_cases (came q (is_bound_at s)) (is_bound_at s x || false) (sym (list_any-append (is_bound_at s) (events_of q) (x ∷ [])) ∙ found)) [
          | inl before ↦ before
          | inr here ↦ absurd (both_ways _ none (plain-true _ here))
        ]

    one : (x : Event) → (came q is_odd ≡ false) × (is_odd x ≡ false) → came (Got x ∷ q) (is_bound_at s) ≡ true
        → (came q (is_bound_at s) ≡ true → 0 < length (held_numbers (made_plan n) q s 0)) → 0 < length (held_numbers (made_plan n) (Got x ∷ q) s 0)
    one (events.Bound t j fd) o found later =
        elim (cases_Bool (came q (is_bound_at s))) [
          | inl before ↦
              let more = later before in
              omega (
                arith,
                length-append (cond ((t == s && j == 0) && not (has_live (made_plan n) q (address (made_plan n) t j))) (fd ∷ []) [])
                    (held_numbers (made_plan n) q s 0),
                more,
              )
          | inr none ↦
              let now-true : ((t == s && j == 0) || false) ≡ true =
              after-false _ _ none (sym (list_any-append (is_bound_at s) (events_of q) (events.Bound t j fd ∷ [])) ∙ found) in
              let here : (t == s && j == 0) ≡ true = plain-true _ now-true in
              let same = and_parts (t == s) (j == 0) here in
              let free : has_live (made_plan n) q (address (made_plan n) t j) ≡ false =
              ap (λ (i : ℕ). has_live (made_plan n) q (address (made_plan n) i j)) (eqb-true t s same.0)
              ∙ ap (λ (i : ℕ). has_live (made_plan n) q (address (made_plan n) s i)) (eqb-true j 0 same.1) ∙ not-live n s q few lt o.0 none in
              let first : held_numbers (made_plan n) (Got (events.Bound t j fd) ∷ q) s 0 ≡ fd ∷ held_numbers (made_plan n) q s 0 = rw (here, free) refl in
              omega (arith, ap length first)
        ]
    one (events.Adopted t j) o found later = absurd (let odd-one = o.1 in cc)
    one (events.Moment ms) o found later = later (kept (events.Moment ms) refl found)
    one (events.Ready t) o found later = later (kept (events.Ready t) refl found)
    one (events.InUse t j) o found later = later (kept (events.InUse t j) refl found)
    one (events.Arrived t j c peer) o found later = later (kept (events.Arrived t j c peer) refl found)
    one (events.Set c ok) o found later = later (kept (events.Set c ok) refl found)
    one (events.Shaken c ok) o found later = later (kept (events.Shaken c ok) refl found)
    one (events.Finished c) o found later = later (kept (events.Finished c) refl found)
    one (events.Signal kind) o found later = later (kept (events.Signal kind) refl found)
    one x o found later = absurd (let odd-one = o.1 in cc)
