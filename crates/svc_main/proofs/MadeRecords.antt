-- What the events of a record alone tell of it.
use Rattle.std.proofs.Common.{◌≡◌, ℕ, ◌+◌, ◌<◌, Bool, true, false, ◌||◌, ◌==◌, cond, List, [], ◌∷◌, ◌++◌, None, refl, sym, ap, ◌∙◌, inl, inr, arith}
use Rattle.std.specs.List.{list_any}
use Rattle.std.proofs.lemmas.Bool.{or_parts, or_from, eqb-true, both_ways, false_from_ne_true, cases_Bool}
use Rattle.std.proofs.lemmas.List.Folds.{list_any-append}
use Rattle.svc_record.specs.declared.event.Event.{Event}
use Rattle.svc_record.specs.declared.event.Event.TheVariants.{Moment, Signal}
use Rattle.svc_record.specs.declared.entry.Entry.{Entry}
use Rattle.svc_record.specs.declared.entry.Entry.TheVariants.{Got, Told}
use Rattle.svc_record.specs.declared.action.Action.{Action}
use Rattle.svc_record.specs.Record.{Record, has, times, tell, now, signal_of, EachEntry}
use Rattle.svc_record.specs.Asks.{is_open}
use Rattle.svc_server.specs.Runs.{events_of}

-- an event that passes the test came
abbrev pub came : Record → (Event → Bool) → Bool
came q t = list_any t (events_of q)

-- a test that no action passes
pub has-came : (t : Entry → Bool) → ((a : Action) → t (Told a) ≡ false) → (q : Record) → has t q ≡ came q (λ e. t (Got e))
has-came t none [] = refl
has-came t none (Told a ∷ q) = rw (none a) (has-came t none q)
has-came t none (Got e ∷ q) =
    swap (t (Got e)) (has t q) (came q (λ x. t (Got x))) (has-came t none q) ∙ sym (list_any-append (λ x. t (Got x)) (events_of q) (e ∷ []))
  where
    swap : (a b c : Bool) → b ≡ c → (a || b) ≡ (c || (a || false))
    swap true true c h = rw (← h) refl
    swap true false c h = rw (← h) refl
    swap false true c h = rw (← h) refl
    swap false false c h = rw (← h) refl

-- what is true of no entry stands in no record; and what one test finds another finds
pub has-implied : (s t : Entry → Bool) → ((e : Entry) → s e ≡ true → t e ≡ true) → (q : Record) → has t q ≡ false → has s q ≡ false
has-implied s t f [] h = refl
has-implied s t f (e ∷ q) h =
    let p = or_parts (t e) (has t q) h in
    or_from (s e) (has s q) (false_from_ne_true (s e) (λ yes. both_ways (t e) p.0 (f e yes))) (has-implied s t f q p.1)

pub times-none : (t : Entry → Bool) (q : Record) → times t q ≡ 0 → has t q ≡ false
times-none t [] h = refl
times-none t (e ∷ q) h = by (t e) refl (times-none t q)
  where
    by : (b : Bool) → t e ≡ b → (times t q ≡ 0 → has t q ≡ false) → has t (e ∷ q) ≡ false
    by true is later = absurd (let one : times t (e ∷ q) ≡ times t q + 1 = rw is refl in omega (arith, one, h))
    by false is later = let same : times t (e ∷ q) ≡ times t q = rw is refl in rw is (later (sym same ∙ h))

pub none-times : (t : Entry → Bool) (q : Record) → has t q ≡ false → times t q ≡ 0
none-times t [] h = refl
none-times t (e ∷ q) h = let p = or_parts (t e) (has t q) h in rw p.0 (none-times t q p.1)

pub times-some : (t : Entry → Bool) (q : Record) → 0 < times t q → has t q ≡ true
times-some t q h =
    elim (cases_Bool (has t q)) [
      | inl found ↦ found
      | inr missing ↦ absurd (let none = none-times t q missing in omega arith)
    ]

pub once-has : (b : Bool) (t : Entry → Bool) (q : Record) → b ≡ true → (times t q == cond b 1 0) ≡ true → has t q ≡ true
once-has b t q holds h = times-some t q (let e : times t q ≡ 1 = eqb-true (times t q) 1 (rw holds at h) in omega arith)

pub once-none : (b : Bool) (t : Entry → Bool) (q : Record) → b ≡ false → (times t q == cond b 1 0) ≡ true → has t q ≡ false
once-none b t q fails h = times-none t q (eqb-true (times t q) 0 (rw fails at h))

-- an ask without an answer is open, and without an ask none is
pub open-from : (ask answer : Entry → Bool) (q : Record) → has ask q ≡ true → has answer q ≡ false → is_open ask answer q ≡ true
open-from ask answer [] h n = absurd (both_ways false refl h)
open-from ask answer (e ∷ q) h n = by (ask e) refl (or_parts (answer e) (has answer q) n) (open-from ask answer q)
  where
    by : (b : Bool) → ask e ≡ b → (answer e ≡ false) × (has answer q ≡ false) → (has ask q ≡ true → has answer q ≡ false → is_open ask answer q ≡ true)
        → is_open ask answer (e ∷ q) ≡ true
    by true is p later = rw is refl
    by false is p later = rw (is, p.0) (later (rw is at h) p.1)

pub closed-from : (ask answer : Entry → Bool) (q : Record) → has ask q ≡ false → is_open ask answer q ≡ false
closed-from ask answer [] h = refl
closed-from ask answer (e ∷ q) h = let p = or_parts (ask e) (has ask q) h in rw p.0 (by (answer e) (closed-from ask answer q p.1))
  where
    by : (b : Bool) → is_open ask answer q ≡ false → cond b false (is_open ask answer q) ≡ false
    by true later = refl
    by false later = later

-- ---- the moment

abbrev pub now_in : ℕ → List Event → ℕ
now_in m [] = m
now_in m (Moment ms ∷ es) = now_in ms es
now_in m (e ∷ es) = now_in m es

pub now_in-append : (m : ℕ) (xs ys : List Event) → now_in m (xs ++ ys) ≡ now_in (now_in m xs) ys
now_in-append m [] ys = refl
now_in-append m (Moment ms ∷ es) ys = now_in-append ms es ys
now_in-append m (e ∷ es) ys = now_in-append m es ys

pub now-events : (q : Record) → now q ≡ now_in 0 (events_of q)
now-events [] = refl
now-events (Told a ∷ q) = now-events q
now-events (Got e ∷ q) = one e (now-events q) ∙ sym (now_in-append 0 (events_of q) (e ∷ []))
  where
    one : (x : Event) → now q ≡ now_in 0 (events_of q) → now (Got x ∷ q) ≡ now_in (now_in 0 (events_of q)) (x ∷ [])
    one (Moment ms) h = refl
    one x h = h

-- ---- the last event of a record

-- what was told since stands before it
pub record LastEvent (q : Record) (es : List Event) (e : Event) : Type 0 where
  pub told : List Action
  pub before : Record
  pub cut : q ≡ tell (Got e ∷ before) told
  pub events : events_of before ≡ es

last_of : (xs : List Event) (a b : Event) (ys : List Event) → xs ++ a ∷ [] ≡ ys ++ b ∷ [] → (xs ≡ ys) × (a ≡ b)
last_of [] a b [] h = (refl, cc)
last_of [] a b (y ∷ []) h = absurd cc
last_of [] a b (y ∷ z ∷ ys) h = absurd cc
last_of (x ∷ []) a b [] h = absurd cc
last_of (x ∷ z ∷ xs) a b [] h = absurd cc
last_of (x ∷ xs) a b (y ∷ ys) h =
    let rest : xs ++ a ∷ [] ≡ ys ++ b ∷ [] = cc in
    let same : x ≡ y = cc in
    let more = last_of xs a b ys rest in
    (ap (λ (z : Event). z ∷ xs) same ∙ ap (λ (zs : List Event). y ∷ zs) more.0, more.1)

none_last : (es : List Event) (e : Event) → [] ≡ es ++ e ∷ [] → ⊥
none_last [] e h = absurd cc
none_last (x ∷ es) e h = absurd cc

tell-more : (q : Record) (a : Action) (told : List Action) → Told a ∷ tell q told ≡ tell q (told ++ a ∷ [])
tell-more q a [] = refl
tell-more q a (b ∷ told) = tell-more (Told b ∷ q) a told

pub last-event : (q : Record) (es : List Event) (e : Event) → events_of q ≡ es ++ e ∷ [] → LastEvent q es e
last-event [] es e h = absurd (none_last es e h)
last-event (Told a ∷ q) es e h =
    let l = last-event q es e h in
    record {
      told = l.told ++ a ∷ [];
      before = l.before;
      cut = ap (λ (r : Record). Told a ∷ r) l.cut
          ∙ tell-more (Got e ∷ l.before) a l.told;
      events = l.events;
    }
last-event (Got x ∷ q) es e h =
    let p = last_of (events_of q) x e es h in
    record { told = []; before = q; cut = ap (λ (y : Event). Got y ∷ q) p.1; events = p.0 }

-- the kind of the signal isn't changed by what is told
pub signal-tell : (q : Record) (told : List Action) → signal_of (tell q told) ≡ signal_of q
signal-tell q [] = refl
signal-tell q (a ∷ told) = signal-tell (Told a ∷ q) told

-- without a signal there is no kind
abbrev pub is_signal_event : Event → Bool
is_signal_event (Signal kind) = true
is_signal_event _ = false

pub no-signal : (q : Record) → came q is_signal_event ≡ false → signal_of q ≡ None
no-signal [] h = refl
no-signal (Told a ∷ q) h = no-signal q h
no-signal (Got e ∷ q) h =
    one e ((or_parts (came q is_signal_event) _ (sym (list_any-append is_signal_event (events_of q) (e ∷ [])) ∙ h)).1)
    ∙ no-signal q (or_parts (came q is_signal_event) _ (sym (list_any-append is_signal_event (events_of q) (e ∷ [])) ∙ h)).0
  where
    one : (x : Event) → (is_signal_event x || false) ≡ false → signal_of (Got x ∷ q) ≡ signal_of q
    one (Signal kind) n = absurd (both_ways true n refl)
    one x n = refl

-- ---- what holds of each entry holds before each

-- an entry that passes the test, with what stands before it, of which each entry meets P too
pub record Found (t : Entry → Bool) (P : Entry → Record → Type 0) (q : Record) : Type 0 where
  pub entry : Entry
  pub before : Record
  pub passes : t entry ≡ true
  pub meets : P entry before
  pub each : EachEntry P before
  pub came_then : (s : Event → Bool) → came q s ≡ false → came before s ≡ false

pub find-entry : (t : Entry → Bool) (P : Entry → Record → Type 0) (q : Record) → EachEntry P q → has t q ≡ true → Found t P q
find-entry t P [] each h = absurd (both_ways false refl h)
find-entry t P (e ∷ q) each h = by (t e) refl (find-entry t P q each.1)
  where
    of : (x : Entry) (s : Event → Bool) → came (x ∷ q) s ≡ false → came q s ≡ false
    of (Told a) s m = m
    of (Got x) s m = (or_parts (came q s) _ (sym (list_any-append s (events_of q) (x ∷ [])) ∙ m)).0

    by : (b : Bool) → t e ≡ b → (has t q ≡ true → Found t P q) → Found t P (e ∷ q)
    by true is later = record { entry = e; before = q; passes = is; meets = each.0; each = each.1; came_then = of e }
    by false is later =
        let f = later (rw is at h) in
        record { entry = f.entry; before = f.before; passes = f.passes; meets = f.meets; each = f.each; came_then = λ s n. f.came_then s (of e s n) }
