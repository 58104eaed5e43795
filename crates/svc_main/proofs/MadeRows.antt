-- Each event of the generator fits the record of those before it.
use Rattle.std.proofs.Common.{◌≡◌, ◌⊎◌, ℕ, ◌+◌, ◌-◌, ◌*◌, ◌<◌, ◌≤◌, Bool, true, false, not, ◌&&◌, ◌||◌, ◌==◌, cond, ltb, List, [], ◌∷◌, ◌++◌, map, filter, refl, sym, ap, subst, ◌∙◌, inl, inr, arith, append_assoc}
use Rattle.std.specs.Prelude.{count_by}
use Rattle.std.specs.List.{list_any, list_all}
use Rattle.std.proofs.lemmas.Bool.{and_parts, and_from, or_cases, or_left, or_right, or_parts, or_from, eqb-true, eq-eqb, ne_eqb, le-leb, le-ltb, lt-ltb, both_ways, not_from_false, OnTrue_at}
use Rattle.std.proofs.lemmas.List.Folds.{list_any-append}
use Rattle.svc_socket.specs.declared.peer.Peer.TheVariants as peers
use Rattle.svc_record.specs.declared.plan.Plan.{Plan}
use Rattle.svc_record.specs.declared.event.Event.{Event}
use Rattle.svc_record.specs.declared.event.Event.TheVariants as events
use Rattle.svc_record.specs.declared.entry.Entry.{Entry}
use Rattle.svc_record.specs.declared.entry.Entry.TheVariants.{Got, Told}
use Rattle.svc_record.specs.declared.action.Action.{Action}
use Rattle.svc_record.specs.declared.action.Action.TheVariants as actions
use Rattle.svc_record.specs.Record.{Record, has, tell, now, is_signal, EachEntry}
use Rattle.svc_record.specs.Plans.{is_endpoint}
use Rattle.svc_record.specs.Descriptors.{brings}
use Rattle.svc_record.specs.Asks.{is_settings, is_set, is_handshake, is_shaken}
use Rattle.svc_record.specs.AskRules.{ask_due}
use Rattle.svc_record.specs.Starts.{is_started, is_ready_event}
use Rattle.svc_record.specs.Endpoints.{is_held, is_at_work, in_use_within, serves}
use Rattle.svc_record.specs.Closes.{ended_loops, have_loops_ended}
use Rattle.svc_record.specs.Connections.{Arrival, arrivals, arrived_numbers, is_arrival, is_judged, is_judged_as, is_refuse, is_serve, is_drop, is_cut, is_finished, is_set_as, is_shaken_as, goes_on, connection_right, is_known}
use Rattle.svc_record.specs.Drain.{is_ending}
use Rattle.svc_record.specs.Fits.{fits_row}
use Rattle.svc_record.specs.Right.{OpenRight}
use Rattle.svc_server.specs.Runs.{events_of}
use Rattle.svc_main.specs.Generator.{is_even, made_plan, made_moment, made_word, made_start, made_events_of, made_events_to}
use Rattle.svc_main.proofs.MadeRecords.{came, has-came, has-implied, once-has, once-none, open-from, now_in, now-events, now_in-append, last-event}
use Rattle.svc_main.proofs.MadeLists.{is_usual, is_on, is_of, is_in_use_of, word-test, on-other, of-other, none-to, some-to, ready-of, now-to, InStart, InConnection, InEnd}
use Rattle.svc_main.proofs.MadePlan.{numbers-at, endpoints-at, kind-odd}
use Rattle.svc_main.proofs.MadeFits.{is_odd, is_bound_at, any-implied, came-none, plain-true, runs-now, not-failed, started-now, bind-open, held-some}

-- what is known of the record before an event of n services, while its run goes on
pub record Here (n : ℕ) (q : Record) : Type 0 where
  pub few : n ≤ 1024
  pub going : OpenRight (made_plan n) q
  pub asks : EachEntry (λ e before. ask_due (made_plan n) e before ≡ true) q
  pub odd : came q is_odd ≡ false
  pub unsigned : has is_signal q ≡ false
  pub once : (s : ℕ) → count_by (is_in_use_of s) (events_of q) ≤ 1

-- the events of the services before k came, and these
abbrev Behind : ℕ → List Event → Record → Type 0
Behind k front q = events_of q ≡ made_events_to k ++ front

came-behind : (t : Event → Bool) (k : ℕ) (front : List Event) (q : Record) → Behind k front q → came q t ≡ (list_any t (made_events_to k) || list_any t front)
came-behind t k front q cut = ap (list_any t) cut ∙ list_any-append t (made_events_to k) front

-- a test of the service's own events
on-behind : (t : Event → Bool) (k : ℕ) (front : List Event) (q : Record) → Behind k front q → ((e : Event) → t e ≡ true → is_on k e ≡ true)
    → list_any t front ≡ false → came q t ≡ false
on-behind t k front q cut f h =
    came-behind t k front q cut
    ∙ or_from _ _ (none-to t k (λ j lt. any-implied t (is_on k) f (made_events_of j) (on-other k j (λ same. omega (arith, same, lt))))) h

-- the service is started and at work
started-behind : (n k : ℕ) (front : List Event) (q : Record) → Here n q → k < n → Behind k front q → is_started q k ≡ true
started-behind n k front q here lt cut =
    started-now n k q lt (OnTrue_at (runs-now n q here.going) here.going.starts)
    (λ j below odd-one. has-came (is_ready_event j) (λ a. refl) q ∙ came-behind (λ e. is_ready_event j (Got e)) k front q cut
    ∙ or_left _ _ (some-to (λ e. is_ready_event j (Got e)) k j below (ready-of j odd-one)))

work-behind : (n k : ℕ) (front : List Event) (q : Record) → Here n q → k < n → Behind k front q → is_at_work (made_plan n) q k ≡ true
work-behind n k front q here lt cut = and_from _ _ (started-behind n k front q here lt cut) (not_from_false _ (not-failed n k q lt here.odd (here.once k)))

-- ---- the address was in use

in-use-none : (t s : ℕ) (q : Record) → came q (is_in_use_of s) ≡ false → in_use_within t q s 0 ≡ false
in-use-none t s [] h = refl
in-use-none t s (Told a ∷ q) h = one a (in-use-none t s q h)
  where
    choice : (b : Bool) → in_use_within t q s 0 ≡ false → cond b false (in_use_within t q s 0) ≡ false
    choice true m = refl
    choice false m = m

    one : (x : Action) → in_use_within t q s 0 ≡ false → in_use_within t (Told x ∷ q) s 0 ≡ false
    one (actions.Bind a b) m = choice (a == s && b == 0) m
    one x m = m
in-use-none t s (Got e ∷ q) h =
    one e (or_parts (came q (is_in_use_of s)) _ (sym (list_any-append (is_in_use_of s) (events_of q) (e ∷ [])) ∙ h)).1
    (in-use-none t s q (or_parts (came q (is_in_use_of s)) _ (sym (list_any-append (is_in_use_of s) (events_of q) (e ∷ [])) ∙ h)).0)
  where
    choice : (b : Bool) → in_use_within t q s 0 ≡ false → cond b false (in_use_within t q s 0) ≡ false
    choice true m = refl
    choice false m = m

    one : (x : Event) → (is_in_use_of s x || false) ≡ false → in_use_within t q s 0 ≡ false → in_use_within t (Got x ∷ q) s 0 ≡ false
    one (events.InUse a b) n m = rw (or_parts (a == s) false n).0 m
    one (events.Bound a b fd) n m = choice (a == s && b == 0) m
    one (events.BindFailed a b) n m = choice (a == s && b == 0) m
    one x n m = m

in-use-tell : (t s : ℕ) (q : Record) (told : List Action) → in_use_within t q s 0 ≡ false → in_use_within t (tell q told) s 0 ≡ false
in-use-tell t s q [] h = h
in-use-tell t s q (a ∷ told) h = in-use-tell t s (Told a ∷ q) told (one a h)
  where
    choice : (b : Bool) → in_use_within t q s 0 ≡ false → cond b false (in_use_within t q s 0) ≡ false
    choice true m = refl
    choice false m = m

    one : (x : Action) → in_use_within t q s 0 ≡ false → in_use_within t (Told x ∷ q) s 0 ≡ false
    one (actions.Bind a b) m = choice (a == s && b == 0) m
    one x m = m

now-behind : (k : ℕ) (front : List Event) (q : Record) → Behind k front q → now q ≡ now_in (1000 * k) front
now-behind k front q cut = now-events q ∙ ap (now_in 0) cut ∙ now_in-append 0 (made_events_to k) front ∙ ap (λ (m : ℕ). now_in m front) (now-to k)

-- a second later it may be bound again
in-use-rested : (k t : ℕ) (q : Record) → Behind k (events.InUse k 0 ∷ events.Moment (made_moment k) ∷ []) q → t ≡ made_moment k → in_use_within t q k 0 ≡ false
in-use-rested k t q cut is =
    let last = last-event q (made_events_to k ++ events.InUse k 0 ∷ []) (events.Moment (made_moment k))
    (cut ∙ sym (append_assoc (made_events_to k) (events.InUse k 0 ∷ []) (events.Moment (made_moment k) ∷ []))) in
    let first = last-event last.before (made_events_to k) (events.InUse k 0) last.events in
    let began : now first.before ≡ 1000 * k = now-events first.before ∙ ap (now_in 0) first.events ∙ now-to k in
    let old : ltb (t - now first.before) 1000 ≡ false = le-ltb (t - now first.before) 1000 (omega arith) in
    let at : in_use_within t (Got (events.InUse k 0) ∷ first.before) k 0 ≡ false = rw (eq-eqb k k refl) old in
    let before : in_use_within t last.before k 0 ≡ false =
    ap (λ (r : Record). in_use_within t r k 0) first.cut ∙ in-use-tell t k (Got (events.InUse k 0) ∷ first.before) first.told at in
    ap (λ (r : Record). in_use_within t r k 0) last.cut ∙ in-use-tell t k (Got (events.Moment (made_moment k)) ∷ last.before) last.told before

-- ---- the first events of a service

bound-on : (k : ℕ) (e : Event) → is_bound_at k e ≡ true → is_on k e ≡ true
bound-on k (events.Bound t j fd) h = (and_parts (t == k) (j == 0) h).0
bound-on k e h = absurd cc

in-use-on : (k : ℕ) (e : Event) → is_in_use_of k e ≡ true → is_on k e ≡ true
in-use-on k (events.InUse t j) h = h
in-use-on k e h = absurd cc

ready-on : (k : ℕ) (e : Event) → is_ready_event k (Got e) ≡ true → is_on k e ≡ true
ready-on k (events.Ready t) h = h
ready-on k e h = absurd cc

in-use-row : (n k : ℕ) (q : Record) → Here n q → k < n → Behind k [] q → fits_row (made_plan n) q (events.InUse k 0) ≡ true
in-use-row n k q here lt cut =
    bind-open n k q here.few lt here.going here.asks here.odd here.unsigned (work-behind n k [] q here lt cut)
    (on-behind (is_bound_at k) k [] q cut (bound-on k) refl)
    (in-use-none (now q) k q (on-behind (is_in_use_of k) k [] q cut (in-use-on k) refl))

moment-row : (n k : ℕ) (q : Record) → Behind k (events.InUse k 0 ∷ []) q → fits_row (made_plan n) q (events.Moment (made_moment k)) ≡ true
moment-row n k q cut = let at : now q ≡ 1000 * k = now-behind k (events.InUse k 0 ∷ []) q cut in le-leb (now q) (made_moment k) (omega arith)

brings-other : (k j : ℕ) → (j ≡ k → ⊥) → list_any (λ e. brings (k + 1) (Got e)) (made_events_of j) ≡ false
brings-other k j ne =
    rw (word-test (λ e. brings (k + 1) (Got e)) (is_even j) false j (made_moment j) refl refl, ne_eqb (j + 1) (k + 1) (λ same. ne (omega arith))) refl

bound-row : (n k : ℕ) (q : Record) → Here n q → k < n → Behind k (events.InUse k 0 ∷ events.Moment (made_moment k) ∷ []) q
    → fits_row (made_plan n) q (events.Bound k 0 (k + 1)) ≡ true
bound-row n k q here lt cut =
    let front : List Event = events.InUse k 0 ∷ events.Moment (made_moment k) ∷ [] in
    let free : came q (is_bound_at k) ≡ false = on-behind (is_bound_at k) k front q cut (bound-on k) refl in
    let new : has (brings (k + 1)) q ≡ false =
    has-came (brings (k + 1)) (λ a. refl) q ∙ came-behind (λ e. brings (k + 1) (Got e)) k front q cut
    ∙ or_from _ _ (none-to (λ e. brings (k + 1) (Got e)) k (λ j below. brings-other k j (λ same. omega (arith, same, below)))) refl in
    and_from _ _
    (bind-open n k q here.few lt here.going here.asks here.odd here.unsigned (work-behind n k front q here lt cut) free
    (in-use-rested k (now q) q cut (now-behind k front q cut))) (not_from_false _ new)

word-row : (n k : ℕ) (q : Record) → Here n q → k < n → Behind k (events.InUse k 0 ∷ events.Moment (made_moment k) ∷ events.Bound k 0 (k + 1) ∷ []) q
    → fits_row (made_plan n) q (made_word k) ≡ true
word-row n k q here lt cut = by (is_even k) refl
  where
    front : List Event
    front = events.InUse k 0 ∷ events.Moment (made_moment k) ∷ events.Bound k 0 (k + 1) ∷ []

    by : (b : Bool) → is_even k ≡ b → fits_row (made_plan n) q (cond b (events.Moment (made_moment k)) (events.Ready k)) ≡ true
    by true even = let at : now q ≡ made_moment k = now-behind k front q cut in le-leb (now q) (made_moment k) (omega arith)
    by false odd =
        let unsaid : has (is_ready_event k) q ≡ false =
        has-came (is_ready_event k) (λ a. refl) q ∙ on-behind (λ e. is_ready_event k (Got e)) k front q cut (ready-on k) refl in
        and_from _ _ (and_from _ _ (kind-odd n k lt odd) (started-behind n k front q here lt cut)) (not_from_false _ unsaid)

pub start-row : (n : ℕ) (q : Record) (e : Event) → Here n q → InStart n (events_of q) e → fits_row (made_plan n) q e ≡ true
start-row n q e here at =
    let k : ℕ = at.service in
    elim at.place [
      | inl a ↦ ap (fits_row (made_plan n) q) a.1 ∙ in-use-row n k q here at.below (at.cut ∙ ap (λ (xs : List Event). made_events_to k ++ xs) a.0)
      | inr b ↦ elim b [
        | inl c ↦ ap (fits_row (made_plan n) q) c.1 ∙ moment-row n k q (at.cut ∙ ap (λ (xs : List Event). made_events_to k ++ xs) c.0)
        | inr d ↦ elim d [
          | inl f ↦ ap (fits_row (made_plan n) q) f.1 ∙ bound-row n k q here at.below (at.cut ∙ ap (λ (xs : List Event). made_events_to k ++ xs) f.0)
          | inr g ↦ ap (fits_row (made_plan n) q) g.1 ∙ word-row n k q here at.below (at.cut ∙ ap (λ (xs : List Event). made_events_to k ++ xs) g.0)
        ]
      ]
    ]

-- ---- what is told of a connection whose peer isn't known

-- a connection with this number arrived from a peer that isn't known
abbrev is_met : ℕ → Event → Bool
is_met c (events.Arrived s i m peer) = m == c && not (is_known peer)
is_met c _ = false

met : (c : ℕ) (q : Record) → came q (is_met c) ≡ true → list_any (λ (x : Arrival). x.number == c && not (is_known x.peer)) (arrivals q) ≡ true
met c [] h = absurd (both_ways false refl h)
met c (Told a ∷ q) h = met c q h
met c (Got e ∷ q) h = one e (or_cases (came q (is_met c)) _ (sym (list_any-append (is_met c) (events_of q) (e ∷ [])) ∙ h)) (met c q)
  where
    test : Arrival → Bool
    test x = x.number == c && not (is_known x.peer)

    either : (x : Event) → list_any test (arrivals (Got x ∷ q)) ≡ list_any test (arrivals q) → is_met c x ≡ false
        → (came q (is_met c) ≡ true) ⊎ ((is_met c x || false) ≡ true) → (came q (is_met c) ≡ true → list_any test (arrivals q) ≡ true)
        → list_any test (arrivals (Got x ∷ q)) ≡ true
    either x same none (inl before) later = same ∙ later before
    either x same none (inr here) later = absurd (both_ways _ none (plain-true _ here))

    one : (x : Event) → (came q (is_met c) ≡ true) ⊎ ((is_met c x || false) ≡ true) → (came q (is_met c) ≡ true → list_any test (arrivals q) ≡ true)
        → list_any test (arrivals (Got x ∷ q)) ≡ true
    one (events.Arrived s i m peer) (inl before) later = or_right _ _ (later before)
    one (events.Arrived s i m peer) (inr here) later = or_left _ _ (plain-true _ here)
    one x found later = either x refl refl found later

number-in : (c : ℕ) (xs : List Arrival) → list_any (λ (x : Arrival). x.number == c && not (is_known x.peer)) xs ≡ true
    → list_any (λ m. m == c) (map (λ (x : Arrival). x.number) xs) ≡ true
number-in c [] h = absurd (both_ways false refl h)
number-in c (x ∷ xs) h =
    elim (or_cases (x.number == c && not (is_known x.peer)) (list_any (λ (y : Arrival). y.number == c && not (is_known y.peer)) xs) h) [
      | inl here ↦
          or_left (x.number == c) (list_any (λ m. m == c) (map (λ (y : Arrival). y.number) xs)) (and_parts (x.number == c) (not (is_known x.peer)) here).0
      | inr later ↦ or_right (x.number == c) (list_any (λ m. m == c) (map (λ (y : Arrival). y.number) xs)) (number-in c xs later)
    ]

kept-in : (c : ℕ) (g : ℕ → Bool) (xs : List ℕ) → g c ≡ true → list_any (λ m. m == c) xs ≡ true → list_any (λ m. m == c) (filter g xs) ≡ true
kept-in c g [] good h = absurd (both_ways false refl h)
kept-in c g (x ∷ xs) good h = by (g x) refl (or_cases (x == c) (list_any (λ m. m == c) xs) h) (kept-in c g xs good)
  where
    by : (b : Bool) → g x ≡ b → ((x == c) ≡ true) ⊎ (list_any (λ m. m == c) xs ≡ true)
        → (list_any (λ m. m == c) xs ≡ true → list_any (λ m. m == c) (filter g xs) ≡ true)
        → list_any (λ m. m == c) (cond b (x ∷ filter g xs) (filter g xs)) ≡ true
    by true is (inl here) later = or_left _ _ here
    by true is (inr more) later = or_right _ _ (later more)
    by false is (inl here) later = absurd (both_ways (g x) is (ap g (eqb-true x c here) ∙ good))
    by false is (inr more) later = later more

both-any : {X : Type 0} (p t : X → Bool) (xs : List X) → list_all p xs ≡ true → list_any t xs ≡ true → (x : X) × (p x ≡ true) × (t x ≡ true)
both-any p t [] a h = absurd (both_ways false refl h)
both-any p t (x ∷ xs) a h =
    let parts = and_parts (p x) (list_all p xs) a in
    elim (or_cases (t x) (list_any t xs) h) [
      | inl here ↦ (x, parts.0, here)
      | inr later ↦ both-any p t xs parts.1 later
    ]

-- what is told of it
record Told-of (p : Plan) (q : Record) (c : ℕ) : Type 0 where
  settings : has (is_settings c) q ≡ true
  unrefused : has (is_refuse c) q ≡ false
  handshake : has (is_set_as true c) q ≡ true → has (is_handshake c) q ≡ true
  served : has (is_shaken_as true c) q ≡ true → has (is_serve c) q ≡ true
  kept : (has (is_set_as false c) q || has (is_shaken_as false c) q) ≡ false → has (is_drop c) q ≡ false

judged-as : (m : ℕ) (e : Entry) → is_judged_as false m e ≡ true → is_judged m e ≡ true
judged-as m (Told (actions.Judged x false)) h = h
judged-as m (Told (actions.Judged x true)) h = absurd cc
judged-as m e h = absurd cc

told-of : (p : Plan) (q : Record) (x : Arrival) → connection_right p q x ≡ true → is_known x.peer ≡ false → Told-of p q x.number
told-of p q x right unknown =
    let halves = and_parts _ _ right in
    let front = and_parts _ _ halves.0 in
    let opening = and_parts _ _ front.0 in
    let judging = and_parts _ _ opening.0 in
    let judged = and_parts _ _ judging.0 in
    let setting = and_parts _ _ opening.1 in
    let middle = and_parts _ _ front.1 in
    let last = and_parts _ _ halves.1 in
    let unjudged : has (is_judged x.number) q ≡ false = once-none (is_known x.peer) (is_judged x.number) q unknown judged.0 in
    let good : has (is_judged_as false x.number) q ≡ false = has-implied (is_judged_as false x.number) (is_judged x.number) (judged-as x.number) q unjudged in
    record {
      settings = once-has (not (has (is_judged_as false x.number) q)) (is_settings x.number) q (not_from_false _ good) setting.0;
      unrefused = once-none (has (is_judged_as false x.number) q) (is_refuse x.number) q good judging.1;
      handshake = λ set. once-has (has (is_set_as true x.number) q) (is_handshake x.number) q set middle.0;
      served = λ shaken. once-has (has (is_shaken_as true x.number) q) (is_serve x.number) q shaken middle.1;
      kept = λ well. once-none (has (is_set_as false x.number) q || has (is_shaken_as false x.number) q) (is_drop x.number) q well last.0;
    }

told-met : (n c : ℕ) (q : Record) → Here n q → came q (is_met c) ≡ true → Told-of (made_plan n) q c
told-met n c q here h =
    let x = both-any (connection_right (made_plan n) q) (λ (x : Arrival). x.number == c && not (is_known x.peer)) (arrivals q) here.going.connections.each
    (met c q h) in
    let parts = and_parts (x.0.number == c) _ x.2 in
    subst (Told-of (made_plan n) q) (eqb-true x.0.number c parts.0) (told-of (made_plan n) q x.0 x.1 (by (is_known x.0.peer) parts.1))
  where
    by : (b : Bool) → not b ≡ true → b ≡ false
    by true m = absurd (both_ways false refl m)
    by false m = refl

-- ---- the events of a connection

-- the connection's events so far are these
record Met (n k c : ℕ) (earlier front : List Event) (q : Record) : Type 0 where
  below : k < n
  late : 4 * k + 1 ≤ c
  fresh : list_any (is_of c) earlier ≡ false
  cut : events_of q ≡ made_events_to k ++ (made_start k ++ (earlier ++ front))

of-start : (c k : ℕ) → list_any (is_of c) (made_start k) ≡ false
of-start c k = rw (word-test (is_of c) (is_even k) false k (made_moment k) refl refl) refl

-- a test of the connection's own events
of-met : (t : Event → Bool) (n k c : ℕ) (earlier front : List Event) (q : Record) → Met n k c earlier front q → ((e : Event) → t e ≡ true → is_of c e ≡ true)
    → came q t ≡ list_any t front
of-met t n k c earlier front q m f =
    came-behind t k (made_start k ++ (earlier ++ front)) q m.cut
    ∙ ap (λ (b : Bool). b || list_any t (made_start k ++ (earlier ++ front)))
    (none-to t k (λ j lt. any-implied t (is_of c) f (made_events_of j) (of-other c j (let late = m.late in omega arith))))
    ∙ list_any-append t (made_start k) (earlier ++ front)
    ∙ ap (λ (b : Bool). b || list_any t (earlier ++ front)) (any-implied t (is_of c) f (made_start k) (of-start c k))
    ∙ list_any-append t earlier front
    ∙ ap (λ (b : Bool). b || list_any t front) (any-implied t (is_of c) f earlier m.fresh)

met-of : (c : ℕ) (e : Event) → is_met c e ≡ true → is_of c e ≡ true
met-of c (events.Arrived s i m peer) h = (and_parts (m == c) _ h).0
met-of c e h = absurd cc

arrival-of : (c : ℕ) (e : Event) → is_arrival c (Got e) ≡ true → is_of c e ≡ true
arrival-of c (events.Arrived s i m peer) h = h
arrival-of c e h = absurd cc

set-of : (c : ℕ) (e : Event) → is_set c (Got e) ≡ true → is_of c e ≡ true
set-of c (events.Set m ok) h = h
set-of c e h = absurd cc

shaken-of : (c : ℕ) (e : Event) → is_shaken c (Got e) ≡ true → is_of c e ≡ true
shaken-of c (events.Shaken m ok) h = h
shaken-of c e h = absurd cc

finished-of : (c : ℕ) (e : Event) → is_finished c (Got e) ≡ true → is_of c e ≡ true
finished-of c (events.Finished m) h = h
finished-of c e h = absurd cc

set-as-of : (c : ℕ) (e : Event) → is_set_as true c (Got e) ≡ true → is_of c e ≡ true
set-as-of c (events.Set m true) h = h
set-as-of c (events.Set m false) h = absurd cc
set-as-of c e h = absurd cc

shaken-as-of : (c : ℕ) (e : Event) → is_shaken_as true c (Got e) ≡ true → is_of c e ≡ true
shaken-as-of c (events.Shaken m true) h = h
shaken-as-of c (events.Shaken m false) h = absurd cc
shaken-as-of c e h = absurd cc

loops-none : (p : Plan) (s i : ℕ) (q : Record) → came q is_odd ≡ false → ended_loops p q s i ≡ 0
loops-none p s i [] h = refl
loops-none p s i (Told a ∷ q) h = loops-none p s i q h
loops-none p s i (Got e ∷ q) h =
    one e (or_parts (came q is_odd) _ (sym (list_any-append is_odd (events_of q) (e ∷ [])) ∙ h)).1
    (loops-none p s i q (or_parts (came q is_odd) _ (sym (list_any-append is_odd (events_of q) (e ∷ [])) ∙ h)).0)
  where
    one : (x : Event) → (is_odd x || false) ≡ false → ended_loops p q s i ≡ 0 → ended_loops p (Got x ∷ q) s i ≡ 0
    one (events.LoopEnded t k j) o m = absurd cc
    one x o m = m

arrived-row : (n k c : ℕ) (earlier : List Event) (q : Record) → Here n q → Met n k c earlier [] q
    → fits_row (made_plan n) q (events.Arrived k 0 c peers.Unknown) ≡ true
arrived-row n k c earlier q here m =
    let rest : List Event = made_start k ++ (earlier ++ []) in
    let bound : came q (is_bound_at k) ≡ true =
    came-behind (is_bound_at k) k rest q m.cut
    ∙ or_right (list_any (is_bound_at k) (made_events_to k)) (list_any (is_bound_at k) rest)
    (list_any-append (is_bound_at k) (made_start k) (earlier ++ [])
    ∙ or_left (list_any (is_bound_at k) (made_start k)) (list_any (is_bound_at k) (earlier ++ [])) (bound-start k)) in
    let held : is_held (made_plan n) q k 0 ≡ true = lt-ltb 0 _ (held-some n k q here.few m.below here.odd bound) in
    let serving : serves (made_plan n) q k ≡ true = and_from _ _ (work-behind n k rest q here m.below m.cut) (rw (numbers-at n k m.below, held) refl) in
    let endpoint : is_endpoint (made_plan n) k 0 ≡ true = rw (endpoints-at n k m.below) refl in
    let looping : have_loops_ended (made_plan n) q k 0 ≡ false = rw (loops-none (made_plan n) k 0 q here.odd) refl in
    let new : has (is_arrival c) q ≡ false = has-came (is_arrival c) (λ a. refl) q ∙ of-met (λ e. is_arrival c (Got e)) n k c earlier [] q m (arrival-of c) in
    and_from _ _ (and_from _ _ (and_from _ _ serving endpoint) (not_from_false _ looping)) (not_from_false _ new)
  where
    bound-start : (k : ℕ) → list_any (is_bound_at k) (made_start k) ≡ true
    bound-start k = rw (eq-eqb k k refl) refl

came-met : (n k c : ℕ) (earlier front : List Event) (q : Record) → Met n k c earlier (events.Arrived k 0 c peers.Unknown ∷ front) q → came q (is_met c) ≡ true
came-met n k c earlier front q m =
    let here : (c == c && true) ≡ true = rw (eq-eqb c c refl) refl in
    of-met (is_met c) n k c earlier (events.Arrived k 0 c peers.Unknown ∷ front) q m (met-of c) ∙ or_left (c == c && true) (list_any (is_met c) front) here

set-row : (n k c : ℕ) (earlier : List Event) (q : Record) → Here n q → Met n k c earlier (events.Arrived k 0 c peers.Unknown ∷ []) q
    → fits_row (made_plan n) q (events.Set c true) ≡ true
set-row n k c earlier q here m =
    open-from (is_settings c) (is_set c) q (told-met n c q here (came-met n k c earlier [] q m)).settings
    (has-came (is_set c) (λ a. refl) q ∙ of-met (λ e. is_set c (Got e)) n k c earlier (events.Arrived k 0 c peers.Unknown ∷ []) q m (set-of c))

shaken-row : (n k c : ℕ) (earlier : List Event) (q : Record) → Here n q → Met n k c earlier (events.Arrived k 0 c peers.Unknown ∷ events.Set c true ∷ []) q
    → fits_row (made_plan n) q (events.Shaken c true) ≡ true
shaken-row n k c earlier q here m =
    let front : List Event = events.Arrived k 0 c peers.Unknown ∷ events.Set c true ∷ [] in
    let set : has (is_set_as true c) q ≡ true =
    has-came (is_set_as true c) (λ a. refl) q ∙ of-met (λ e. is_set_as true c (Got e)) n k c earlier front q m (set-as-of c) ∙ rw (eq-eqb c c refl) refl in
    open-from (is_handshake c) (is_shaken c) q ((told-met n c q here (came-met n k c earlier (events.Set c true ∷ []) q m)).handshake set)
    (has-came (is_shaken c) (λ a. refl) q ∙ of-met (λ e. is_shaken c (Got e)) n k c earlier front q m (shaken-of c))

cut-ending : (c : ℕ) (e : Entry) → is_cut c e ≡ true → is_ending e ≡ true
cut-ending c (Told (actions.Cut m)) h = refl
cut-ending c e h = absurd cc

finished-row : (n k c : ℕ) (earlier : List Event) (q : Record) → Here n q
    → Met n k c earlier (events.Arrived k 0 c peers.Unknown ∷ events.Set c true ∷ events.Shaken c true ∷ []) q
    → fits_row (made_plan n) q (events.Finished c) ≡ true
finished-row n k c earlier q here m =
    let front : List Event = events.Arrived k 0 c peers.Unknown ∷ events.Set c true ∷ events.Shaken c true ∷ [] in
    let arrived : came q (is_met c) ≡ true = came-met n k c earlier (events.Set c true ∷ events.Shaken c true ∷ []) q m in
    let told = told-met n c q here arrived in
    let shaken : has (is_shaken_as true c) q ≡ true =
    has-came (is_shaken_as true c) (λ a. refl) q ∙ of-met (λ e. is_shaken_as true c (Got e)) n k c earlier front q m (shaken-as-of c)
    ∙ rw (eq-eqb c c refl) refl in
    let unset : has (is_set_as false c) q ≡ false = has-came (is_set_as false c) (λ a. refl) q ∙ came-none (λ e. is_set_as false c (Got e)) q f here.odd in
    let unshaken : has (is_shaken_as false c) q ≡ false =
    has-came (is_shaken_as false c) (λ a. refl) q ∙ came-none (λ e. is_shaken_as false c (Got e)) q g here.odd in
    let dropped : has (is_drop c) q ≡ false = told.kept (or_from _ _ unset unshaken) in
    let unfinished : has (is_finished c) q ≡ false =
    has-came (is_finished c) (λ a. refl) q ∙ of-met (λ e. is_finished c (Got e)) n k c earlier front q m (finished-of c) in
    let uncut : has (is_cut c) q ≡ false = has-implied (is_cut c) is_ending (cut-ending c) q here.going.no_end in
    let on : (goes_on q c && not (has (is_cut c) q)) ≡ true = rw (told.unrefused, dropped, unfinished, uncut) refl in
    and_from _ _ (told.served shaken)
    (kept-in c (λ d. goes_on q d && not (has (is_cut d) q)) (arrived_numbers q) on (number-in c (arrivals q) (met c q arrived)))
  where
    f : (e : Event) → is_usual e ≡ true → is_set_as false c (Got e) ≡ false
    f (events.Set x true) u = refl
    f (events.Set x false) u = absurd cc
    f e u = refl

    g : (e : Event) → is_usual e ≡ true → is_shaken_as false c (Got e) ≡ false
    g (events.Shaken x true) u = refl
    g (events.Shaken x false) u = absurd cc
    g e u = refl

pub connection-row : (n : ℕ) (q : Record) (e : Event) → Here n q → InConnection n (events_of q) e → fits_row (made_plan n) q e ≡ true
connection-row n q e here at =
    let k : ℕ = at.service in
    let c : ℕ = at.number in
    elim at.place [
      | inl a ↦ ap (fits_row (made_plan n) q) a.1 ∙ arrived-row n k c at.earlier q here (is [] a.0)
      | inr b ↦ elim b [
        | inl d ↦ ap (fits_row (made_plan n) q) d.1 ∙ set-row n k c at.earlier q here (is (events.Arrived k 0 c peers.Unknown ∷ []) d.0)
        | inr f ↦ elim f [
          | inl g ↦ ap (fits_row (made_plan n) q) g.1
              ∙ shaken-row n k c at.earlier q here (is (events.Arrived k 0 c peers.Unknown ∷ events.Set c true ∷ []) g.0)
          | inr h ↦ ap (fits_row (made_plan n) q) h.1
              ∙ finished-row n k c at.earlier q here (is (events.Arrived k 0 c peers.Unknown ∷ events.Set c true ∷ events.Shaken c true ∷ []) h.0)
        ]
      ]
    ]
  where
    is : (front : List Event) → at.front ≡ front → Met n at.service at.number at.earlier front q
    is front same = record {
      below = at.below;
      late = at.late;
      fresh = at.fresh;
      cut = at.cut ∙ ap (λ (xs : List Event). made_events_to at.service ++ (made_start at.service ++ (at.earlier ++ xs))) same;
    }

pub end-row : (n : ℕ) (q : Record) (e : Event) → Here n q → InEnd n (events_of q) e → fits_row (made_plan n) q e ≡ true
end-row n q e here at = ap (fits_row (made_plan n) q) at.is ∙ runs-now n q here.going
