-- How many starts, binds and closes a run of the generator's services has.
use Rattle.std.proofs.Common.{◌≡◌, ◌⊎◌, ℕ, zero, suc, ◌+◌, ◌-◌, ◌*◌, ◌<◌, ◌≤◌, Bool, true, false, ◌||◌, ◌==◌, cond, ltb, List, [], ◌∷◌, ◌++◌, length, map, None, refl, sym, ap, ◌∙◌, inl, inr, arith, append-nil}
use Rattle.std.specs.Prelude.{count_by}
use Rattle.std.specs.List.{list_any}
use Rattle.std.proofs.lemmas.Bool.{and_parts, and_from, or_cases, or_left, or_parts, or_from, ltb-true, eqb-true, eq-eqb, ne_eqb, both_ways, cases_Bool, cases_lt, cases_eq, cases_order, lt-ltb, le-ltb, not-true, OnTrue_at}
use Rattle.std.proofs.lemmas.List.Folds.{list_any-append}
use Rattle.svc_record.specs.declared.plan.Plan.{Plan}
use Rattle.svc_record.specs.declared.event.Event.{Event}
use Rattle.svc_record.specs.declared.event.Event.TheVariants as events
use Rattle.svc_record.specs.declared.event.ShutdownSignal.TheVariants.{FastShutdown}
use Rattle.svc_record.specs.declared.entry.Entry.{Entry}
use Rattle.svc_record.specs.declared.entry.Entry.TheVariants.{Got, Told}
use Rattle.svc_record.specs.declared.action.Action.{Action}
use Rattle.svc_record.specs.declared.action.Action.TheVariants as actions
use Rattle.svc_record.specs.Record.{Record, times, tell, before_runtimes, signal_of, EachEntry}
use Rattle.svc_record.specs.Plans.{endpoints, service_count}
use Rattle.svc_record.specs.Descriptors.{Descriptor, has_number, descriptors_of, opened_descriptors, is_opened, is_close}
use Rattle.svc_record.specs.Asks.{is_bind, is_bind_answer, is_bind_open, is_ask_open}
use Rattle.svc_record.specs.AskRules.{ask_due, ask_known, has_turn}
use Rattle.svc_record.specs.Starts.{is_start, is_ready_event, start_known}
use Rattle.svc_record.specs.Endpoints.{is_held}
use Rattle.svc_record.specs.Closes.{close_once}
use Rattle.svc_record.specs.Connections.{live_connections}
use Rattle.svc_record.specs.Drain.{waits_are_over, last_actions, live_numbers}
use Rattle.svc_record.proofs.CutLaws.{unsignalled-unpassed}
use Rattle.svc_base.specs.NumberSets.{ascending}
use Rattle.svc_record.specs.Fits.{event_fits}
use Rattle.svc_record.specs.Right.{Right, Served, LastStepRight}
use Rattle.svc_server.specs.Runs.{events_of}
use Rattle.svc_main.specs.Counts.{is_any_start, is_any_bind, is_any_close}
use Rattle.svc_main.specs.Generator.{is_even, made_plan, made_moment, made_events, made_events_of, made_events_to}
use Rattle.svc_main.proofs.MadeRecords.{came, has-came, no-signal}
use Rattle.svc_main.proofs.MadeLists.{word-test, count-append, to-more, none-to, some-to, ready-of, front-or-all, all-usual, front-unsigned}
use Rattle.svc_main.proofs.MadePlan.{plan-count, endpoints-at, endpoints-past}
use Rattle.svc_main.proofs.MadeFits.{is_odd, is_bound_at, usual-came, plain-true, held-some, started-once}

-- ---- counts over the numbers below m

abbrev sumto : (ℕ → ℕ) → ℕ → ℕ
sumto f zero = 0
sumto f (suc m) = sumto f m + f m

sumto-all : (f : ℕ → ℕ) (c m : ℕ) → ((i : ℕ) → i < m → f i ≡ c) → sumto f m ≡ c * m
sumto-all f c zero h = omega arith
sumto-all f c (suc m) h = let here = h m (omega arith) in let before = sumto-all f c m (λ i lt. h i (omega arith)) in omega (arith, here, before)

-- the entry passes none of the tests, or one of them, which are those of the numbers below m
abbrev OneOf : (Entry → Bool) → (ℕ → Entry → Bool) → ℕ → Entry → Type 0
OneOf any one m e =
    ((any e ≡ false) × ((i : ℕ) → i < m → one i e ≡ false))
    ⊎ ((k : ℕ) × (k < m) × (any e ≡ true) × (one k e ≡ true) × ((i : ℕ) → (i ≡ k → ⊥) → one i e ≡ false))

times-step : (t : Entry → Bool) (e : Entry) (q : Record) (b : Bool) → t e ≡ b → times t (e ∷ q) ≡ times t q + cond b 1 0
times-step t e q true h = rw h refl
times-step t e q false h = let same : times t (e ∷ q) ≡ times t q = rw h refl in omega (arith, same)

none-step : (one : ℕ → Entry → Bool) (m : ℕ) (e : Entry) (q : Record) → ((i : ℕ) → i < m → one i e ≡ false)
    → sumto (λ i. times (one i) (e ∷ q)) m ≡ sumto (λ i. times (one i) q) m
none-step one zero e q h = refl
none-step one (suc m) e q h =
    let here = times-step (one m) e q false (h m (omega arith)) in let before = none-step one m e q (λ i lt. h i (omega arith)) in omega (arith, here, before)

one-step : (one : ℕ → Entry → Bool) (m k : ℕ) (e : Entry) (q : Record) → k < m → one k e ≡ true → ((i : ℕ) → (i ≡ k → ⊥) → one i e ≡ false)
    → sumto (λ i. times (one i) (e ∷ q)) m ≡ sumto (λ i. times (one i) q) m + 1
one-step one zero k e q lt yes-one only = absurd (omega arith)
one-step one (suc m) k e q lt yes-one only = by (cases_eq k m) (one-step one m k e q)
  where
    by : (k ≡ m) ⊎ (k ≡ m → ⊥)
        → (k < m → one k e ≡ true → ((i : ℕ) → (i ≡ k → ⊥) → one i e ≡ false) → sumto (λ i. times (one i) (e ∷ q)) m ≡ sumto (λ i. times (one i) q) m + 1)
        → sumto (λ i. times (one i) (e ∷ q)) (suc m) ≡ sumto (λ i. times (one i) q) (suc m) + 1
    by (inl same) later =
        let here = times-step (one m) e q true (ap (λ (i : ℕ). one i e) (sym same) ∙ yes-one) in
        let before = none-step one m e q (λ i below. only i (λ is. omega arith)) in
        omega (arith, here, before)
    by (inr other) later =
        let here = times-step (one m) e q false (only m (λ is. other (sym is))) in
        let before = later (let ne : k ≡ m → ⊥ = other in by-order (cases_lt k m)) yes-one only in
        omega (arith, here, before)
      where
        by-order : (k < m) ⊎ (m ≤ k) → k < m
        by-order (inl below) = below
        by-order (inr above) = absurd (other (omega arith))

count-split : (any : Entry → Bool) (one : ℕ → Entry → Bool) (m : ℕ) (r : Record) → EachEntry (λ e before. OneOf any one m e) r
    → times any r ≡ sumto (λ i. times (one i) r) m
count-split any one m [] h = sym (none-of m)
  where
    none-of : (k : ℕ) → sumto (λ i. 0) k ≡ 0
    none-of zero = refl
    none-of (suc k) = let before = none-of k in omega (arith, before)
count-split any one m (e ∷ q) h = by h.0 (count-split any one m q h.1)
  where
    by : OneOf any one m e → times any q ≡ sumto (λ i. times (one i) q) m → times any (e ∷ q) ≡ sumto (λ i. times (one i) (e ∷ q)) m
    by (inl none) later = let all = times-step any e q false none.0 in let each = none-step one m e q none.1 in omega (arith, all, each, later)
    by (inr found) later =
        let all = times-step any e q true found.2 in let each = one-step one m found.0 e q found.1 found.3 found.4 in omega (arith, all, each, later)

each-map : (P Q : Entry → Record → Type 0) (r : Record) → ((e : Entry) (before : Record) → P e before → Q e before) → EachEntry P r → EachEntry Q r
each-map P Q [] f h = tt
each-map P Q (e ∷ r) f h = (f e r h.0, each-map P Q r f h.1)

-- what came nowhere in the record came nowhere before
each-within : (P : Entry → Record → Type 0) (r q : Record) → ((t : Event → Bool) → came r t ≡ false → came q t ≡ false) → EachEntry P q
    → EachEntry (λ e before. P e before × ((t : Event → Bool) → came r t ≡ false → came before t ≡ false)) q
each-within P r [] f h = tt
each-within P r (e ∷ q) f h = ((h.0, later e f), each-within P r q (later e f) h.1)
  where
    later : (x : Entry) → ((t : Event → Bool) → came r t ≡ false → came (x ∷ q) t ≡ false) → (t : Event → Bool) → came r t ≡ false → came q t ≡ false
    later (Told a) g t none = g t none
    later (Got x) g t none = (or_parts (came q t) _ (sym (list_any-append t (events_of q) (x ∷ [])) ∙ g t none)).0

-- ---- what is told from the end on

events-told : (q : Record) (told : List Action) → events_of (tell q told) ≡ events_of q
events-told q [] = refl
events-told q (a ∷ told) = events-told (Told a ∷ q) told

times-told : (t : Entry → Bool) (q : Record) (told : List Action) → list_any (λ a. t (Told a)) told ≡ false → times t (tell q told) ≡ times t q
times-told t q [] h = refl
times-told t q (a ∷ told) h =
    let p = or_parts (t (Told a)) (list_any (λ x. t (Told x)) told) h in
    times-told t (Told a ∷ q) told p.1 ∙ rw p.0 refl

map-none : (t : Entry → Bool) (f : ℕ → Action) (xs : List ℕ) → ((x : ℕ) → t (Told (f x)) ≡ false) → list_any (λ a. t (Told a)) (map f xs) ≡ false
map-none t f [] h = refl
map-none t f (x ∷ xs) h = or_from (t (Told (f x))) _ (h x) (map-none t f xs h)

last-starts : (p : Plan) (s : ℕ) (q : Record) → list_any (λ a. is_start s (Told a)) (last_actions p q) ≡ false
last-starts p s q =
    list_any-append (λ a. is_start s (Told a)) (map actions.Cut (ascending (live_connections q))) _
    ∙ or_from _ _ (map-none (is_start s) actions.Cut (ascending (live_connections q)) (λ x. refl))
    (list_any-append (λ a. is_start s (Told a)) (map actions.Close (ascending (live_numbers p q))) _
    ∙ or_from _ _ (map-none (is_start s) actions.Close (ascending (live_numbers p q)) (λ x. refl)) refl)

-- ---- the record of a run that served

pub record Done (n : ℕ) (r : Record) : Type 0 where
  pub few : n ≤ 1024
  pub served : Served (made_plan n) r
  pub right : Right (made_plan n) r
  pub events : events_of r ≡ made_events n

-- a run that served took all events
pub all-events : (n : ℕ) (r : Record) (more : List Event) → Served (made_plan n) r → made_events n ≡ events_of r ++ more → events_of r ≡ made_events n
all-events n r more served h =
    elim (front-or-all n (events_of r) more h) [
      | inl front ↦
          let none : signal_of r ≡ None = no-signal r (front-unsigned n (events_of r) front.0 front.1) in
          absurd (both_ways (waits_are_over (made_plan n) r) (unsignalled-unpassed (made_plan n) r none) served.drain.passes)
      | inr all ↦ all
    ]

done-odd : (n : ℕ) (r : Record) → Done n r → came r is_odd ≡ false
done-odd n r d = usual-came (events_of r) (all-usual n (events_of r) [] (sym d.events ∙ sym (append-nil (events_of r))))

-- what came is what the generator's services brought, and the signal
done-came : (t : Event → Bool) (n : ℕ) (r : Record) → Done n r → came r t ≡ (list_any t (made_events_to n) || list_any t (events.Signal FastShutdown ∷ []))
done-came t n r d = ap (list_any t) d.events ∙ list_any-append t (made_events_to n) (events.Signal FastShutdown ∷ [])

-- ---- starts

start-one : (n s : ℕ) (r : Record) → Done n r → s < n → times (is_start s) r ≡ 1
start-one n s r d lt =
    let q : Record = before_runtimes r in
    let last : LastStepRight (made_plan n) q = OnTrue_at d.served.drain.passes d.served.stronger.last_step in
    let same : events_of q ≡ made_events n = sym (events-told q (last_actions (made_plan n) q)) ∙ ap events_of (sym d.served.drain.ends) ∙ d.events in
    let once : times (is_start s) q ≡ 1 =
    started-once n s q lt last.starts (λ j below odd. has-came (is_ready_event j) (λ a. refl) q ∙ ap (list_any (λ e. is_ready_event j (Got e))) same
    ∙ list_any-append (λ e. is_ready_event j (Got e)) (made_events_to n) (events.Signal FastShutdown ∷ [])
    ∙ or_left _ _ (some-to (λ e. is_ready_event j (Got e)) n j (omega arith) (ready-of j odd))) in
    ap (times (is_start s)) d.served.drain.ends ∙ times-told (is_start s) q (last_actions (made_plan n) q) (last-starts (made_plan n) s q) ∙ once

start-known-one : (n : ℕ) (e : Entry) (before : Record) → start_known (made_plan n) e before ≡ true → OneOf is_any_start is_start n e
start-known-one n (Told (actions.Start s)) before h =
    let count = plan-count n in
    let below : s < service_count (made_plan n) = ltb-true s (service_count (made_plan n)) h in
    inr (s, omega arith, refl, eq-eqb s s refl, λ i ne. ne_eqb s i (λ is. ne (sym is)))
start-known-one n e before h = inl (refl, λ i lt. refl)

pub count-starts : (n : ℕ) (r : Record) → Done n r → times is_any_start r ≡ n
count-starts n r d =
    count-split is_any_start is_start n r (each-map _ _ r (start-known-one n) d.right.stronger.known_starts)
    ∙ sumto-all (λ i. times (is_start i) r) 1 n (λ i lt. start-one n i r d lt) ∙ omega arith

-- ---- binds

-- an event that is counted among the entries
times-came : (t : Entry → Bool) → ((a : Action) → t (Told a) ≡ false) → (q : Record) → times t q ≡ count_by (λ e. t (Got e)) (events_of q)
times-came t none [] = refl
times-came t none (Told a ∷ q) = rw (none a) (times-came t none q)
times-came t none (Got e ∷ q) =
    let all = count-append (λ x. t (Got x)) (events_of q) (e ∷ []) in
    let before = times-came t none q in
    elim (cases_Bool (t (Got e))) [
      | inl found ↦
          let one = times-step t (Got e) q true found in let last : count_by (λ x. t (Got x)) (e ∷ []) ≡ 1 + 0 = rw found refl in
          omega (arith, all, before, one, last)
      | inr missing ↦
          let one = times-step t (Got e) q false missing in let last : count_by (λ x. t (Got x)) (e ∷ []) ≡ 0 + 0 = rw missing refl in
          omega (arith, all, before, one, last)
    ]

-- each bind was answered, but one that is open
abbrev Balanced : ℕ → Record → Type 0
Balanced s q = times (is_bind s 0) q ≡ times (is_bind_answer s 0) q + cond {A = ℕ} (is_bind_open q s 0) 1 0

-- an answer comes while a bind is open
answer-open : (n s : ℕ) (e : Event) (q : Record) → is_bind_answer s 0 (Got e) ≡ true → event_fits (made_plan n) (Got e) q ≡ true → is_bind_open q s 0 ≡ true
answer-open n s (events.Bound t j fd) q h f = let same = and_parts (t == s) (j == 0) h in at t j same (and_parts (is_bind_open q t j) _ (and_parts _ _ f).1).0
  where
    at : (t j : ℕ) → ((t == s) ≡ true) × ((j == 0) ≡ true) → is_bind_open q t j ≡ true → is_bind_open q s 0 ≡ true
    at t j same o = ap (λ (i : ℕ). is_bind_open q i 0) (sym (eqb-true t s same.0)) ∙ ap (is_bind_open q t) (sym (eqb-true j 0 same.1)) ∙ o
answer-open n s (events.InUse t j) q h f =
    let same = and_parts (t == s) (j == 0) h in ap (λ (i : ℕ). is_bind_open q i 0) (sym (eqb-true t s same.0))
    ∙ ap (is_bind_open q t) (sym (eqb-true j 0 same.1)) ∙ (and_parts _ _ f).1
answer-open n s (events.BindFailed t j) q h f =
    let same = and_parts (t == s) (j == 0) h in ap (λ (i : ℕ). is_bind_open q i 0) (sym (eqb-true t s same.0))
    ∙ ap (is_bind_open q t) (sym (eqb-true j 0 same.1)) ∙ (and_parts _ _ f).1
answer-open n s e q h f = absurd cc

-- a bind is told while none is open, and while the endpoint isn't held
bind-closed : (n s : ℕ) (a : Action) (q : Record) → is_bind s 0 (Told a) ≡ true → ask_due (made_plan n) (Told a) q ≡ true
    → (is_bind_open q s 0 ≡ false) × (is_held (made_plan n) q s 0 ≡ false)
bind-closed n s (actions.Bind t j) q h due =
    let same = and_parts (t == s) (j == 0) h in
    let turn : has_turn (made_plan n) q t j ≡ true = (and_parts (has_turn (made_plan n) q t j) _ (and_parts _ _ due).0).0 in
    let free = and_parts _ _ (and_parts _ _ turn).1 in
    let held : is_held (made_plan n) q t j ≡ false = not-true (is_held (made_plan n) q t j) free.0 in
    let asked : is_ask_open q t j ≡ false = not-true (is_ask_open q t j) free.1 in
    let bound : is_bind_open q t j ≡ false = (or_parts _ _ asked).0 in (
      ap (λ (i : ℕ). is_bind_open q i 0) (sym (eqb-true t s same.0)) ∙ ap (is_bind_open q t) (sym (eqb-true j 0 same.1)) ∙ bound,
      ap (λ (i : ℕ). is_held (made_plan n) q i 0) (sym (eqb-true t s same.0)) ∙ ap (is_held (made_plan n) q t) (sym (eqb-true j 0 same.1)) ∙ held,
    )
bind-closed n s a q h due = absurd cc

balanced : (n s : ℕ) (q : Record) → EachEntry (λ e before. event_fits (made_plan n) e before ≡ true) q
    → EachEntry (λ e before. ask_due (made_plan n) e before ≡ true) q → Balanced s q
balanced n s [] f a = refl
balanced n s (Told x ∷ q) f a = by (is_bind s 0 (Told x)) refl (balanced n s q f.1 a.1)
  where
    by : (b : Bool) → is_bind s 0 (Told x) ≡ b → times (is_bind s 0) q ≡ times (is_bind_answer s 0) q + cond {A = ℕ} (is_bind_open q s 0) 1 0
        → times (is_bind s 0) (Told x ∷ q) ≡ times (is_bind_answer s 0) (Told x ∷ q) + cond {A = ℕ} (is_bind_open (Told x ∷ q) s 0) 1 0
    by true is before =
        let closed = (bind-closed n s x q is a.0).0 in
        let one = times-step (is_bind s 0) (Told x) q true is in
        let was : cond {A = ℕ} (is_bind_open q s 0) 1 0 ≡ 0 = ap (λ (b : Bool). cond {A = ℕ} b 1 0) closed in
        let now-open : cond {A = ℕ} (is_bind_open (Told x ∷ q) s 0) 1 0 ≡ 1 = rw is refl in
        omega (arith, one, was, now-open, before)
    by false is before =
        let one = times-step (is_bind s 0) (Told x) q false is in
        let same : cond {A = ℕ} (is_bind_open (Told x ∷ q) s 0) 1 0 ≡ cond {A = ℕ} (is_bind_open q s 0) 1 0 = rw is refl in
        omega (arith, one, same, before)
balanced n s (Got x ∷ q) f a = by (is_bind_answer s 0 (Got x)) refl (balanced n s q f.1 a.1)
  where
    by : (b : Bool) → is_bind_answer s 0 (Got x) ≡ b → times (is_bind s 0) q ≡ times (is_bind_answer s 0) q + cond {A = ℕ} (is_bind_open q s 0) 1 0
        → times (is_bind s 0) (Got x ∷ q) ≡ times (is_bind_answer s 0) (Got x ∷ q) + cond {A = ℕ} (is_bind_open (Got x ∷ q) s 0) 1 0
    by true is before =
        let one = times-step (is_bind_answer s 0) (Got x) q true is in
        let was : cond {A = ℕ} (is_bind_open q s 0) 1 0 ≡ 1 = ap (λ (b : Bool). cond {A = ℕ} b 1 0) (answer-open n s x q is f.0) in
        let now-open : cond {A = ℕ} (is_bind_open (Got x ∷ q) s 0) 1 0 ≡ 0 = rw is refl in
        omega (arith, one, was, now-open, before)
    by false is before =
        let one = times-step (is_bind_answer s 0) (Got x) q false is in
        let same : cond {A = ℕ} (is_bind_open (Got x ∷ q) s 0) 1 0 ≡ cond {A = ℕ} (is_bind_open q s 0) 1 0 = rw is refl in
        omega (arith, one, same, before)

-- a bound endpoint isn't asked for again
bound-answers : (s : ℕ) (e : Event) → is_bound_at s e ≡ true → is_bind_answer s 0 (Got e) ≡ true
bound-answers s (events.Bound t j fd) h = h
bound-answers s e h = absurd cc

bound-closed : (n s : ℕ) (q : Record) → n ≤ 1024 → s < n → came q is_odd ≡ false → EachEntry (λ e before. ask_due (made_plan n) e before ≡ true) q
    → came q (is_bound_at s) ≡ true → is_bind_open q s 0 ≡ false
bound-closed n s [] few lt odd a h = refl
bound-closed n s (Told x ∷ q) few lt odd a h = by (is_bind s 0 (Told x)) refl (bound-closed n s q few lt odd a.1 h)
  where
    by : (b : Bool) → is_bind s 0 (Told x) ≡ b → is_bind_open q s 0 ≡ false → is_bind_open (Told x ∷ q) s 0 ≡ false
    by true is before = absurd (both_ways _ (bind-closed n s x q is a.0).1 (lt-ltb 0 _ (held-some n s q few lt odd h)))
    by false is before = rw is before
bound-closed n s (Got x ∷ q) few lt odd a h =
    by (is_bind_answer s 0 (Got x)) refl
    (bound-closed n s q few lt (or_parts (came q is_odd) _ (sym (list_any-append is_odd (events_of q) (x ∷ [])) ∙ odd)).0 a.1)
  where
    earlier : is_bind_answer s 0 (Got x) ≡ false → came q (is_bound_at s) ≡ true
    earlier is =
        elim (or_cases (came q (is_bound_at s)) (is_bound_at s x || false) (sym (list_any-append (is_bound_at s) (events_of q) (x ∷ [])) ∙ h)) [
          | inl before ↦ before
          | inr here ↦ absurd (both_ways _ is (bound-answers s x (plain-true _ here)))
        ]

    by : (b : Bool) → is_bind_answer s 0 (Got x) ≡ b → (came q (is_bound_at s) ≡ true → is_bind_open q s 0 ≡ false) → is_bind_open (Got x ∷ q) s 0 ≡ false
    by true is later = rw is refl
    by false is later = rw is (later (earlier is))

-- of a service's endpoint there are two answers
answers-of : (s j : ℕ) → count_by (λ e. is_bind_answer s 0 (Got e)) (made_events_of j) ≡ cond {A = ℕ} (j == s) 2 0
answers-of s j = by (j == s) refl
  where
    by : (b : Bool) → (j == s) ≡ b → count_by (λ e. is_bind_answer s 0 (Got e)) (made_events_of j) ≡ cond {A = ℕ} b 2 0
    by true is = rw (word-test (λ e. is_bind_answer s 0 (Got e)) (is_even j) false j (made_moment j) refl refl, is) (omega arith)
    by false is = rw (word-test (λ e. is_bind_answer s 0 (Got e)) (is_even j) false j (made_moment j) refl refl, is) (omega arith)

answers-to : (s k : ℕ) → count_by (λ e. is_bind_answer s 0 (Got e)) (made_events_to k) ≡ cond {A = ℕ} (ltb s k) 2 0
answers-to s zero = ap (λ (b : Bool). cond {A = ℕ} b 2 0) (sym (le-ltb s 0 (omega arith)))
answers-to s (suc k) = by (cases_order s k) (answers-to s k)
  where
    all : count_by (λ e. is_bind_answer s 0 (Got e)) (made_events_to (suc k))
        ≡ count_by (λ e. is_bind_answer s 0 (Got e)) (made_events_to k) + count_by (λ e. is_bind_answer s 0 (Got e)) (made_events_of k)
    all = ap (count_by (λ e. is_bind_answer s 0 (Got e))) (to-more k) ∙ count-append (λ e. is_bind_answer s 0 (Got e)) (made_events_to k) (made_events_of k)

    by : (s ≡ k) ⊎ ((s < k) ⊎ (k < s)) → count_by (λ e. is_bind_answer s 0 (Got e)) (made_events_to k) ≡ cond {A = ℕ} (ltb s k) 2 0
        → count_by (λ e. is_bind_answer s 0 (Got e)) (made_events_to (suc k)) ≡ cond {A = ℕ} (ltb s (suc k)) 2 0
    by (inl same) h =
        let here : count_by (λ e. is_bind_answer s 0 (Got e)) (made_events_of k) ≡ 2 =
        answers-of s k ∙ ap (λ (b : Bool). cond {A = ℕ} b 2 0) (eq-eqb k s (sym same)) in
        let before : cond {A = ℕ} (ltb s k) 2 0 ≡ 0 = ap (λ (b : Bool). cond {A = ℕ} b 2 0) (le-ltb s k (omega arith)) in
        let after : cond {A = ℕ} (ltb s (suc k)) 2 0 ≡ 2 = ap (λ (b : Bool). cond {A = ℕ} b 2 0) (lt-ltb s (suc k) (omega arith)) in
        omega (arith, all, here, before, after, h)
    by (inr (inl below)) h =
        let here : count_by (λ e. is_bind_answer s 0 (Got e)) (made_events_of k) ≡ 0 =
        answers-of s k ∙ ap (λ (b : Bool). cond {A = ℕ} b 2 0) (ne_eqb k s (λ is. omega (arith, is, below))) in
        let before : cond {A = ℕ} (ltb s k) 2 0 ≡ 2 = ap (λ (b : Bool). cond {A = ℕ} b 2 0) (lt-ltb s k below) in
        let after : cond {A = ℕ} (ltb s (suc k)) 2 0 ≡ 2 = ap (λ (b : Bool). cond {A = ℕ} b 2 0) (lt-ltb s (suc k) (omega arith)) in
        omega (arith, all, here, before, after, h)
    by (inr (inr above)) h =
        let here : count_by (λ e. is_bind_answer s 0 (Got e)) (made_events_of k) ≡ 0 =
        answers-of s k ∙ ap (λ (b : Bool). cond {A = ℕ} b 2 0) (ne_eqb k s (λ is. omega (arith, is, above))) in
        let before : cond {A = ℕ} (ltb s k) 2 0 ≡ 0 = ap (λ (b : Bool). cond {A = ℕ} b 2 0) (le-ltb s k (omega arith)) in
        let after : cond {A = ℕ} (ltb s (suc k)) 2 0 ≡ 0 = ap (λ (b : Bool). cond {A = ℕ} b 2 0) (le-ltb s (suc k) (omega arith)) in
        omega (arith, all, here, before, after, h)

bound-of : (s : ℕ) → list_any (is_bound_at s) (made_events_of s) ≡ true
bound-of s = rw (eq-eqb s s refl) refl

bind-two : (n s : ℕ) (r : Record) → Done n r → s < n → times (is_bind s 0) r ≡ 2
bind-two n s r d lt =
    let bound : came r (is_bound_at s) ≡ true = done-came (is_bound_at s) n r d ∙ or_left _ _ (some-to (is_bound_at s) n s lt (bound-of s)) in
    let closed : cond {A = ℕ} (is_bind_open r s 0) 1 0 ≡ 0 =
    ap (λ (b : Bool). cond {A = ℕ} b 1 0) (bound-closed n s r d.few lt (done-odd n r d) d.right.asks.in_turn bound) in
    let answers : times (is_bind_answer s 0) r ≡ 2 =
    times-came (is_bind_answer s 0) (λ a. refl) r ∙ ap (count_by (λ e. is_bind_answer s 0 (Got e))) d.events
    ∙ count-append (λ e. is_bind_answer s 0 (Got e)) (made_events_to n) (events.Signal FastShutdown ∷ [])
    ∙ (let front : count_by (λ e. is_bind_answer s 0 (Got e)) (made_events_to n) ≡ 2 = answers-to s n ∙ ap (λ (b : Bool). cond {A = ℕ} b 2 0) (lt-ltb s n lt) in
    omega (arith, front)) in
    let even = balanced n s r d.right.fits d.right.asks.in_turn in
    omega (arith, even, closed, answers)

bind-known-one : (n : ℕ) (e : Entry) (before : Record) → ask_known (made_plan n) e before ≡ true → OneOf is_any_bind (λ s. is_bind s 0) n e
bind-known-one n (Told (actions.Bind t j)) before h = by (cases_lt t n)
  where
    by : (t < n) ⊎ (n ≤ t) → OneOf is_any_bind (λ s. is_bind s 0) n (Told (actions.Bind t j))
    by (inl below) =
        let one = endpoints-at n t below in
        let first : j < length (endpoints (made_plan n) t) = ltb-true j (length (endpoints (made_plan n) t)) h in
        let zero-is : j ≡ 0 = omega (arith, first, ap length one) in
        inr (t, below, refl, and_from _ _ (eq-eqb t t refl) (eq-eqb j 0 zero-is), λ i ne. rw (ne_eqb t i (λ is. ne (sym is))) refl)
    by (inr past) =
        let none = endpoints-past n t past in
        let first : j < length (endpoints (made_plan n) t) = ltb-true j (length (endpoints (made_plan n) t)) h in
        absurd (omega (arith, first, ap length none))
bind-known-one n e before h = inl (refl, λ i lt. refl)

pub count-binds : (n : ℕ) (r : Record) → Done n r → times is_any_bind r ≡ 2 * n
count-binds n r d =
    count-split is_any_bind (λ s. is_bind s 0) n r (each-map _ _ r (bind-known-one n) d.right.stronger.known_asks)
    ∙ sumto-all (λ i. times (is_bind i 0) r) 2 n (λ i lt. bind-two n i r d lt)

-- ---- closes

any-opened : (p : Plan) (f : Descriptor → Bool) (q : Record) → list_any f (opened_descriptors p q) ≡ came q (λ e. list_any f (descriptors_of p (Got e)))
any-opened p f [] = refl
any-opened p f (Told a ∷ q) = any-opened p f q
any-opened p f (Got e ∷ q) =
    list_any-append f (descriptors_of p (Got e)) (opened_descriptors p q)
    ∙ ap (λ (b : Bool). list_any f (descriptors_of p (Got e)) || b) (any-opened p f q)
    ∙ turn (list_any f (descriptors_of p (Got e))) (came q (λ x. list_any f (descriptors_of p (Got x))))
    ∙ sym (list_any-append (λ x. list_any f (descriptors_of p (Got x))) (events_of q) (e ∷ []))
  where
    turn : (a b : Bool) → (a || b) ≡ (b || (a || false))
    turn true true = refl
    turn true false = refl
    turn false true = refl
    turn false false = refl

-- the descriptor with this number came
abbrev opens : ℕ → ℕ → Event → Bool
opens n fd e = list_any (has_number fd) (descriptors_of (made_plan n) (Got e))

opens-of : (n j : ℕ) → list_any (opens n (j + 1)) (made_events_of j) ≡ true
opens-of n j = rw (eq-eqb (j + 1) (j + 1) refl) refl

opens-other : (n fd j : ℕ) → (j + 1 ≡ fd → ⊥) → list_any (opens n fd) (made_events_of j) ≡ false
opens-other n fd j ne = rw (word-test (opens n fd) (is_even j) false j (made_moment j) refl refl, ne_eqb (j + 1) fd ne) refl

close-one : (n i : ℕ) (r : Record) → Done n r → i < n → times (is_close (i + 1)) r ≡ 1
close-one n i r d lt =
    d.served.closed_once (i + 1)
    (any-opened (made_plan n) (has_number (i + 1)) r ∙ done-came (opens n (i + 1)) n r d ∙ or_left _ _ (some-to (opens n (i + 1)) n i lt (opens-of n i)))

close-known-one : (n : ℕ) (r : Record) → Done n r → (e : Entry) (before : Record)
    → (close_once (made_plan n) e before ≡ true) × ((t : Event → Bool) → came r t ≡ false → came before t ≡ false)
    → OneOf is_any_close (λ i. is_close (i + 1)) n e
close-known-one n r d (Told (actions.Close m)) before h = by (cases_lt 0 m) (cases_lt n m)
  where
    opened : came before (opens n m) ≡ true
    opened = sym (any-opened (made_plan n) (has_number m) before) ∙ (and_parts (is_opened (made_plan n) before m) _ h.0).0

    outside : ((j : ℕ) → j < n → j + 1 ≡ m → ⊥) → ⊥
    outside ne =
        both_ways _ (h.1 (opens n m) (done-came (opens n m) n r d ∙ or_from _ _ (none-to (opens n m) n (λ j lt. opens-other n m j (ne j lt))) (last n m)))
        opened
      where
        last : (n m : ℕ) → list_any (opens n m) (events.Signal FastShutdown ∷ []) ≡ false
        last n m = refl

    by : (0 < m) ⊎ (m ≤ 0) → (n < m) ⊎ (m ≤ n) → OneOf is_any_close (λ i. is_close (i + 1)) n (Told (actions.Close m))
    by (inr none) b = absurd (outside (λ j lt is. omega (arith, is, none)))
    by (inl some) (inl above) = absurd (outside (λ j lt is. omega (arith, is, lt, above)))
    by (inl some) (inr inside) = inr (m - 1, omega arith, refl, eq-eqb m ((m - 1) + 1) (omega arith), λ i ne. ne_eqb m (i + 1) (λ is. ne (omega arith)))
close-known-one n r d e before h = inl (refl, λ i lt. refl)

pub count-closes : (n : ℕ) (r : Record) → Done n r → times is_any_close r ≡ n
count-closes n r d =
    count-split is_any_close (λ i. is_close (i + 1)) n r
    (each-map _ _ r (close-known-one n r d)
    (each-within (λ e before. close_once (made_plan n) e before ≡ true) r r (λ t none. none) d.right.stronger.closes))
    ∙ sumto-all (λ i. times (is_close (i + 1)) r) 1 n (λ i lt. close-one n i r d lt) ∙ omega arith
