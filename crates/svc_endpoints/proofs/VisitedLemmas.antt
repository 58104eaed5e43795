-- A visit leaves its service right.
use Rattle.std.proofs.Common.{ℕ, Bool, true, false, zero, suc, ◌||◌, ◌&&◌, ◌==◌, not, ◌⊎◌, inl, inr, List, [], ◌∷◌, ◌++◌, ◌≡◌, refl, ap, sym, ◌∙◌, subst, arith, ◌<◌, ◌≤◌, ◌+◌, length, Option, Some, None, nat_le, slice_index_or}
use Rattle.std.specs.List.{list_any, list_all, range_with_len}
use Rattle.std.proofs.lemmas.Bool.{cases_Bool, cases_eq, cases_lt, and_parts, and_from, or_left, or_right, eq-eqb, ne_eqb}
use Rattle.svc_record.specs.declared.plan.Plan.{Plan}
use Rattle.svc_record.specs.declared.entry.Entry.TheVariants.{Told}
use Rattle.svc_record.specs.declared.action.Action.TheVariants.{Bind, Adopt}
use Rattle.svc_record.specs.Record.{Record, has, now}
use Rattle.svc_record.specs.Plans.{service_count, endpoints, address, same_address, any_with, endpoint_numbers, is_endpoint}
use Rattle.svc_record.specs.Descriptors.{has_live, live_numbers_with, is_close, is_opened}
use Rattle.svc_record.specs.Asks.{is_bind_open, is_ask_open}
use Rattle.svc_record.specs.Failed.{has_failed}
use Rattle.svc_record.specs.Starts.{is_started}
use Rattle.svc_record.specs.Endpoints.{is_held, holds, rests, is_busy, is_busy_elsewhere, waits_at, waits, first_missing, is_at_work, endpoint_right, endpoint_right_late}
use Rattle.svc_record.specs.Closes.{is_broadcast, is_drained}
use Rattle.svc_record.specs.Told.{Tells}
use Rattle.svc_record.specs.declared.action.Action.{Action}
use Rattle.svc_record.specs.AskRules.{has_turn, ask_due}
use Rattle.svc_endpoints.specs.declared.states.EndpointStatus.{EndpointStatus}
use Rattle.svc_endpoints.specs.declared.states.EndpointStatus.TheVariants.{Idle, Binding, AddressInUse, Adopting, Holding, AdoptionFailed}
use Rattle.svc_endpoints.specs.declared.visit.Visit.{Visit}
use Rattle.svc_endpoints.specs.declared.visit.Visit.TheVariants.{Nothing, Binds, Adopts}
use Rattle.svc_endpoints.specs.EndpointsData.{EndpointsData}
use Rattle.svc_endpoints.specs.EndpointsState.{IsEndpointsSized, LoopsStand, StatesKept, StatesStand, EndpointsStand, numbers_of_table, last_at, failed_at, numbers_with, is_binding, is_adopting, is_asking, is_holding, is_done, times_in_use_at, held_of}
use Rattle.svc_base.specs.NumberSets.{is_in}
use Rattle.svc_endpoints.specs.Effects.{first_of, not_empty, put_last, asked, offered}
use Rattle.svc_endpoints.specs.Loops.{has_loop}
use Rattle.svc_endpoints.proofs.OpenedLemmas.{live-pair}
use Rattle.svc_endpoints.specs.Visits.{IsAskOf, busy_in, IsFirst, IsDecided, decide_at, after, told_by, Visited}
use Rattle.svc_endpoints.specs.Rests.{SharesWith}
use Rattle.svc_endpoints.proofs.BusyLemmas.{one-with}
use Rattle.svc_endpoints.proofs.GoneLemmas.{loops-told, is_gone_now, closed-is}
use Rattle.svc_endpoints.proofs.LoopLemmas.{no_loops}
use Rattle.svc_endpoints.proofs.UseLemmas.{drained-is, used-not_drained}
use Rattle.svc_base.proofs.Logic.{clash, false_where, lt_true}
use Rattle.svc_endpoints.proofs.ChangeLemmas.{Changed, loops-changed, drained-same, changed-put, put-here}
use Rattle.svc_endpoints.proofs.EventLemmas.{closes-told}
use Rattle.svc_endpoints.specs.Uses.{uses, is_drained_by}
use Rattle.svc_endpoints.proofs.RangeLemmas.{at0, get0, all0}
use Rattle.svc_endpoints.proofs.StatesLemmas.{has_open-is, stands-asked, stands-offered}
use Rattle.svc_endpoints.proofs.KeptLemmas.{asking_not_holding, kept-asked, kept-offered}
use Rattle.svc_endpoints.proofs.SharedLemmas.{right-bind, right-adopt, late-bind, late-adopt, cases_Option}
use Rattle.svc_endpoints.proofs.LiveLemmas.{same_eq}
use Rattle.svc_endpoints.proofs.VisitLemmas.{held-is, ask_open-is, holds-is, any_busy-is, busy_counts}

pub missing_range : (p : Plan) (q : Record) (s a n j : ℕ) → a ≤ j → j < a + n → ((k : ℕ) → a ≤ k → k < j → is_held p q s k ≡ true) → is_held p q s j ≡ false
    → first_missing p q s (range_with_len a n) ≡ Some j
missing_range p q s a zero j low high h m = absurd (omega arith)
missing_range p q s a (suc n) j low high h m = elim (cases_eq a j) [
  | inl e ↦ (let here : is_held p q s a ≡ false = subst (λ i. is_held p q s i ≡ false) (sym e) m in rw here (ap Some e))
  | inr ne ↦ rw (h a (omega arith) (omega arith)) (missing_range p q s (a + 1) n j (omega arith) (omega arith) (λ k l g. h k (omega arith) g) m)
]

le_true : (j i : ℕ) → j ≤ i → nat_le j i ≡ true
le_true j i h = grind arith

-- an endpoint from the first missing one on is right, where that one waits
right_by_wait : (p : Plan) (q : Record) (s j i : ℕ) → first_missing p q s (endpoint_numbers p s) ≡ Some j → j ≤ i → waits_at p q s j ≡ true
    → endpoint_right p q s i ≡ true
right_by_wait p q s j i e le w = or_right (not (is_at_work p q s)) (holds p q s i || waits p q s i) (or_right (holds p q s i) (waits p q s i)
    (rw e (and_from (nat_le j i) (waits_at p q s j) (le_true j i le) w)))

late_by_wait : (p : Plan) (q : Record) (s j i : ℕ) → first_missing p q s (endpoint_numbers p s) ≡ Some j → j ≤ i → waits_at p q s j ≡ true
    → endpoint_right_late p q s i ≡ true
late_by_wait p q s j i e le w = or_right (not (is_at_work p q s)) (is_held p q s i || waits p q s i) (or_right (is_held p q s i) (waits p q s i)
    (rw e (and_from (nat_le j i) (waits_at p q s j) (le_true j i le) w)))

first_none : (xs : List ℕ) → not_empty xs ≡ false → first_of xs ≡ None
first_none [] e = refl
first_none (x ∷ xs) e = absurd (cc)

none_first : (xs : List ℕ) → first_of xs ≡ None → not_empty xs ≡ false
none_first [] e = refl
none_first (x ∷ xs) e = absurd (cc)

one_first : (xs : List ℕ) (fd : ℕ) → first_of xs ≡ Some fd → length xs ≤ 1 → xs ≡ fd ∷ []
one_first [] fd e h = absurd (cc)
one_first (x ∷ []) fd e h = ap (λ w. w ∷ []) (some_same x fd e)
  where
    some_same : (a b : ℕ) → Some a ≡ Some b → a ≡ b
    some_same a b e = cc
one_first (x ∷ y ∷ xs) fd e h = absurd (omega arith)

not_asking_binding : (x : EndpointStatus) → is_asking x ≡ false → (is_binding x ≡ false) × (is_adopting x ≡ false)
not_asking_binding x h = (or_first (is_binding x) (is_adopting x) h, or_second (is_binding x) (is_adopting x) h)
  where
    or_first : (a b : Bool) → (a || b) ≡ false → a ≡ false
    or_first a b h = grind arith

    or_second : (a b : Bool) → (a || b) ≡ false → b ≡ false
    or_second a b h = grind arith

not_holding_none : (x : EndpointStatus) → is_holding x ≡ false → held_of x ≡ []
not_holding_none (Holding fd) e = absurd (cc)
not_holding_none Idle e = refl
not_holding_none Binding e = refl
not_holding_none (AddressInUse at) e = refl
not_holding_none (Adopting fd) e = refl
not_holding_none AdoptionFailed e = refl

-- an endpoint that isn't held and is offered nothing uses nothing
unused : (fd : ℕ) (f d : Bool) (x : EndpointStatus) → is_adopting x ≡ false → is_holding x ≡ false → uses fd f d x ≡ false
unused fd f d (Adopting n) a h = absurd (cc)
unused fd f d (Holding n) a h = absurd (cc)
unused fd f d Idle a h = refl
unused fd f d Binding a h = refl
unused fd f d (AddressInUse at) a h = refl
unused fd f d AdoptionFailed a h = refl

-- the first endpoint that isn't is_held, if there is one
pub find_first : (p : Plan) (d : EndpointsData) (s n : ℕ) → n ≤ length (endpoints p s)
    → ((i : ℕ) → i < n → is_holding (last_at d s i) ≡ true) ⊎ ((j : ℕ) × IsFirst p d s j)
find_first p d s zero le = inl (λ i lt. absurd (omega arith))
find_first p d s (suc n) le = elim (find_first p d s n (omega arith)) [
  | inr found ↦ inr found
  | inl all ↦ elim (cases_Bool (is_holding (last_at d s n))) [
    | inl y ↦ inl (λ i lt. elim (cases_eq i n) [ inl e ↦ subst (λ k. is_holding (last_at d s k) ≡ true) (sym e) y | inr ne ↦ all i (omega arith) ])
    | inr m ↦ inr (n, record { within = omega arith; missing = m; earlier = all })
  ]
]

-- an ask that was due, of an endpoint of the plan
pub stand-bind : (p : Plan) (d e : EndpointsData) (q : Record) (s i : ℕ) → EndpointsStand p d q → StatesStand p e (Told (Bind s i) ∷ q) → LoopsStand p e q
    → ((fd : ℕ) → is_opened p q fd ≡ true → is_drained_by p e fd ≡ is_drained_by p d fd) → StatesKept p e → ask_due p (Told (Bind s i)) q ≡ true
    → is_endpoint p s i ≡ true
    → e.table ≡ d.table → e.came ≡ d.came → EndpointsStand p e (Told (Bind s i) ∷ q)
stand-bind p d e q s i stand states ends drained kept due known table came = let loops = loops-told p e q (Bind s i) ends in record {
  states = states;
  loops = loops;
  kept = kept;
  asks_due = (due, stand.asks_due);
  asks_known = (known, stand.asks_known);
  closes_once = (refl, stand.closes_once);
  fails = stand.fails;
  closes = closes-told p d e q (Bind s i) (λ fd. refl) states loops drained stand;
  one_live = stand.one_live;
  open_are = ap numbers_of_table table ∙ stand.open_are;
  came_are = came ∙ stand.came_are;
  came_apart = stand.came_apart;
}

pub stand-adopt : (p : Plan) (d e : EndpointsData) (q : Record) (s i fd : ℕ) → EndpointsStand p d q → StatesStand p e (Told (Adopt s i fd) ∷ q)
    → LoopsStand p e q → ((n : ℕ) → is_opened p q n ≡ true → is_drained_by p e n ≡ is_drained_by p d n) → StatesKept p e
    → ask_due p (Told (Adopt s i fd)) q ≡ true → is_endpoint p s i ≡ true
    → e.table ≡ d.table → e.came ≡ d.came → EndpointsStand p e (Told (Adopt s i fd) ∷ q)
stand-adopt p d e q s i fd stand states ends drained kept due known table came = let loops = loops-told p e q (Adopt s i fd) ends in record {
  states = states;
  loops = loops;
  kept = kept;
  asks_due = (due, stand.asks_due);
  asks_known = (known, stand.asks_known);
  closes_once = (refl, stand.closes_once);
  fails = stand.fails;
  closes = closes-told p d e q (Adopt s i fd) (λ n. refl) states loops drained stand;
  one_live = stand.one_live;
  open_are = ap numbers_of_table table ∙ stand.open_are;
  came_are = came ∙ stand.came_are;
  came_apart = stand.came_apart;
}

module _ (p : Plan) (d : EndpointsData) (s : ℕ) (q : Record) (sized : IsEndpointsSized p d) (stand : EndpointsStand p d q) (inside : s < service_count p)
    (on : is_started q s ≡ true) where
  kept : StatesKept p d
  kept = stand.kept

  was : StatesStand p d q
  was = stand.states

  -- before the broadcast no loop has ended
  early : has is_broadcast q ≡ false → d.loops ≡ []
  early calm = no_loops d.loops (λ t k j. false_where (has_loop d.loops t k j) (λ y. clash (has is_broadcast q) (stand.loops.told t k j y) calm))

  -- another endpoint with the address keeps it busy
  elsewhere : (a : Option (List ℕ)) → has_live p q a ≡ false → any_with p a (busy_in d (now q)) ≡ true → is_busy_elsewhere p q a ≡ true
  elsewhere a none h =
      let some = get0 _ (service_count p) (any_busy-is p d q sized kept was a none ∙ h) in
      let one = get0 _ (length (endpoints p some.0)) some.2 in
      let parts = and_parts (same_address (address p some.0 one.0) a) (is_busy p q some.0 one.0) one.2 in
      at0 _ (service_count p) some.0 some.1 (at0 _ (length (endpoints p some.0)) one.0 one.1
      (and_from (same_address (address p some.0 one.0) a) (is_at_work p q some.0 && is_busy p q some.0 one.0) parts.0
      (and_from (is_at_work p q some.0) (is_busy p q some.0 one.0)
      (busy_counts p d q sized kept was some.0 one.0 some.1 one.1 (none_there some.0 one.0 parts.0) parts.1) parts.1)))
    where
      none_there : (t k : ℕ) → same_address (address p t k) a ≡ true → has_live p q (address p t k) ≡ false
      none_there t k e = subst (λ b. has_live p q b ≡ false) (sym (same_eq (address p t k) a e)) none

  -- what the states say of an endpoint that is held
  right_held : has is_broadcast q ≡ false → (i : ℕ) → i < length (endpoints p s) → failed_at d s ≡ false → is_holding (last_at d s i) ≡ true
      → endpoint_right p q s i ≡ true
  right_held calm i within free h =
      or_right (not (is_at_work p q s)) (holds p q s i || waits p q s i)
      (or_left (holds p q s i) (waits p q s i) (holds-is p d q sized kept was (early calm) s i inside within free h))

  late_held : (i : ℕ) → i < length (endpoints p s) → is_holding (last_at d s i) ≡ true → endpoint_right_late p q s i ≡ true
  late_held i within h =
      or_right (not (is_at_work p q s)) (is_held p q s i || waits p q s i)
      (or_left (is_held p q s i) (waits p q s i) (held-is p d q sized kept was s i inside within ∙ h))

  late_failed : (i : ℕ) → failed_at d s ≡ true → endpoint_right_late p q s i ≡ true
  late_failed i bad = rw (← (was.failed_is s inside), bad, on) refl

  right_failed : (i : ℕ) → failed_at d s ≡ true → endpoint_right p q s i ≡ true
  right_failed i bad = rw (← (was.failed_is s inside), bad, on) refl

  pub visited-failed : failed_at d s ≡ true → Visited p d s q []
  visited-failed bad = record { stands = stand; right = λ calm i within. right_failed i bad; right_late = λ i within. late_failed i bad }

  pub visited-held : failed_at d s ≡ false → ((i : ℕ) → i < length (endpoints p s) → is_holding (last_at d s i) ≡ true) → Visited p d s q []
  visited-held free all =
      record {
        stands = stand;
        right = λ calm i within. right_held calm i within free (all i within);
        right_late = λ i within. late_held i within (all i within);
      }

  module _ (free : failed_at d s ≡ false) (j : ℕ) (first : IsFirst p d s j) where
    missing-is : first_missing p q s (endpoint_numbers p s) ≡ Some j
    missing-is = missing_range p q s 0 (length (endpoints p s)) j (omega arith) (let w = first.within in omega arith)
        (λ k low lt. held-is p d q sized kept was s k inside (let w = first.within in omega arith) ∙ first.earlier k lt)
        (held-is p d q sized kept was s j inside first.within ∙ first.missing)

    -- right before anything is told, where the first missing one waits
    visited-waits : waits_at p q s j ≡ true → Visited p d s q []
    visited-waits w = record {
      stands = stand;
      right = λ calm i within. elim (cases_lt i j) [
        | inl lt ↦ right_held calm i within free (first.earlier i lt)
        | inr ge ↦ right_by_wait p q s j i missing-is ge w
      ];
      right_late = λ i within. elim (cases_lt i j) [
        | inl lt ↦ late_held i within (first.earlier i lt)
        | inr ge ↦ late_by_wait p q s j i missing-is ge w
      ];
    }

    visited-open : is_asking (last_at d s j) ≡ true → Visited p d s q []
    visited-open asks = visited-waits (or_left (is_busy p q s j) (not (has_live p q (address p s j)) && is_busy_elsewhere p q (address p s j))
        (or_left (is_ask_open q s j) (rests p q s j) (ask_open-is p d q sized kept was s j inside first.within ∙ asks)))

    none_live : first_of (numbers_with d.table (address p s j)) ≡ None → has_live p q (address p s j) ≡ false
    none_live e = sym (has_open-is p d q was (address p s j)) ∙ none_first (numbers_with d.table (address p s j)) e

    visited-busy : first_of (numbers_with d.table (address p s j)) ≡ None → any_with p (address p s j) (busy_in d (now q)) ≡ true → Visited p d s q []
    visited-busy e h = visited-waits (or_right (is_busy p q s j) (not (has_live p q (address p s j)) && is_busy_elsewhere p q (address p s j))
        (rw (none_live e) (elsewhere (address p s j) (none_live e) h)))

    turn : is_asking (last_at d s j) ≡ false → has_turn p q s j ≡ true
    turn idle = and_from ((is_endpoint p s j && (is_started q s && not (has_failed p q s))) && list_all (is_held p q s) (range_with_len 0 j))
        (not (is_held p q s j) && not (is_ask_open q s j))
        (and_from (is_endpoint p s j && (is_started q s && not (has_failed p q s))) (list_all (is_held p q s) (range_with_len 0 j))
        (and_from (is_endpoint p s j) (is_started q s && not (has_failed p q s)) (lt_true j (length (endpoints p s)) first.within)
        (rw (on, ← (was.failed_is s inside), free) refl))
        (all0 (is_held p q s) j (λ k lt. held-is p d q sized kept was s k inside (let w = first.within in omega arith) ∙ first.earlier k lt)))
        (rw (held-is p d q sized kept was s j inside first.within, first.missing, ask_open-is p d q sized kept was s j inside first.within, idle) refl)

    in_rows : s < length d.rows
    in_rows = omega (arith, sized.services)

    in_row : j < length (slice_index_or d.rows s [])
    in_row = let w = first.within in omega (arith, sized.each s inside, w)

    -- only this endpoint changes
    only : (x : EndpointStatus) → Changed p d (put_last d s j x) s j
    only x = changed-put p d s j false (record { last = x; times_in_use = times_in_use_at d s j }) in_rows in_row
        (omega (arith, sized.failed)) first.within first.missing

    -- what it doesn't use now, and didn't before, is drained as it was
    same : (x : EndpointStatus) (n : ℕ) → is_adopting (last_at d s j) ≡ false → uses n (failed_at d s) (is_done p d s j) x ≡ false
        → is_drained_by p (put_last d s j x) n ≡ is_drained_by p d n
    same x n idle off = drained-same p d (put_last d s j x) s j (only x) q stand.loops n refl
        (ap (uses n (failed_at d s) (is_done p d s j)) (put-here p d s j false (record { last = x; times_in_use = times_in_use_at d s j }) in_rows in_row) ∙ off
        ∙ sym (unused n (failed_at d s) (is_done p d s j) (last_at d s j) idle first.missing))

    visited-asks : is_asking (last_at d s j) ≡ false → first_of (numbers_with d.table (address p s j)) ≡ None
        → any_with p (address p s j) (busy_in d (now q)) ≡ false
        → Visited p (asked d s j) s q (Bind s j ∷ [])
    visited-asks idle e quiet = record {
      stands = stand-bind p d (asked d s j) q s j stand
          (stands-asked p d q s j sized inside first.within was free (not_asking_binding (last_at d s j) idle).1
          (not_holding_none (last_at d s j) first.missing) on)
          (loops-changed p d (asked d s j) s j (only Binding) q stand.loops)
          (λ fd came. same Binding fd (not_asking_binding (last_at d s j) idle).1 refl)
          (kept-asked p d s j sized inside first.within kept free first.missing first.earlier)
          (rw (turn idle, none_live e, any_busy-is p d q sized kept was (address p s j) (none_live e), quiet) refl)
          (lt_true j (length (endpoints p s)) first.within) refl refl;
      right = λ calm i within. elim (cases_lt i j) [
        | inl lt ↦ right-bind p q s j s i (right_held calm i within free (first.earlier i lt))
        | inr ge ↦ right_by_wait p (Told (Bind s j) ∷ q) s j i missing-is ge asks
      ];
      right_late = λ i within. elim (cases_lt i j) [
        | inl lt ↦ late-bind p q s j s i (late_held i within (first.earlier i lt))
        | inr ge ↦ late_by_wait p (Told (Bind s j) ∷ q) s j i missing-is ge asks
      ];
    }
      where
        asks : waits_at p (Told (Bind s j) ∷ q) s j ≡ true
        asks = or_left (is_busy p (Told (Bind s j) ∷ q) s j) _
            (or_left (is_ask_open (Told (Bind s j) ∷ q) s j) _
            (or_left (is_bind_open (Told (Bind s j) ∷ q) s j) _ (rw (eq-eqb s s refl, eq-eqb j j refl) refl)))

    the_one : (fd : ℕ) → first_of (numbers_with d.table (address p s j)) ≡ Some fd → numbers_with d.table (address p s j) ≡ fd ∷ []
    the_one fd e = one_first (numbers_with d.table (address p s j)) fd e (kept.one (address p s j))

    -- what is offered is live, so it wasn't drained, and isn't now
    same_offered : (fd : ℕ) → is_asking (last_at d s j) ≡ false → first_of (numbers_with d.table (address p s j)) ≡ Some fd → (n : ℕ) → is_opened p q n ≡ true
        → is_drained_by p (offered d s j fd) n ≡ is_drained_by p d n
    same_offered fd idle e n came = elim (cases_eq fd n) [
      | inr ne ↦ same (Adopting fd) n (not_asking_binding (last_at d s j) idle).1 (ne_eqb fd n ne)
      | inl f ↦ used-not_drained p (offered d s j fd) n s j inside first.within
          (ap (uses n (failed_at d s) (is_done p d s j))
          (put-here p d s j false (record { last = Adopting fd; times_in_use = times_in_use_at d s j }) in_rows in_row) ∙ eq-eqb fd n f)
          ∙ sym (false_where (is_drained_by p d n) (λ y. clash (has (is_close n) q)
          (closed-is p q n stand.closes_once (stand.closes n came) ∙ or_right (is_gone_now p q n) (is_drained p q n) (drained-is p d q was stand.loops n ∙ y))
          (live-pair p q n (address p s j)
          (ap (is_in n) (sym (was.with_is (address p s j))) ∙ ap (is_in n) (the_one fd e) ∙ or_left (fd == n) false (eq-eqb fd n f))).1))
    ]

    visited-offers : (fd : ℕ) → is_asking (last_at d s j) ≡ false → first_of (numbers_with d.table (address p s j)) ≡ Some fd
        → Visited p (offered d s j fd) s q (Adopt s j fd ∷ [])
    visited-offers fd idle e = record {
      stands = stand-adopt p d (offered d s j fd) q s j fd stand
          (stands-offered p d q s j sized inside first.within was fd free (not_asking_binding (last_at d s j) idle).0
          (not_holding_none (last_at d s j) first.missing) on)
          (loops-changed p d (offered d s j fd) s j (only (Adopting fd)) q stand.loops)
          (λ n came. same_offered fd idle e n came)
          (kept-offered p d s j sized inside first.within kept fd free first.missing first.earlier (the_one fd e))
          (and_from (has_turn p q s j) (list_any (λ n. n == fd) (live_numbers_with p q (address p s j))) (turn idle)
          (subst (λ w. list_any (λ n. n == fd) w ≡ true) (sym (the_one fd e) ∙ was.with_is (address p s j)) (rw (eq-eqb fd fd refl) refl)))
          (lt_true j (length (endpoints p s)) first.within) refl refl;
      right = λ calm i within. elim (cases_lt i j) [
        | inl lt ↦ right-adopt p q s j fd s i (right_held calm i within free (first.earlier i lt))
        | inr ge ↦ right_by_wait p (Told (Adopt s j fd) ∷ q) s j i missing-is ge asks
      ];
      right_late = λ i within. elim (cases_lt i j) [
        | inl lt ↦ late-adopt p q s j fd s i (late_held i within (first.earlier i lt))
        | inr ge ↦ late_by_wait p (Told (Adopt s j fd) ∷ q) s j i missing-is ge asks
      ];
    }
      where
        asks : waits_at p (Told (Adopt s j fd) ∷ q) s j ≡ true
        asks = or_left (is_busy p (Told (Adopt s j fd) ∷ q) s j) _
            (or_left (is_ask_open (Told (Adopt s j fd) ∷ q) s j) _
            (or_right (is_bind_open (Told (Adopt s j fd) ∷ q) s j) _ (rw (eq-eqb s s refl, eq-eqb j j refl) refl)))

    pub visited-first : Visited p (after d s (decide_at p d s (now q) j)) s q (told_by s (decide_at p d s (now q) j))
    visited-first = elim (cases_Bool (is_asking (last_at d s j))) [
      | inl y ↦ rw y (visited-open y)
      | inr n ↦ elim (cases_Option (first_of (numbers_with d.table (address p s j)))) [
        | inr some ↦ rw (n, some.1) (visited-offers some.0 n some.1)
        | inl none ↦ elim (cases_Bool (any_with p (address p s j) (busy_in d (now q)))) [
          | inl b ↦ rw (n, none, b) (visited-busy none b)
          | inr c ↦ rw (n, none, c) (visited-asks n none c)
        ]
      ]
    ]

  -- an ask of the service is open, so its visit tells nothing
  pub visited-asked : (j : ℕ) → j < length (endpoints p s) → is_asking (last_at d s j) ≡ true → Visited p d s q []
  visited-asked j within asks =
      visited-open (kept.asking_free s j asks) j
      (record { within = within; missing = asking_not_holding (last_at d s j) asks; earlier = λ k lt. kept.turn s j k asks lt }) asks

  -- its first endpoint that isn't held has an address that is kept busy, so its visit tells nothing
  pub visited-shared : (t : ℕ) → t < service_count p → (x : SharesWith p d s t) → busy_in d (now q) t x.other ≡ true → Visited p d s q []
  visited-shared t within x busy = elim (cases_Bool (failed_at d s)) [
    | inl bad ↦ visited-failed bad
    | inr free ↦ visited-busy free x.at x.first (first_none (numbers_with d.table (address p s x.at)) x.none)
        (one-with p (address p s x.at) (busy_in d (now q)) t x.other within x.other_first.within
        (and_from (same_address (address p t x.other) (address p s x.at)) (busy_in d (now q) t x.other) x.same busy))
  ]

  pub leaves-on : (v : Visit) → IsDecided p d s true (now q) v → Visited p (after d s v) s q (told_by s v)
  leaves-on v decided = elim (cases_Bool (failed_at d s)) [
    | inl bad ↦ subst (λ (w : Visit). Visited p (after d s w) s q (told_by s w)) (sym (decided.failed bad)) (visited-failed bad)
    | inr free ↦ elim (find_first p d s (length (endpoints p s)) (omega arith)) [
      | inl all ↦ subst (λ (w : Visit). Visited p (after d s w) s q (told_by s w)) (sym (decided.held refl free all)) (visited-held free all)
      | inr some ↦
          subst (λ (w : Visit). Visited p (after d s w) s q (told_by s w)) (sym (decided.first refl free some.0 some.1)) (visited-first free some.0 some.1)
    ]
  ]

-- what was decided leaves the service right
pub visit-leaves : (p : Plan) (d : EndpointsData) (s : ℕ) (on : Bool) (q : Record) → IsEndpointsSized p d → s < service_count p → (v : Visit)
    → IsDecided p d s on (now q) v → on ≡ is_started q s → EndpointsStand p d q
    → Visited p (after d s v) s q (told_by s v)
visit-leaves p d s true q sized inside v decided on stand = leaves-on p d s q sized stand inside (sym on) v decided
visit-leaves p d s false q sized inside v decided on stand =
    subst (λ (w : Visit). Visited p (after d s w) s q (told_by s w)) (sym (decided.off refl))
    (record { stands = stand; right = λ calm i within. rw (sym on) refl; right_late = λ i within. rw (sym on) refl })

asks_of : (s : ℕ) (v : Visit) → IsAskOf s (told_by s v)
asks_of s Nothing = tt
asks_of s (Binds i) = refl
asks_of s (Adopts i fd) = refl

-- what a visit told, and what it left
pub tells-visit : (p : Plan) (d new : EndpointsData) (s : ℕ) (on : Bool) (moment : ℕ) (v : Visit) (before after_it : List Action) → IsEndpointsSized p d
    → s < service_count p → IsDecided p d s on moment v
    → new ≡ after d s v → after_it ≡ before ++ told_by s v
    → Tells before after_it (λ told. IsAskOf s told × ((q : Record) → moment ≡ now q → on ≡ is_started q s → EndpointsStand p d q → Visited p new s q told))
tells-visit p d new s on moment v before after_it sized inside decided made appended = record {
  told = told_by s v;
  appended = appended;
  kept = (
    asks_of s v,
    λ q at begun stand. subst (λ (m : EndpointsData). Visited p m s q (told_by s v)) (sym made)
        (visit-leaves p d s on q sized inside v (subst (λ t. IsDecided p d s on t v) at decided) begun stand),
  );
}
