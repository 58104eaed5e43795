-- What is gone, and what keeps it so.
use Rattle.std.proofs.Common.{ℕ, Bool, true, false, ◌||◌, ◌&&◌, ◌==◌, not, inl, inr, List, [], ◌∷◌, ◌≡◌, refl, ap, sym, ◌∙◌, subst, arith, map, if◌then◌else◌}
use Rattle.std.specs.List.{list_any}
use Rattle.std.proofs.lemmas.Bool.{cases_Bool, and_parts, or_cases, or_left, or_right, eqb-true, eq-eqb}
use Rattle.std.proofs.lemmas.List.Folds.{list_any-append}
use Rattle.svc_record.specs.declared.plan.Plan.{Plan}
use Rattle.svc_record.specs.declared.entry.Entry.{Entry}
use Rattle.svc_record.specs.declared.entry.Entry.TheVariants.{Got, Told}
use Rattle.svc_record.specs.declared.action.Action.{Action}
use Rattle.svc_record.specs.declared.action.Action.TheVariants.{Adopt, Close}
use Rattle.svc_record.specs.declared.event.Event.{Event}
use Rattle.svc_record.specs.declared.event.Event.TheVariants.{Bound, Adopted, LoopEnded}
use Rattle.svc_record.specs.Record.{Record, has, times, tell, EachEntry}
use Rattle.svc_record.specs.Plans.{services, endpoint_numbers, address}
use Rattle.svc_record.specs.Descriptors.{Descriptor, descriptors_of, opened_descriptors, has_live, is_opened, is_close, is_doubled, address_of, live_numbers_with}
use Rattle.svc_record.specs.Asks.{last_adopt}
use Rattle.svc_record.specs.AskRules.{has_turn, ask_due}
use Rattle.svc_record.specs.Failed.{has_failed}
use Rattle.svc_record.specs.Endpoints.{held_numbers, held_numbers_of}
use Rattle.svc_record.specs.Offer.{is_held_back}
use Rattle.svc_record.specs.Closes.{is_gone, is_drained, is_holder, is_received, is_address_unclaimed, is_address_abandoned, is_broadcast, is_adopt_of_open, close_once}
use Rattle.svc_record.proofs.ClosesOnce.{closed_once}
use Rattle.svc_endpoints.specs.declared.table.Open.{Open}
use Rattle.svc_endpoints.specs.EndpointsData.{EndpointsData}
use Rattle.svc_endpoints.specs.EndpointsState.{LoopsStand}
use Rattle.svc_base.specs.NumberSets.{is_in}
use Rattle.svc_endpoints.proofs.OpenedLemmas.{first_address, opens-later, live-opened}
use Rattle.svc_endpoints.proofs.CloseLemmas.{along-closes}
use Rattle.svc_endpoints.proofs.UseLemmas.{get-endpoint}
use Rattle.svc_endpoints.proofs.StatesLemmas.{at_here}

-- the event says that a loop ended
abbrev pub is_any_loop_end : Event → Bool
is_any_loop_end (LoopEnded s i j) = true
is_any_loop_end _ = false

-- what is told, and other events, leave the loops
pub loops-told : (p : Plan) (d : EndpointsData) (q : Record) (a : Action) → LoopsStand p d q → LoopsStand p d (Told a ∷ q)
loops-told p d q a was = record {
  some_tasks = was.some_tasks;
  ends_are = was.ends_are;
  counts = was.counts;
  told = λ s i j h. or_right (is_broadcast (Told a)) (has is_broadcast q) (was.told s i j h);
  serve = was.serve;
}

pub loops-got : (p : Plan) (d : EndpointsData) (q : Record) (e : Event) → is_any_loop_end e ≡ false → LoopsStand p d q → LoopsStand p d (Got e ∷ q)
loops-got p d q (LoopEnded s i j) other was = absurd (cc)
loops-got p d q e other was = record { some_tasks = was.some_tasks; ends_are = was.ends_are; counts = was.counts; told = was.told; serve = was.serve }

-- and so do other descriptors
pub loops-table : (p : Plan) (d : EndpointsData) (q : Record) (table : List Open) (came : List ℕ) → LoopsStand p d q
    → LoopsStand p (record d { table = table; came = came }) q
loops-table p d q table came was = record {
  some_tasks = was.some_tasks;
  ends_are = was.ends_are;
  counts = was.counts;
  told = was.told;
  serve = λ s i j h. let x = was.serve s i j h in record { inside = x.inside; within = x.within; free = x.free; held = x.held };
}

pub loops-closes : (p : Plan) (d : EndpointsData) (q : Record) (ns : List ℕ) → LoopsStand p d q → LoopsStand p d (tell q (map Close ns))
loops-closes p d q ns was = along-closes (LoopsStand p d) (λ x n h. loops-told p d x (Close n) h) q ns was

-- received and unclaimed, or doubled
abbrev pub is_turned : Plan → Record → ℕ → Bool
is_turned p q fd = (is_received p q fd && is_address_unclaimed p (address_of p q fd)) || is_doubled p q fd

-- that, or abandoned and not on offer
abbrev pub is_gone_now : Plan → Record → ℕ → Bool
is_gone_now p q fd = is_turned p q fd || (is_address_abandoned p q (address_of p q fd) && not (is_held_back p q fd))

one_zero : (a b : Bool) → ◌≡◌ {A = ℕ} (if a then 1 else 0) (if b then 1 else 0) → a ≡ b
one_zero true true e = refl
one_zero true false e = absurd (omega arith)
one_zero false true e = absurd (omega arith)
one_zero false false e = refl

-- exactly what is gone is closed
pub closed-is : (p : Plan) (q : Record) (fd : ℕ) → EachEntry (λ e before. close_once p e before ≡ true) q
    → times (is_close fd) q ≡ (if is_gone p q fd then 1 else 0) → has (is_close fd) q ≡ is_gone p q fd
closed-is p q fd once h = one_zero (has (is_close fd) q) (is_gone p q fd) (sym (closed_once p q fd once) ∙ h)

-- where the same was opened and doubled, the same is turned away
pub turned-same : (p : Plan) (q r : Record) (fd : ℕ) → opened_descriptors p r ≡ opened_descriptors p q → is_doubled p r fd ≡ is_doubled p q fd
    → is_turned p r fd ≡ is_turned p q fd
turned-same p q r fd opened doubled =
    ap (λ ds. (list_any (λ (d : Descriptor). d.number == fd && d.received) ds && is_address_unclaimed p (first_address fd ds)) || is_doubled p r fd) opened
    ∙ ap (λ b. (is_received p q fd && is_address_unclaimed p (address_of p q fd)) || b) doubled

-- what is so of a live descriptor of the endpoint's address, and stays so, is so of what was offered to the endpoint last
module _ (p : Plan) (s i fd : ℕ) (P : Record → Type 0) (later : (e : Entry) (q : Record) → P q → P (e ∷ q))
    (live : (q : Record) → is_in fd (live_numbers_with p q (address p s i)) ≡ true → P q) where
  pub adopt-comes : (q : Record) → EachEntry (λ e before. ask_due p e before ≡ true) q → is_in fd (last_adopt q s i) ≡ true → P q
  adopt-comes [] due h = absurd (cc)
  adopt-comes (Told (Adopt t k n) ∷ q) due h = later (Told (Adopt t k n)) q (elim (cases_Bool (t == s && k == i)) [
    | inl y ↦ (let here : (n == fd) ≡ true = only (n == fd) (rw y at h) in
        let parts = and_parts (has_turn p q t k) (list_any (λ m. m == n) (live_numbers_with p q (address p t k))) due.0 in
        let there = subst (λ m. is_in m (live_numbers_with p q (address p t k)) ≡ true) (eqb-true n fd here) parts.1 in
        live q (at_here (λ u j. is_in fd (live_numbers_with p q (address p u j)) ≡ true) t s k i there y))
    | inr m ↦ adopt-comes q due.1 (rw m at h)
  ])
    where
      only : (b : Bool) → (b || false) ≡ true → b ≡ true
      only b h = grind arith
  adopt-comes (e ∷ q) due h = later e q (adopt-comes q due.1 h)

  -- and where it is so of what is bound, of what holds the endpoint
  module _ (bound : (q : Record) → P (Got (Bound s i fd) ∷ q)) where
    brought : (t k n : ℕ) (c : Bool) (q : Record) → is_in fd (if (t == s && k == i) && c then n ∷ [] else []) ≡ true → P (Got (Bound t k n) ∷ q)
    brought t k n c q h = elim (cases_Bool (t == s && k == i)) [
      | inl y ↦ (let parts = and_parts (t == s) (k == i) y in
          subst (λ u. P (Got (Bound u k n) ∷ q)) (sym (eqb-true t s parts.0))
          (subst (λ j. P (Got (Bound s j n) ∷ q)) (sym (eqb-true k i parts.1))
          (subst (λ m. P (Got (Bound s i m) ∷ q)) (sym (eqb-true n fd (number c n (rw y at h)))) (bound q))))
      | inr m ↦ absurd (let none = rw m at h in cc)
    ]
      where
        number : (c : Bool) (n : ℕ) → is_in fd (if true && c then n ∷ [] else []) ≡ true → (n == fd) ≡ true
        number true n h = only (n == fd) h
          where
            only : (b : Bool) → (b || false) ≡ true → b ≡ true
            only b h = grind arith
        number false n h = absurd (cc)

    taken : (b : Bool) (xs : List ℕ) → is_in fd (if b then xs else []) ≡ true → is_in fd xs ≡ true
    taken true xs h = h
    taken false xs h = absurd (cc)

    held_now : (e : Entry) (q : Record) → EachEntry (λ e before. ask_due p e before ≡ true) q → is_in fd (held_numbers_of p s i e q) ≡ true → P (e ∷ q)
    held_now (Got (Bound t k n)) q due h = brought t k n (not (has_live p q (address p t k))) q h
    held_now (Got (Adopted t k)) q due h = later (Got (Adopted t k)) q (adopt-comes q due (taken (t == s && k == i) (last_adopt q s i) h))
    held_now e q due h = absurd (cc)

    pub held-comes : (q : Record) → EachEntry (λ e before. ask_due p e before ≡ true) q → is_in fd (held_numbers p q s i) ≡ true → P q
    held-comes [] due h = absurd (cc)
    held-comes (e ∷ q) due h =
        elim (or_cases (is_in fd (held_numbers_of p s i e q)) (is_in fd (held_numbers p q s i))
        (sym (list_any-append (λ n. n == fd) (held_numbers_of p s i e q) (held_numbers p q s i)) ∙ h)) [
          | inl now ↦ held_now e q due.1 now
          | inr earlier ↦ later e q (held-comes q due.1 earlier)
        ]

-- what holds an endpoint was opened
pub held-opened : (p : Plan) (q : Record) (s i fd : ℕ) → EachEntry (λ e before. ask_due p e before ≡ true) q → is_in fd (held_numbers p q s i) ≡ true
    → is_opened p q fd ≡ true
held-opened p q s i fd due h = held-comes p s i fd (λ x. is_opened p x fd ≡ true) (λ e x. opens-later fd (descriptors_of p e) (opened_descriptors p x))
    (λ x. live-opened p x fd (address p s i)) (λ x. or_left (fd == fd) (is_opened p x fd) (eq-eqb fd fd refl)) q due h

-- what is drained was opened
pub drained-opened : (p : Plan) (q : Record) (fd : ℕ) → EachEntry (λ e before. ask_due p e before ≡ true) q → is_drained p q fd ≡ true → is_opened p q fd ≡ true
drained-opened p q fd due h =
    let outer = and_parts
    ((has is_broadcast q && not (is_adopt_of_open p q fd)) && list_any (λ s. list_any (is_holder p q fd s) (endpoint_numbers p s)) (services p)) _ h in
    let inner = and_parts (has is_broadcast q && not (is_adopt_of_open p q fd))
    (list_any (λ s. list_any (is_holder p q fd s) (endpoint_numbers p s)) (services p)) outer.0 in
    let some = get-endpoint p (is_holder p q fd) inner.1 in
    held-opened p q some.0 some.1 fd due (and_parts (not (has_failed p q some.0)) (is_in fd (held_numbers p q some.0 some.1)) some.4).1
