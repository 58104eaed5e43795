-- What the endpoints stand for after events that open nothing, and after what other parts tell.
use Rattle.std.proofs.Common.{ℕ, Bool, true, false, ◌||◌, ◌&&◌, ◌==◌, not, inl, inr, List, [], ◌∷◌, ◌++◌, ◌≡◌, refl, ap, sym, ◌∙◌, arith, map, filter, if◌then◌else◌}
use Rattle.std.specs.List.{list_any}
use Rattle.std.proofs.lemmas.Bool.{cases_Bool, or_parts}
use Rattle.svc_record.specs.declared.plan.Plan.{Plan}
use Rattle.svc_record.specs.declared.entry.Entry.TheVariants.{Got, Told}
use Rattle.svc_record.specs.declared.action.Action.{Action}
use Rattle.svc_record.specs.declared.action.Action.TheVariants.{Start, Fail, Bind, Adopt, Close}
use Rattle.svc_record.specs.declared.event.Event.{Event}
use Rattle.svc_record.specs.declared.event.Event.TheVariants.{Bound, InUse, BindFailed, Adopted, AdoptFailed, Received, LoopEnded, Signal}
use Rattle.svc_record.specs.declared.event.ShutdownSignal.{ShutdownSignal}
use Rattle.svc_record.specs.Record.{Record, has, is_signal, has_cut, tell, EachEntry}
use Rattle.svc_record.specs.Offer.{is_held_back}
use Rattle.svc_record.specs.Descriptors.{Descriptor, descriptors_of, opened_descriptors, live_descriptors, is_opened, is_close, is_doubled, address_of, has_number, has_live, numbers_of}
use Rattle.svc_record.specs.Drain.{live_numbers}
use Rattle.svc_base.specs.NumberSets.{ascending, distinct}
use Rattle.svc_record.specs.Failed.{has_failed}
use Rattle.svc_record.specs.Closes.{ClosesRight, is_gone, is_drained, is_address_abandoned, close_once}
use Rattle.svc_record.specs.Tail.{numbers_in}
use Rattle.svc_endpoints.specs.EndpointsData.{EndpointsData}
use Rattle.svc_endpoints.specs.EndpointsState.{LoopsStand, StatesKept, StatesStand, EndpointsStand, numbers_of_table}
use Rattle.svc_endpoints.specs.Uses.{is_drained_by}
use Rattle.svc_endpoints.specs.Foreign.{is_endpoints_event, is_endpoints_action}
use Rattle.svc_endpoints.proofs.GoneLemmas.{is_any_loop_end, loops-told, loops-got, is_turned, is_gone_now, closed-is, turned-same}
use Rattle.svc_endpoints.proofs.UseLemmas.{drained-is}
use Rattle.svc_endpoints.proofs.OfferLemmas.{held-later, held-before, held-first}
use Rattle.svc_endpoints.proofs.GrowLemmas.{gone-same}
use Rattle.svc_endpoints.proofs.FailLemmas.{fails-same}
use Rattle.svc_endpoints.proofs.OneLiveLemmas.{one_live-is}
use Rattle.svc_endpoints.proofs.OpenedLemmas.{first_address}

-- an event that brings no descriptor
module _ (p : Plan) (q : Record) (e : Event) (opens : descriptors_of p (Got e) ≡ []) where
  pub opened-event : opened_descriptors p (Got e ∷ q) ≡ opened_descriptors p q
  opened-event = ap (λ w. w ++ opened_descriptors p q) opens

  pub opened_is-event : (fd : ℕ) → is_opened p (Got e ∷ q) fd ≡ is_opened p q fd
  opened_is-event fd = ap (list_any (has_number fd)) opened-event

  pub live-event : live_descriptors p (Got e ∷ q) ≡ live_descriptors p q
  live-event = ap (filter (λ (d : Descriptor). not (has (is_close d.number) q))) opened-event

  pub numbers-event : live_numbers p (Got e ∷ q) ≡ live_numbers p q
  numbers-event = ap (map (λ (d : Descriptor). d.number)) live-event

  pub place-event : (fd : ℕ) → address_of p (Got e ∷ q) fd ≡ address_of p q fd
  place-event fd = ap (first_address fd) opened-event

  pub doubled-event : (fd : ℕ) → is_doubled p (Got e ∷ q) fd ≡ is_doubled p q fd
  doubled-event fd = ap (λ w. list_any (λ (d : Descriptor). d.number == fd && has_live p q d.address) w || is_doubled p q fd) opens

  pub turned-event : (fd : ℕ) → is_turned p (Got e ∷ q) fd ≡ is_turned p q fd
  turned-event fd = turned-same p q (Got e ∷ q) fd opened-event (doubled-event fd)

  pub closes-event : ((t : ℕ) → has_failed p (Got e ∷ q) t ≡ has_failed p q t) → ((fd : ℕ) → is_held_back p (Got e ∷ q) fd ≡ is_held_back p q fd)
      → ((fd : ℕ) → is_drained p (Got e ∷ q) fd ≡ is_drained p q fd) → ClosesRight p q → ClosesRight p (Got e ∷ q)
  closes-event same held drained was fd came = was fd (sym (opened_is-event fd) ∙ came)
      ∙ ap (λ b. if b then 1 else 0) (sym (gone-same p q (Got e ∷ q) same fd (turned-event fd) (place-event fd) (held fd) (drained fd)))

-- one by which no service fails and no loop ends, and that leaves what is on offer and what is drained
pub stand-event : (p : Plan) (d d2 : EndpointsData) (q : Record) (e : Event) → is_any_loop_end e ≡ false → descriptors_of p (Got e) ≡ []
    → numbers_of (Got e) ≡ [] → ((t : ℕ) → has_failed p (Got e ∷ q) t ≡ has_failed p q t)
    → ((fd : ℕ) → is_held_back p (Got e ∷ q) fd ≡ is_held_back p q fd) → ((fd : ℕ) → is_drained_by p d2 fd ≡ is_drained_by p d fd)
    → StatesStand p d2 (Got e ∷ q) → LoopsStand p d2 q → StatesKept p d2 → d2.table ≡ d.table → d2.came ≡ d.came → EndpointsStand p d q
    → EndpointsStand p d2 (Got e ∷ q)
stand-event p d d2 q e going opens brings same held drained states ends kept table came stand = let loops = loops-got p d2 q e going ends in record {
  states = states;
  loops = loops;
  kept = kept;
  asks_due = (refl, stand.asks_due);
  asks_known = (refl, stand.asks_known);
  closes_once = (refl, stand.closes_once);
  fails = fails-same p q e same stand.fails;
  closes = closes-event p q e opens same held
      (λ fd. drained-is p d2 (Got e ∷ q) states loops fd ∙ drained fd ∙ sym (drained-is p d q stand.states stand.loops fd)) stand.closes;
  one_live = one_live-is p d2 (Got e ∷ q) kept states;
  open_are = ap numbers_of_table table ∙ stand.open_are ∙ ap ascending (sym (numbers-event p q e opens));
  came_are = came ∙ stand.came_are ∙ ap (λ w. ascending (w ++ numbers_in q)) (sym brings);
  came_apart = ap (λ w. distinct (w ++ numbers_in q)) brings ∙ stand.came_apart;
}

-- what an event that is none of this part's leaves
pub record IsForeign (p : Plan) (d : EndpointsData) (q : Record) (e : Event) : Type 0 where
  pub going : is_any_loop_end e ≡ false
  pub opens : descriptors_of p (Got e) ≡ []
  pub brings : numbers_of (Got e) ≡ []
  pub same : (t : ℕ) → has_failed p (Got e ∷ q) t ≡ has_failed p q t
  pub states : StatesStand p d q → StatesStand p d (Got e ∷ q)

pub foreign : (p : Plan) (d : EndpointsData) (q : Record) (e : Event) → is_endpoints_event e ≡ false → IsForeign p d q e
foreign p d q (Bound s i fd) other = absurd (cc)
foreign p d q (InUse s i) other = absurd (cc)
foreign p d q (BindFailed s i) other = absurd (cc)
foreign p d q (Adopted s i) other = absurd (cc)
foreign p d q (AdoptFailed s i) other = absurd (cc)
foreign p d q (Received bytes fds) other = absurd (cc)
foreign p d q (LoopEnded s i j) other = absurd (cc)
foreign p d q e other = record {
  going = refl;
  opens = refl;
  brings = refl;
  same = λ t. refl;
  states = λ was.
      record { each = was.each; counts = was.counts; failed_is = was.failed_is; with_is = was.with_is; lost = was.lost; closed_came = was.closed_came };
}

-- an event that is none of this part's leaves the endpoints as they are, where the same is on offer
pub stands-got : (p : Plan) (d : EndpointsData) (q : Record) (e : Event) → is_endpoints_event e ≡ false
    → ((fd : ℕ) → is_held_back p (Got e ∷ q) fd ≡ is_held_back p q fd) → EndpointsStand p d q → EndpointsStand p d (Got e ∷ q)
stands-got p d q e other held stand =
    let is = foreign p d q e other in
    stand-event p d d q e is.going is.opens is.brings is.same held (λ fd. refl) (is.states stand.states) stand.loops stand.kept refl refl stand

-- what a signal puts on offer isn't gone; one that is no cut takes nothing off it
module _ (p : Plan) (q : Record) (kind : ShutdownSignal) (uncut : has_cut (Got (Signal kind) ∷ q) ≡ has_cut q) where
  gone_signal : (fd : ℕ) → (has (is_close fd) q ≡ is_gone p q fd) → is_gone p (Got (Signal kind) ∷ q) fd ≡ is_gone p q fd
  gone_signal fd closed = elim (cases_Bool (has is_signal q)) [
    | inl later ↦ gone-same p q (Got (Signal kind) ∷ q) (λ t. refl) fd refl refl (held-later p q kind fd later uncut) refl
    | inr first ↦ elim (cases_Bool (is_held_back p (Got (Signal kind) ∷ q) fd)) [
      | inl held ↦
          ap (λ b. b || is_drained p q fd)
          (kept_open (is_turned p q fd) (is_address_abandoned p q (address_of p q fd)) (is_held_back p (Got (Signal kind) ∷ q) fd)
          (is_held_back p q fd) held
          (or_first (is_gone_now p q fd) (is_drained p q fd) (sym closed ∙ held-first p q kind fd first held)))
      | inr free ↦ gone-same p q (Got (Signal kind) ∷ q) (λ t. refl) fd refl refl (free ∙ sym (held-before p q fd first)) refl
    ]
  ]
    where
      or_first : (a b : Bool) → (a || b) ≡ false → a ≡ false
      or_first a b h = grind arith

      kept_open : (t a h g : Bool) → h ≡ true → (t || (a && not g)) ≡ false → (t || (a && not h)) ≡ (t || (a && not g))
      kept_open true a h g e f = refl
      kept_open false a h g e f = rw (e, f) (plain a)
        where
          plain : (a : Bool) → (a && false) ≡ false
          plain a = grind arith

  pub closes-signal : EachEntry (λ e before. close_once p e before ≡ true) q → ClosesRight p q → ClosesRight p (Got (Signal kind) ∷ q)
  closes-signal once was fd came = was fd came ∙ ap (λ b. if b then 1 else 0) (sym (gone_signal fd (closed-is p q fd once (was fd came))))

-- a signal that is no cut leaves the endpoints as they are
pub stands-signal : (p : Plan) (d : EndpointsData) (q : Record) (kind : ShutdownSignal) → has_cut (Got (Signal kind) ∷ q) ≡ has_cut q → EndpointsStand p d q
    → EndpointsStand p d (Got (Signal kind) ∷ q)
stands-signal p d q kind uncut stand = let was = stand.states in record {
  loops = loops-got p d q (Signal kind) refl stand.loops;
  states = record { each = was.each; counts = was.counts; failed_is = was.failed_is; with_is = was.with_is; lost = was.lost; closed_came = was.closed_came };
  kept = stand.kept;
  asks_due = (refl, stand.asks_due);
  asks_known = (refl, stand.asks_known);
  closes_once = (refl, stand.closes_once);
  fails = stand.fails;
  closes = closes-signal p q kind uncut stand.closes_once stand.closes;
  one_live = stand.one_live;
  open_are = stand.open_are;
  came_are = stand.came_are;
  came_apart = stand.came_apart;
}

-- what is closed as an action is told that closes nothing, and that leaves what is drained
pub closes-told : (p : Plan) (d d2 : EndpointsData) (q : Record) (a : Action) → ((fd : ℕ) → is_close fd (Told a) ≡ false) → StatesStand p d2 (Told a ∷ q)
    → LoopsStand p d2 (Told a ∷ q) → ((fd : ℕ) → is_opened p q fd ≡ true → is_drained_by p d2 fd ≡ is_drained_by p d fd)
    → EndpointsStand p d q → ClosesRight p (Told a ∷ q)
closes-told p d d2 q a none states loops drained stand fd came = rw (none fd) (stand.closes fd came
    ∙ ap (λ b. if is_gone_now p q fd || b then 1 else 0)
    (drained-is p d q stand.states stand.loops fd ∙ sym (drained fd came) ∙ sym (drained-is p d2 (Told a ∷ q) states loops fd)))

-- the start of a service leaves the endpoints as they are
pub stands-start : (p : Plan) (d : EndpointsData) (q : Record) (s : ℕ) → EndpointsStand p d q → EndpointsStand p d (Told (Start s) ∷ q)
stands-start p d q s stand = record {
  states = states;
  loops = loops-told p d q (Start s) stand.loops;
  kept = stand.kept;
  asks_due = (refl, stand.asks_due);
  asks_known = (refl, stand.asks_known);
  closes_once = (refl, stand.closes_once);
  fails = stand.fails;
  closes = closes-told p d d q (Start s) (λ fd. refl) states (loops-told p d q (Start s) stand.loops) (λ fd came. refl) stand;
  one_live = stand.one_live;
  open_are = stand.open_are;
  came_are = stand.came_are;
  came_apart = stand.came_apart;
}
  where
    was : StatesStand p d q
    was = stand.states

    or_right_true : (a : Bool) {b : Bool} → b ≡ true → (a || b) ≡ true
    or_right_true a h = rw h (or_true a)
      where
        or_true : (c : Bool) → (c || true) ≡ true
        or_true c = grind arith

    states : StatesStand p d (Told (Start s) ∷ q)
    states = record {
      each = λ t k lt kl. let x = was.each t k lt kl in
          record {
            binding_is = x.binding_is;
            adopting_is = x.adopting_is;
            held_is = x.held_is;
            adopts_is = x.adopts_is;
            within_is = x.within_is;
            on_is = λ e. or_right_true (s == t) (x.on_is e);
          };
      counts = was.counts;
      failed_is = was.failed_is;
      with_is = was.with_is;
      lost = was.lost;
      closed_came = was.closed_came;
    }

-- an action that is none of this part's leaves the endpoints as they are
pub stands-told : (p : Plan) (d : EndpointsData) (q : Record) (a : Action) → is_endpoints_action a ≡ false → EndpointsStand p d q
    → EndpointsStand p d (Told a ∷ q)
stands-told p d q (Start s) other stand = absurd (cc)
stands-told p d q (Fail s) other stand = absurd (cc)
stands-told p d q (Bind s i) other stand = absurd (cc)
stands-told p d q (Adopt s i fd) other stand = absurd (cc)
stands-told p d q (Close fd) other stand = absurd (cc)
stands-told p d q a other stand = let was = stand.states in
    let states : StatesStand p d (Told a ∷ q) =
    record { each = was.each; counts = was.counts; failed_is = was.failed_is; with_is = was.with_is; lost = was.lost; closed_came = was.closed_came } in
    let loops = loops-told p d q a stand.loops in record {
      states = states;
      loops = loops;
      kept = stand.kept;
      asks_due = (refl, stand.asks_due);
      asks_known = (refl, stand.asks_known);
      closes_once = (refl, stand.closes_once);
      fails = stand.fails;
      closes = closes-told p d d q a (λ fd. refl) states loops (λ fd came. refl) stand;
      one_live = stand.one_live;
      open_are = stand.open_are;
      came_are = stand.came_are;
      came_apart = stand.came_apart;
    }

-- and so do several
pub stands-tell : (p : Plan) (d : EndpointsData) (told : List Action) (q : Record) → list_any is_endpoints_action told ≡ false → EndpointsStand p d q
    → EndpointsStand p d (tell q told)
stands-tell p d [] q other stand = stand
stands-tell p d (a ∷ told) q other stand = let apart = or_parts (is_endpoints_action a) (list_any is_endpoints_action told) other in
    stands-tell p d told (Told a ∷ q) apart.1 (stands-told p d q a apart.0 stand)
