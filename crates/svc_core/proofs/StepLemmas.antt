-- A step keeps the record right: what each event makes of the core, before the rest of the step.
use Rattle.std.proofs.Common.{ℕ, Bool, true, false, ◌&&◌, ◌||◌, not, List, [], ◌∷◌, ◌++◌, ◌≡◌, refl, ap, sym, ◌∙◌, subst, arith, ◌≤◌, ◌<◌, length, if◌then◌else◌, MatchBool, nat_le, nat_lt, append-nil, append_assoc, inr}
use Rattle.std.specs.Prelude.{Option, None, ◌⊎◌}
use Rattle.std.specs.Bool.{OnTrue, OnFalse}
use Rattle.std.proofs.lemmas.Bool.{and_from, and_parts, le-leb, or_from, or_parts}
use Rattle.svc_record.specs.declared.plan.Plan.{Plan}
use Rattle.svc_record.specs.declared.entry.Entry.TheVariants.{Got, Told}
use Rattle.svc_record.specs.declared.action.Action.{Action}
use Rattle.svc_record.specs.declared.action.Action.TheVariants.{Fail, Close}
use Rattle.svc_record.specs.declared.action.StepEnd.{StepEnd}
use Rattle.svc_record.specs.declared.action.StepEnd.TheVariants.{On, Served}
use Rattle.svc_record.specs.declared.event.Event.{Event}
use Rattle.svc_record.specs.declared.event.Event.TheVariants.{Moment, Ready, Ended, Bound, Received, NoSenderYet, ReceiveFailed, LoopEnded, Side}
use Rattle.svc_record.specs.Record.{Record, has, now, tell, last_step, is_running, from_the_start, signal_of, has_cut}
use Rattle.svc_record.specs.Asks.{is_bind_open, is_adopt_open, is_try_open}
use Rattle.svc_record.specs.Boot.{has_begun, is_read, is_side_child}
use Rattle.svc_record.specs.Descriptors.{brings}
use Rattle.svc_record.specs.Drain.{waits_are_over, has_passed_by}
use Rattle.svc_base.specs.NumberSets.{ascending}
use Rattle.svc_record.specs.Ends.{has_ended, step_end, ends_tested, has_ended_early, TestedRight}
use Rattle.svc_record.specs.Fits.{fits, fits_row, may_end, are_new}
use Rattle.svc_record.specs.Message.{decode}
use Rattle.svc_record.specs.Plans.{service_count, is_endpoint}
use Rattle.svc_record.specs.Endpoints.{serves}
use Rattle.svc_record.specs.Closes.{is_broadcast, is_loop_end}
use Rattle.svc_record.specs.Right.{Right, OpenRight, EndedRight, is_quiet}
use Rattle.svc_record.specs.Starts.{is_started, is_start, is_ready_event, is_ended_event, StartsRight}
use Rattle.svc_record.specs.Tail.{numbers_in}
use Rattle.svc_record.specs.Told.{Tells, IsGivingUp}
use Rattle.svc_record.proofs.Closing.{tell-append, brings-in}
use Rattle.svc_record.proofs.Tallies.{is_in, is_in-same, tally-ascending}
use Rattle.svc_endpoints.specs.EndpointsData.{EndpointsData}
use Rattle.svc_endpoints.specs.EndpointsState.{IsEndpointsSized, EndpointsStand, AreOnOffer, all_new}
use Rattle.svc_endpoints.specs.Loops.{has_loop}
use Rattle.svc_endpoints.specs.Uses.{serves_by}
use Rattle.svc_endpoints.proofs.EndedLemmas.{loop-fits}
use Rattle.svc_endpoints.proofs.EventLemmas.{stands-got}
use Rattle.svc_boot.specs.BootData.{BootData}
use Rattle.svc_boot.specs.ForkState.{may_run, is_parent_over}
use Rattle.svc_boot.specs.BootState.{BootStands, is_refused, is_through, is_trying, has_come}
use Rattle.svc_boot.specs.BootEffects.{end_of, is_complete_due, is_early, received}
use Rattle.svc_boot.specs.BootFacts.{is_boot_event, is_fork_event}
use Rattle.svc_boot.proofs.Foreign as foreign
use Rattle.svc_boot.proofs.BootEnds.{tested-is, end-is, ended-is}
use Rattle.svc_boot.proofs.FreeLemmas.{fit-free}
use Rattle.svc_fds.specs.declared.encoding.Message.{Message}
use Rattle.svc_offer.specs.OfferData.{OfferData}
use Rattle.svc_offer.specs.OfferState.{OfferStands, IsOfferSettled, over_since, is_send_due, numbers_on_offer}
use Rattle.svc_offer.specs.OfferFacts.{is_offer_event}
use Rattle.svc_offer.proofs.Foreign as offers
use Rattle.svc_offer.proofs.OfferRules.{one-ask, forward-fits, on-offer, held-back-got}
use Rattle.svc_drain.specs.DrainData.{DrainData}
use Rattle.svc_drain.specs.DrainState.{DrainStands, OverIs, is_broadcast_told}
use Rattle.svc_drain.specs.DrainFacts.{is_drain_event}
use Rattle.svc_drain.proofs.Foreign as drains
use Rattle.svc_drain.proofs.Passing.{passed-got, uncut}
use Rattle.svc_drain.proofs.Broadcasts.{broadcast-is}
use Rattle.svc_connections.specs.ConnectionsState.{ConnectionsStand}
use Rattle.svc_connections.specs.ConnectionsFacts.{is_connection_event}
use Rattle.svc_connections.proofs.Foreign as sockets
use Rattle.svc_core.specs.StartsData.{StartsData}
use Rattle.svc_core.specs.StartsState.{StartsStand, is_flagged, word_taken, end_taken}
use Rattle.svc_core.specs.CoreData.{CoreData, IsFormed, is_on, is_served}
use Rattle.svc_core.specs.Passes.{AreStarted, MayEnd, is_tested}
use Rattle.svc_core.specs.Stands.{Represents, IsSettled, AfterEvent, StepRight, StepKeeps, Follows, EndedSo, ReadyMayCome, EndedMayCome, BindMayBeAnswered, BoundMayCome, AdoptMayBeAnswered, LoopMayEnd, ReceivedMayCome, is_loop_on}
use Rattle.svc_core.proofs.RecordLemmas.{not_true, to_false, on_true}
use Rattle.svc_core.proofs.ClosesLemmas.{has-times}
use Rattle.svc_core.proofs.StartsLemmas.{is_due-grows, stands-word, stands-end, is_word, starts-got}
use Rattle.svc_core.proofs.GoingLemmas.{Loose, loose-tell, may-tell, going-from, are_loose, begun-tell}
use Rattle.svc_core.proofs.OpenLemmas.{has-count}
use Rattle.svc_core.proofs.PassLemmas.{may-complete}
use Rattle.svc_core.proofs.FinishLemmas.{on-by, on-end, come-tried}

unserved : (end : StepEnd) → is_on end ≡ true → is_served end ≡ false
unserved On h = refl
unserved _ h = absurd (cc)

-- a core that goes on
module _ (core : CoreData) (q : Record) (stands : Represents core q) (on : is_on core.end ≡ true) where
  on-now : is_on (step_end core.plan q) ≡ true
  on-now = sym (ap is_on stands.end_is) ∙ on

  unpassed : waits_are_over core.plan q ≡ false
  unpassed = not_passed (waits_are_over core.plan q) (end_of core.plan core.boot) (sym (ap is_on (end-is core.plan core.boot q stands.boot)) ∙ on-now)
    where
      not_passed : (c : Bool) (e : StepEnd) → is_on (if c then Served else e) ≡ true → c ≡ false
      not_passed true e h = absurd (cc)
      not_passed false e h = refl

  pub on-boot : is_on (end_of core.plan core.boot) ≡ true
  on-boot = ap (λ c. is_on (if c then Served else end_of core.plan core.boot)) (sym unpassed) ∙ sym (ap is_on (end-is core.plan core.boot q stands.boot))
      ∙ on-now

  pub end-of-boot : step_end core.plan q ≡ end_of core.plan core.boot
  end-of-boot = end-is core.plan core.boot q stands.boot ∙ ap (λ c. if c then Served else end_of core.plan core.boot) unpassed

  pub unended : has_ended core.plan q ≡ false
  unended = let live = on-end core.plan core.boot on-boot in
      ended-is core.plan core.boot q stands.boot
      ∙ or_from (waits_are_over core.plan q) (is_tested core.plan core.boot || is_early core.boot) unpassed
      (or_from (is_tested core.plan core.boot) (is_early core.boot) live.0
      (or_from (is_parent_over core.boot.fork) (is_refused core.boot.receiving) live.2 live.1))

  -- no cut came
  pub uncut-of : has_cut q ≡ false
  uncut-of = (or_parts (has_cut q) (has_passed_by core.plan q (signal_of q)) unpassed).0

  pub drain-of : DrainStands core.plan core.drain (over_since core.offer.state) q
  drain-of = stands.drain (unserved core.end on)

  pub offer-of : OfferStands core.plan core.offer q
  offer-of = stands.offer (unserved core.end on)

  pub ends-of : EndpointsStand core.plan core.endpoints q
  ends-of = stands.endpoints (unserved core.end on)

  pub connections-of : ConnectionsStand core.plan core.connections q
  connections-of = stands.connections (unserved core.end on)

  pub settled-of : IsSettled core
  settled-of = stands.settled on

  pub running-is : has is_running q ≡ core.drain.running
  running-is = has-count is_running q core.drain.running drain-of.running_is

  pub opened : Right core.plan q → OpenRight core.plan q
  opened right = while_open (has_ended core.plan q) (EndedRight core.plan q) (OpenRight core.plan q) unended right.settled.0
    where
      while_open : (c : Bool) (A B : Type 0) → c ≡ false → MatchBool c A B → B
      while_open true A B e h = absurd (cc)
      while_open false A B e h = h

  pub going-on : not (has_ended core.plan q) ≡ true
  going-on = ap not unended

  -- where it runs, each service that is due is started, and bootstrapping isn't to be completed
  pub all-started : Right core.plan q → core.drain.running ≡ true → AreStarted core.plan q
  all-started right runs s inside due =
      let starts = on_true (from_the_start q) (StartsRight core.plan q) (running-is ∙ runs) (opened right).starts in
      has-times (is_start s) q (starts.each s inside ∙ ap (λ b. if b then 1 else 0) due)

  pub undue : is_complete_due core.boot ≡ false
  undue = complete-late core.boot.complete (has_come core.boot.receiving) core.plan.test core.plan.upgrade core.boot.begun settled-of.boot.complete_is
      (λ c. sym stands.boot.kept.tried_is ∙ come-tried core.boot.receiving c)
    where
      complete-late : (c h t u b : Bool) → c ≡ ((b && not t) && (not u || h)) → (h ≡ true → ((b && not t) && u) ≡ true) → (h && not c) ≡ false
      complete-late c h t u b e f = grind (arith, f)

-- what is given up
pub giving-loose : (m : ℕ) (gave : List Action) → IsGivingUp gave → are_loose m gave ≡ true
giving-loose m [] h = refl
giving-loose m (Fail s ∷ gave) h = giving-loose m gave h
giving-loose m (Close fd ∷ gave) h = giving-loose m gave h
giving-loose m (_ ∷ gave) h = absurd h

giving-quiet : (q : Record) (gave : List Action) → IsGivingUp gave → is_quiet (last_step q) ≡ true → is_quiet (last_step (tell q gave)) ≡ true
giving-quiet q [] h k = k
giving-quiet q (Fail s ∷ gave) h k = giving-quiet (Told (Fail s) ∷ q) gave h k
giving-quiet q (Close fd ∷ gave) h k = giving-quiet (Told (Close fd) ∷ q) gave h k
giving-quiet q (_ ∷ gave) h k = absurd h

-- and starts nothing
pub giving-started : (p : Plan) (q : Record) (gave : List Action) → IsGivingUp gave → AreStarted p q → AreStarted p (tell q gave)
giving-started p q [] h k = k
giving-started p q (Fail s ∷ gave) h k = giving-started p (Told (Fail s) ∷ q) gave h (λ t lt due. k t lt due)
giving-started p q (Close fd ∷ gave) h k = giving-started p (Told (Close fd) ∷ q) gave h (λ t lt due. k t lt due)
giving-started p q (_ ∷ gave) h k = absurd h

-- the core with the parts that an event leaves
abbrev pub struck : CoreData → StartsData → EndpointsData → BootData → OfferData → DrainData → CoreData
struck core st d b o dr =
    record { plan = core.plan; order = core.order; starts = st; endpoints = d; boot = b; offer = o; drain = dr; connections = core.connections; end = core.end }

through-same : (p : Plan) (b c : BootData) → p.upgrade ≡ false → c.begun ≡ b.begun → is_through p b ≡ is_through p c
through-same p b c alone begun = rw (alone, begun) refl

-- an event that isn't of the fork comes only to a server that goes on
pub free-of : (core : CoreData) (q : Record) (e : Event) → Represents core q → fits core.plan q e ≡ true → is_fork_event e ≡ false
    → may_run core.plan core.boot.fork ≡ true
free-of core q e stands fit other = fit-free core.plan core.boot q stands.boot e other (and_parts (not (has_ended core.plan q)) (fits_row core.plan q e) fit).1

pub no-child : (e : Event) → is_fork_event e ≡ false → is_side_child (Got e) ≡ false
no-child (Side side) h = absurd (cc)
no-child e h = refl

pub no-fork : (e : Event) → is_boot_event e ≡ false → is_fork_event e ≡ false
no-fork (Received bytes fds) h = absurd (cc)
no-fork NoSenderYet h = absurd (cc)
no-fork ReceiveFailed h = absurd (cc)
no-fork e h = h

-- an event other than that the process is the child begins nothing
pub begun-got : (p : Plan) (r : Record) (x : Event) → is_side_child (Got x) ≡ false → has_begun p (Got x ∷ r) ≡ has_begun p r
begun-got p r x h = rw h refl

-- an event, by the parts but those on endpoints and on bootstrapping
pub got-loose : (core : CoreData) (q : Record) (e : Event) (st : StartsData) (o : OfferData) (dr : DrainData) → Right core.plan q → Represents core q
    → is_on core.end ≡ true → fits core.plan q e ≡ true → is_connection_event e ≡ false
    → DrainStands core.plan dr (over_since o.state) (Got e ∷ q) → OfferStands core.plan o (Got e ∷ q) → StartsStand core.plan st (Got e ∷ q)
    → Loose core.plan st o dr core.connections (Got e ∷ q)
got-loose core q e st o dr right stands on fit apart drain offer starts = record {
  base = record {
    starts = starts;
    entries = record {
      fits = (fit, right.fits);
      starts = (refl, right.starts);
      after_boot = (refl, stands.after_boot);
      moments = (refl, right.stronger.moments);
      known_starts = (refl, right.stronger.known_starts);
    };
    started_due = λ s lt here. is_due-grows core.plan q (Got e) s (stands.started_due s lt here);
    no_end = (opened core q stands on right).no_end;
    earlier = right.settled;
    fails = right.asks.fails;
    asks = right.stronger.one_ask;
  };
  drain = drain;
  offer = offer;
  connections = sockets.stands-got core.plan core.connections q e apart (connections-of core q stands on);
}

-- an event, and what is given up by it, where no fork is awaited
pub strike : (core : CoreData) (q : Record) (e : Event) (st : StartsData) (d : EndpointsData) (b : BootData) (o : OfferData) (dr : DrainData)
    (copy : Option Message) (gave : List Action)
    → Right core.plan q → Represents core q → is_on core.end ≡ true → fits core.plan q e ≡ true → may_run core.plan b.fork ≡ true
    → is_side_child (Got e) ≡ false → is_connection_event e ≡ false → IsGivingUp gave
    → DrainStands core.plan dr (over_since o.state) (Got e ∷ q) → dr.running ≡ core.drain.running → OfferStands core.plan o (Got e ∷ q)
    → StartsStand core.plan st (Got e ∷ q) → EndpointsStand core.plan d (tell (Got e ∷ q) gave)
    → BootStands core.plan b (Got e ∷ q) → b.begun ≡ core.boot.begun → b.complete ≡ core.boot.complete
    → OnFalse (is_on (end_of core.plan b)) (EndedSo core.plan (tell (Got e ∷ q) gave))
    → (AreStarted core.plan (tell (Got e ∷ q) gave) × (is_complete_due b ≡ false)) ⊎ MayEnd core.plan (tell (Got e ∷ q) gave)
    → (is_send_due o.state dr.moment ≡ true → copy ≡ o.message)
    → AfterEvent (struck core st d b o dr) copy (tell (Got e ∷ q) gave)
strike core q e st d b o dr copy gave right stands on fit free other apart giving drain running offer starts ends boot begun complete ended calm copied =
    let loose = got-loose core q e st o dr right stands on fit apart drain offer starts in
    let settled = (settled-of core q stands on).boot in
    record {
      going = going-from core.plan st d b o dr core.connections (tell (Got e ∷ q) gave)
          (loose-tell core.plan st o dr core.connections (Got e ∷ q) gave (giving-loose (now (Got e ∷ q)) gave giving) loose)
          ends
          (foreign.stands-tell core.plan b (Got e ∷ q) gave (foreign.giving_up-other gave giving) free boot)
          (begun-tell core.plan (Got e ∷ q) (now (Got e ∷ q)) gave (giving-loose (now (Got e ∷ q)) gave giving)
          ∙ begun-got core.plan q e other ∙ stands.begun_is ∙ sym begun)
          (λ r. and_from (may_run core.plan b.fork) (not core.plan.eager || b.complete) free
          (ap (λ c. not core.plan.eager || c) complete ∙ may-complete core.plan core.boot (stands.runs (sym running ∙ r))));
      free = free;
      quiet = λ h. giving-quiet (Got e ∷ q) gave giving refl;
      alone = λ h. complete ∙ settled.complete_is ∙ through-same core.plan core.boot b h begun;
      ended = ended;
      calm = calm;
      copied = copied;
    }

-- since when the offer is over, as the part on the end of a run is told
pub over-of : (p : Plan) (o : OfferData) (q : Record) → OfferStands p o q → OverIs p q (over_since o.state)
over-of p o q h = record { is = h.over_is; moment = h.since_is }

-- an event that is no moment, no signal and no answer to an ask of the offer
module _ (core : CoreData) (q : Record) (e : Event) (right : Right core.plan q) (stands : Represents core q) (on : is_on core.end ≡ true)
    (fit : fits core.plan q e ≡ true)
    (plain : is_drain_event e ≡ false) (foreign_event : is_offer_event e ≡ false) where
  pub same-time : now (Got e ∷ q) ≡ now q
  same-time = by e plain
    where
      by : (x : Event) → is_drain_event x ≡ false → now (Got x ∷ q) ≡ now q
      by (Moment ms) h = absurd (cc)
      by x h = refl

  pub plain-offer : OfferStands core.plan core.offer (Got e ∷ q)
  plain-offer = offers.stands-got core.plan core.offer q e foreign_event (offer-of core q stands on)

  pub plain-over : OverIs core.plan (Got e ∷ q) (over_since core.offer.state)
  plain-over = over-of core.plan core.offer (Got e ∷ q) plain-offer

  pub plain-drain : DrainStands core.plan core.drain (over_since core.offer.state) (Got e ∷ q)
  plain-drain =
      drains.stands-got core.plan core.drain (over_since core.offer.state) (over_since core.offer.state) q e plain
      (settled-of core q stands on).drain plain-over (λ h. refl) (drain-of core q stands on)

  pub plain-may : MayEnd core.plan (Got e ∷ q)
  plain-may = record {
    unpassed = passed-got core.plan core.drain (over_since core.offer.state) (over_since core.offer.state) q e plain (drain-of core q stands on)
        (settled-of core q stands on).drain plain-over (λ h. refl) (settled-of core q stands on).waits;
    asks = one-ask core.plan core.offer (Got e ∷ q) plain-offer
        (subst (IsOfferSettled core.offer) ((drain-of core q stands on).moment_is ∙ sym same-time) (settled-of core q stands on).offer)
        (forward-fits core.plan (Got e ∷ q) (fit, right.fits));
  }

  pub strike-plain : is_fork_event e ≡ false → (st : StartsData) (d : EndpointsData) (b : BootData) (gave : List Action) → is_connection_event e ≡ false
      → IsGivingUp gave
      → StartsStand core.plan st (Got e ∷ q) → EndpointsStand core.plan d (tell (Got e ∷ q) gave)
      → BootStands core.plan b (Got e ∷ q) → b.fork ≡ core.boot.fork → b.begun ≡ core.boot.begun → b.complete ≡ core.boot.complete
      → (MayEnd core.plan (tell (Got e ∷ q) gave) → OnFalse (is_on (end_of core.plan b)) (EndedSo core.plan (tell (Got e ∷ q) gave)))
      → AfterEvent (struck core st d b core.offer core.drain) None (tell (Got e ∷ q) gave)
  strike-plain other st d b gave apart giving starts ends boot fork begun complete ended =
      let may = may-tell core.plan (now q) (Got e ∷ q) gave (giving-loose (now q) gave giving) plain-may in
      strike core q e st d b core.offer core.drain None gave right stands on fit (ap (may_run core.plan) fork ∙ free-of core q e stands fit other)
      (no-child e other) apart giving plain-drain refl plain-offer starts ends boot begun complete (ended may) (inr may)
      (λ due. absurd (let none_due = (settled-of core q stands on).offer.no_send in cc))

-- an event, then the rest of the step
pub step-by : (core mid_core new : CoreData) (e : Event) (copy : Option Message) (before mid after : List Action) (end : StepEnd)
    → Tells before mid (λ gave. (q : Record) → Right core.plan q → Represents core q → AfterEvent mid_core copy (tell (Got e ∷ q) gave))
    → Follows mid_core new copy mid after end
    → StepKeeps core new e before after end
step-by core mid_core new e copy before mid after end first next = record {
  told = first.told ++ next.told;
  appended = next.appended ∙ ap (λ w. w ++ next.told) first.appended ∙ append_assoc before first.told next.told;
  kept = λ q right stands. subst (λ r. StepRight new r end) (sym (tell-append (Got e ∷ q) first.told next.told))
      (next.kept (tell (Got e ∷ q) first.told) (first.kept q right stands));
}

-- a run that goes on hasn't ended so
pub not-ended : (p : Plan) (b : BootData) (q : Record) → is_on (end_of p b) ≡ true → OnFalse (is_on (end_of p b)) (EndedSo p q)
not-ended p b q h = by (is_on (end_of p b)) (EndedSo p q) h
  where
    by : (c : Bool) (A : Type 0) → c ≡ true → OnFalse c A
    by true A e = tt
    by false A e = absurd (cc)

-- one that the event ended, which told nothing
ended-so : (p : Plan) (b : BootData) (q : Record) (e : Event) → BootStands p b (Got e ∷ q) → is_tested p b ≡ false → MayEnd p (Got e ∷ q)
    → OnFalse (is_on (end_of p b)) (EndedSo p (Got e ∷ q))
ended-so p b q e boot untested may = to_false (is_on (end_of p b)) (EndedSo p (Got e ∷ q)) (record {
  ended = record {
    early = always (has_ended_early p (Got e ∷ q)) (last_step (Got e ∷ q) ≡ []) refl;
    tested = not_true (ends_tested p (Got e ∷ q)) _ (tested-is p b (Got e ∷ q) boot ∙ untested);
  };
  tested = not_true (ends_tested p (Got e ∷ q)) (TestedRight p (Got e ∷ q)) (tested-is p b (Got e ∷ q) boot ∙ untested);
  may_end = may;
})
  where
    always : (c : Bool) (A : Type 0) → A → OnTrue c A
    always true A a = a
    always false A a = tt

-- what the core tests, fits
pub fits-moment : (core : CoreData) (q : Record) (ms : ℕ) → is_on core.end ≡ true → core.drain.moment ≤ ms → Represents core q
    → fits core.plan q (Moment ms) ≡ true
fits-moment core q ms on may stands =
    let time = (drain-of core q stands on).moment_is in
    let later : now q ≤ ms = omega arith in
    and_from (not (has_ended core.plan q)) (nat_le (now q) ms) (going-on core q stands on) (le-leb (now q) ms later)

pub fits-ready : (core : CoreData) (q : Record) (s : ℕ) → is_on core.end ≡ true → ReadyMayCome core s → Represents core q → fits core.plan q (Ready s) ≡ true
fits-ready core q s on may stands =
    let st = stands.starts in
    let started : is_started q s ≡ true = sym (st.started_is s may.inside) ∙ may.started in
    let first : has (is_ready_event s) q ≡ false = sym (st.ready_is s may.inside) ∙ may.first in
    and_from (not (has_ended core.plan q)) (fits_row core.plan q (Ready s)) (going-on core q stands on) (rw (may.notifies, started, first) refl)

pub fits-ended : (core : CoreData) (q : Record) (s : ℕ) → is_on core.end ≡ true → EndedMayCome core s → Represents core q → fits core.plan q (Ended s) ≡ true
fits-ended core q s on may stands =
    let st = stands.starts in
    let started : is_started q s ≡ true = sym (st.started_is s may.inside) ∙ may.started in
    let first : has (is_ended_event s) q ≡ false = sym (st.ended_is s may.inside) ∙ may.first in
    and_from (not (has_ended core.plan q)) (fits_row core.plan q (Ended s)) (going-on core q stands on)
    (and_from (may_end core.plan s && is_started q s) (not (has (is_ended_event s) q)) (and_from (may_end core.plan s) (is_started q s) may.ends started)
    (ap not first))

pub fresh : (core : CoreData) (q : Record) (fd : ℕ) → Represents core q → has (brings fd) q ≡ is_in fd core.endpoints.came
fresh core q fd stands =
    brings-in q fd ∙ is_in-same fd (numbers_in q) (ascending (numbers_in q)) (sym (tally-ascending fd (numbers_in q))) ∙ ap (is_in fd) (sym stands.came)

pub bind-open : (core : CoreData) (q : Record) (s i : ℕ) → is_on core.end ≡ true → BindMayBeAnswered core s i → Represents core q → is_bind_open q s i ≡ true
bind-open core q s i on may stands = sym ((ends-of core q stands on).states.each s i may.inside may.within).binding_is ∙ may.asked

pub adopt-open : (core : CoreData) (q : Record) (s i : ℕ) → is_on core.end ≡ true → AdoptMayBeAnswered core s i → Represents core q → is_adopt_open q s i ≡ true
adopt-open core q s i on may stands = sym ((ends-of core q stands on).states.each s i may.inside may.within).adopting_is ∙ may.asked

pub fits-bound : (core : CoreData) (q : Record) (s i fd : ℕ) → is_on core.end ≡ true → BoundMayCome core s i fd → Represents core q
    → fits core.plan q (Bound s i fd) ≡ true
fits-bound core q s i fd on may stands =
    let new : has (brings fd) q ≡ false = fresh core q fd stands ∙ may.fresh in
    and_from (not (has_ended core.plan q)) (fits_row core.plan q (Bound s i fd)) (going-on core q stands on)
    (rw (bind-open core q s i on may.asked stands, new) refl)

pub fits-bind : (core : CoreData) (q : Record) (s i : ℕ) → is_on core.end ≡ true → BindMayBeAnswered core s i → Represents core q
    → (not (has_ended core.plan q) && is_bind_open q s i) ≡ true
fits-bind core q s i on may stands =
    and_from (not (has_ended core.plan q)) (is_bind_open q s i) (going-on core q stands on) (bind-open core q s i on may stands)

pub fits-adopt : (core : CoreData) (q : Record) (s i : ℕ) → is_on core.end ≡ true → AdoptMayBeAnswered core s i → Represents core q
    → (not (has_ended core.plan q) && is_adopt_open q s i) ≡ true
fits-adopt core q s i on may stands =
    and_from (not (has_ended core.plan q)) (is_adopt_open q s i) (going-on core q stands on) (adopt-open core q s i on may stands)

pub fits-try : (core : CoreData) (q : Record) → is_on core.end ≡ true → is_trying core.boot.receiving ≡ true → Represents core q
    → (not (has_ended core.plan q) && is_try_open q) ≡ true
fits-try core q on may stands = and_from (not (has_ended core.plan q)) (is_try_open q) (going-on core q stands on) (stands.boot.receiving.trying_is ∙ may)

pub new-is : (core : CoreData) (q : Record) (fds : List ℕ) → Represents core q → are_new q fds ≡ all_new core.endpoints.came fds
new-is core q [] stands = refl
new-is core q (fd ∷ fds) stands = rw (fresh core q fd stands, new-is core q fds stands) refl

pub fits-received : (core : CoreData) (q : Record) (bytes fds : List ℕ) → is_on core.end ≡ true → ReceivedMayCome core fds → Represents core q
    → fits core.plan q (Received bytes fds) ≡ true
fits-received core q bytes fds on may stands =
    and_from (not (has_ended core.plan q)) (fits_row core.plan q (Received bytes fds)) (going-on core q stands on)
    (and_from (is_try_open q && nat_le (length fds) 32) (are_new q fds)
    (and_from (is_try_open q) (nat_le (length fds) 32) (stands.boot.receiving.trying_is ∙ may.trying) (le-leb (length fds) 32 may.few))
    (new-is core q fds stands ∙ may.fresh))

-- which loops may end, by the parts
module _ (core : CoreData) (q : Record) (s i j : ℕ) (sized : IsEndpointsSized core.plan core.endpoints) (on : is_on core.end ≡ true)
    (stands : Represents core q) where
  pub broadcast-told : has is_broadcast q ≡ is_broadcast_told core.drain
  broadcast-told =
      broadcast-is core.plan core.drain (over_since core.offer.state) q (uncut core.plan core.drain (settled-of core q stands on).waits)
      (drain-of core q stands on)

  pub loop-same : s < service_count core.plan
      → is_loop_on core s i j ≡ ((serves core.plan q s && is_endpoint core.plan s i) && (nat_lt j core.plan.tasks && not (has (is_loop_end s i j) q)))
  loop-same inside =
      loop-fits core.plan core.endpoints q sized s i j flag inside (stands.starts.started_is s inside) (ends-of core q stands on)
      (serves_by core.plan core.endpoints flag s) (is_loop_on core s i j) refl
      (λ e. ap (λ b. b && rest) e) (λ e. ap (λ b. b && rest) e)
    where
      flag : Bool
      flag = is_flagged core.starts.started s

      rest : Bool
      rest = is_endpoint core.plan s i && (nat_lt j core.plan.tasks && not (has_loop core.endpoints.loops s i j))

  row-same : has is_broadcast q ≡ true
      → fits_row core.plan q (LoopEnded s i j)
      ≡ ((serves core.plan q s && is_endpoint core.plan s i) && (nat_lt j core.plan.tasks && not (has (is_loop_end s i j) q)))
  row-same told = ap (λ b. ((b && serves core.plan q s) && is_endpoint core.plan s i) && (nat_lt j core.plan.tasks && not (has (is_loop_end s i j) q))) told

  pub loop-row : LoopMayEnd core s i j → fits_row core.plan q (LoopEnded s i j) ≡ true
  loop-row may = row-same (broadcast-told ∙ may.told) ∙ sym (loop-same may.inside) ∙ may.goes_on

  pub fits-loop : LoopMayEnd core s i j → fits core.plan q (LoopEnded s i j) ≡ true
  fits-loop may = and_from (not (has_ended core.plan q)) (fits_row core.plan q (LoopEnded s i j)) (going-on core q stands on) (loop-row may)

-- each event
pub strike-ready : (core : CoreData) (s : ℕ) → IsFormed core.plan core.order core.starts core.endpoints → is_on core.end ≡ true → ReadyMayCome core s
    → (q : Record) → Right core.plan q → Represents core q
    → AfterEvent (struck core (word_taken s core.starts) core.endpoints core.boot core.offer core.drain) None (Got (Ready s) ∷ q)
strike-ready core s formed on may q right stands =
    strike-plain core q (Ready s) right stands on (fits-ready core q s on may stands) refl refl refl
    (word_taken s core.starts) core.endpoints core.boot [] refl tt
    (stands-word core.plan core.starts q s formed.starts may.inside stands.starts)
    (stands-got core.plan core.endpoints q (Ready s) refl (λ fd. held-back-got core.plan q (Ready s) fd refl) (ends-of core q stands on))
    (foreign.stands-got core.plan core.boot q (Ready s) refl stands.boot) refl refl refl
    (λ m. not-ended core.plan core.boot (Got (Ready s) ∷ q) (on-boot core q stands on))

pub strike-ended : (core : CoreData) (s : ℕ) → IsFormed core.plan core.order core.starts core.endpoints → is_on core.end ≡ true → EndedMayCome core s
    → (q : Record) → Right core.plan q → Represents core q
    → AfterEvent (struck core (end_taken s core.starts) core.endpoints core.boot core.offer core.drain) None (Got (Ended s) ∷ q)
strike-ended core s formed on may q right stands =
    strike-plain core q (Ended s) right stands on (fits-ended core q s on may stands) refl refl refl
    (end_taken s core.starts) core.endpoints core.boot [] refl tt
    (stands-end core.plan core.starts q s formed.starts may.inside stands.starts)
    (stands-got core.plan core.endpoints q (Ended s) refl (λ fd. held-back-got core.plan q (Ended s) fd refl) (ends-of core q stands on))
    (foreign.stands-got core.plan core.boot q (Ended s) refl stands.boot) refl refl refl
    (λ m. not-ended core.plan core.boot (Got (Ended s) ∷ q) (on-boot core q stands on))

-- an answer to an ask of an endpoint
pub strike-answer : (core : CoreData) (e : Event) (d : EndpointsData) (before after : List Action) → is_on core.end ≡ true
    → is_connection_event e ≡ false → is_drain_event e ≡ false → is_offer_event e ≡ false → is_boot_event e ≡ false → is_word e ≡ false
    → ((q : Record) → Represents core q → fits core.plan q e ≡ true)
    → Tells before after
    (λ told. IsGivingUp told
    × ((q : Record) → core.drain.moment ≡ now q → AreOnOffer core.plan (numbers_on_offer core.offer) q → EndpointsStand core.plan core.endpoints q
    → EndpointsStand core.plan d (tell (Got e ∷ q) told)))
    → Tells before after
    (λ told. IsGivingUp told
    × ((q : Record) → Right core.plan q → Represents core q
    → AfterEvent (struck core core.starts d core.boot core.offer core.drain) None (tell (Got e ∷ q) told)))
strike-answer core e d before after on apart plain asks other word fit gave = record {
  told = gave.told;
  appended = gave.appended;
  kept = (
    gave.kept.0,
    λ q right stands.
        strike-plain core q e right stands on (fit q stands) plain asks (no-fork e other) core.starts d core.boot gave.told apart gave.kept.0
        (starts-got core.plan core.starts q e word stands.starts)
        (gave.kept.1 q (drain-of core q stands on).moment_is (on-offer core.plan core.offer q (offer-of core q stands on)) (ends-of core q stands on))
        (foreign.stands-got core.plan core.boot q e other stands.boot) refl refl refl
        (λ m. not-ended core.plan core.boot (tell (Got e ∷ q) gave.told) (on-boot core q stands on)),
  );
}

-- a law that needs no moment, and one that doesn't look at the offer
pub timeless : (p : Plan) (d d1 : EndpointsData) (moment : ℕ) (kept : List ℕ) (e : Event) (before mid : List Action)
    → Tells before mid (λ told. IsGivingUp told × ((q : Record) → AreOnOffer p kept q → EndpointsStand p d q → EndpointsStand p d1 (tell (Got e ∷ q) told)))
    → Tells before mid
    (λ told. IsGivingUp told × ((q : Record) → moment ≡ now q → AreOnOffer p kept q → EndpointsStand p d q → EndpointsStand p d1 (tell (Got e ∷ q) told)))
timeless p d d1 moment kept e before mid gave = record { told = gave.told; appended = gave.appended; kept = (gave.kept.0, λ q time. gave.kept.1 q) }

pub unheld : (p : Plan) (d d1 : EndpointsData) (moment : ℕ) (kept : List ℕ) (e : Event) (before mid : List Action)
    → Tells before mid (λ told. IsGivingUp told × ((q : Record) → EndpointsStand p d q → EndpointsStand p d1 (tell (Got e ∷ q) told)))
    → Tells before mid
    (λ told. IsGivingUp told × ((q : Record) → moment ≡ now q → AreOnOffer p kept q → EndpointsStand p d q → EndpointsStand p d1 (tell (Got e ∷ q) told)))
unheld p d d1 moment kept e before mid gave = record { told = gave.told; appended = gave.appended; kept = (gave.kept.0, λ q time held. gave.kept.1 q) }

-- where the endpoints' part told nothing
pub silently : (p : Plan) (d d1 : EndpointsData) (moment : ℕ) (kept : List ℕ) (e : Event) (before : List Action)
    → ((q : Record) → EndpointsStand p d q → EndpointsStand p d1 (Got e ∷ q))
    → Tells before before
    (λ told. IsGivingUp told × ((q : Record) → moment ≡ now q → AreOnOffer p kept q → EndpointsStand p d q → EndpointsStand p d1 (tell (Got e ∷ q) told)))
silently p d d1 moment kept e before stand = record { told = []; appended = sym (append-nil before); kept = (tt, λ q time held. stand q) }

-- an older server's message
pub strike-received : (core : CoreData) (bytes fds : List ℕ) (good : Bool) (d : EndpointsData) (b : BootData) (before after : List Action)
    → is_on core.end ≡ true → ReceivedMayCome core fds
    → good ≡ is_read (decode bytes (length fds)) → b ≡ received good core.boot
    → ((q : Record) → BootStands core.plan core.boot q → BootStands core.plan b (Got (Received bytes fds) ∷ q))
    → Tells before after
    (λ told. IsGivingUp told × (good ≡ false → told ≡ [])
    × ((q : Record) → EndpointsStand core.plan core.endpoints q → EndpointsStand core.plan d (tell (Got (Received bytes fds) ∷ q) told)))
    → Tells before after
    (λ told. IsGivingUp told
    × ((q : Record) → Right core.plan q → Represents core q
    → AfterEvent (struck core core.starts d b core.offer core.drain) None (tell (Got (Received bytes fds) ∷ q) told)))
strike-received core bytes fds good d b before after on may read now_boot boots gave = record {
  told = gave.told;
  appended = gave.appended;
  kept = (
    gave.kept.0,
    λ q right stands.
        strike-plain core q (Received bytes fds) right stands on
        (fits-received core q bytes fds on may stands) refl refl refl core.starts d b gave.told refl gave.kept.0
        (starts-got core.plan core.starts q (Received bytes fds) refl stands.starts)
        (gave.kept.2 q (ends-of core q stands on)) (boots q stands.boot) (ap (λ (x : BootData). x.fork) now_boot) (ap (λ (x : BootData). x.begun) now_boot)
        (ap (λ (x : BootData). x.complete) now_boot)
        (by good refl q stands),
  );
}
  where
    by : (c : Bool) → good ≡ c → (q : Record) → Represents core q → MayEnd core.plan (tell (Got (Received bytes fds) ∷ q) gave.told)
        → OnFalse (is_on (end_of core.plan b)) (EndedSo core.plan (tell (Got (Received bytes fds) ∷ q) gave.told))
    by true e q stands m = not-ended core.plan b (tell (Got (Received bytes fds) ∷ q) gave.told)
        (ap (λ (x : BootData). is_on (end_of core.plan x)) now_boot ∙ ap (λ (g : Bool). is_on (end_of core.plan (received g core.boot))) e
        ∙ on-by core.plan (received true core.boot) (on-end core.plan core.boot (on-boot core q stands on)).0 refl
        (on-end core.plan core.boot (on-boot core q stands on)).2)
    by false e q stands m =
        subst (λ told. OnFalse (is_on (end_of core.plan b)) (EndedSo core.plan (tell (Got (Received bytes fds) ∷ q) told))) (sym (gave.kept.1 e))
        (ended-so core.plan b q (Received bytes fds) (boots q stands.boot)
        (ap (λ (x : BootData). core.plan.test && x.begun) now_boot ∙ (on-end core.plan core.boot (on-boot core q stands on)).0)
        (subst (λ told. MayEnd core.plan (tell (Got (Received bytes fds) ∷ q) told)) (gave.kept.1 e) m))

-- the end of a loop
pub strike-loop : (core : CoreData) (s i j : ℕ) (d : EndpointsData) (before after : List Action) → IsEndpointsSized core.plan core.endpoints
    → is_on core.end ≡ true → LoopMayEnd core s i j
    → Tells before after
    (λ told. IsGivingUp told
    × ((q : Record) → fits_row core.plan q (LoopEnded s i j) ≡ true → AreOnOffer core.plan (numbers_on_offer core.offer) q
    → EndpointsStand core.plan core.endpoints q → EndpointsStand core.plan d (tell (Got (LoopEnded s i j) ∷ q) told)))
    → Tells before after
    (λ told. IsGivingUp told
    × ((q : Record) → Right core.plan q → Represents core q
    → AfterEvent (struck core core.starts d core.boot core.offer core.drain) None (tell (Got (LoopEnded s i j) ∷ q) told)))
strike-loop core s i j d before after sized on may gave = record {
  told = gave.told;
  appended = gave.appended;
  kept = (
    gave.kept.0,
    λ q right stands.
        strike-plain core q (LoopEnded s i j) right stands on
        (fits-loop core q s i j sized on stands may) refl refl refl core.starts d core.boot gave.told refl gave.kept.0
        (starts-got core.plan core.starts q (LoopEnded s i j) refl stands.starts)
        (gave.kept.1 q (loop-row core q s i j sized on stands may) (on-offer core.plan core.offer q (offer-of core q stands on)) (ends-of core q stands on))
        (foreign.stands-got core.plan core.boot q (LoopEnded s i j) refl stands.boot) refl refl refl
        (λ m. not-ended core.plan core.boot (tell (Got (LoopEnded s i j) ∷ q) gave.told) (on-boot core q stands on)),
  );
}

-- no sender, or a failure
pub strike-refused : (core : CoreData) (e : Event) (b : BootData) → is_fork_event e ≡ false → is_on core.end ≡ true → b.fork ≡ core.boot.fork
    → b.begun ≡ core.boot.begun → b.complete ≡ core.boot.complete
    → is_connection_event e ≡ false → is_drain_event e ≡ false → is_offer_event e ≡ false → is_word e ≡ false
    → ((q : Record) → Represents core q → fits core.plan q e ≡ true)
    → ((q : Record) → EndpointsStand core.plan core.endpoints q → EndpointsStand core.plan core.endpoints (Got e ∷ q))
    → ((q : Record) → core.drain.moment ≡ now q → BootStands core.plan core.boot q → BootStands core.plan b (Got e ∷ q))
    → (q : Record) → Right core.plan q → Represents core q → AfterEvent (struck core core.starts core.endpoints b core.offer core.drain) None (Got e ∷ q)
strike-refused core e b other on fork begun complete apart plain asks word fit ends boots q right stands =
    strike-plain core q e right stands on (fit q stands) plain asks other core.starts core.endpoints b [] apart tt
    (starts-got core.plan core.starts q e word stands.starts) (ends q (ends-of core q stands on))
    (boots q (drain-of core q stands on).moment_is stands.boot) fork begun complete
    (ended-so core.plan b q e (boots q (drain-of core q stands on).moment_is stands.boot)
    (ap (λ x. core.plan.test && x) begun ∙ (on-end core.plan core.boot (on-boot core q stands on)).0))
