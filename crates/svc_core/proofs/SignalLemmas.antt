-- Moments, signals and answers to the asks of the offer: what each makes of the core, before the rest of the step.
use Rattle.std.proofs.Common.{ℕ, Bool, true, false, ◌&&◌, ◌||◌, not, List, [], ◌∷◌, ◌≡◌, ◌==◌, refl, ap, sym, ◌∙◌, subst, arith, ◌≤◌, ◌-◌, if◌then◌else◌, MatchBool, nat_le, append-nil, inl, inr}
use Rattle.std.specs.Prelude.{Option, Some, None, is_some}
use Rattle.std.proofs.lemmas.Bool.{and_from, or_from, cases_Bool}
use Rattle.std.proofs.lemmas.Bool.Decides.{nat_tests}
use Rattle.svc_fds.specs.declared.encoding.Message.{Message}
use Rattle.svc_fds.specs.declared.retry.SendAnswer.{SendAnswer}
use Rattle.svc_fds.specs.declared.retry.SendAnswer.TheVariants as answers
use Rattle.svc_fds.specs.RetriesLeft.{RetriesLeft}
use Rattle.svc_record.specs.declared.plan.Plan.{Plan}
use Rattle.svc_record.specs.declared.entry.Entry.TheVariants.{Got}
use Rattle.svc_record.specs.declared.action.Action.{Action}
use Rattle.svc_record.specs.declared.event.Event.{Event}
use Rattle.svc_record.specs.declared.event.Event.TheVariants as events
use Rattle.svc_record.specs.declared.event.ShutdownSignal.{ShutdownSignal}
use Rattle.svc_record.specs.declared.event.ShutdownSignal.TheVariants.{FastShutdown, GracefulTerminate, GracefulUpgrade}
use Rattle.svc_record.specs.Record.{Record, has, now, tell, is_signal, is_graceful, signal_of, has_cut, from_the_start}
use Rattle.svc_record.specs.Asks.{is_connect_open, is_send_open}
use Rattle.svc_record.specs.Descriptors.{live_table}
use Rattle.svc_record.specs.Boot.{is_side_child}
use Rattle.svc_record.specs.Drain.{waits_are_over}
use Rattle.svc_record.specs.Ends.{has_ended, ends_tested, TestedRight}
use Rattle.svc_record.specs.Fits.{fits}
use Rattle.svc_record.specs.Message.{encode}
use Rattle.svc_record.specs.Offer.{is_upgrade, is_empty_table, is_written, is_answered, table, has_offer, is_held_back, is_over, one_ask}
use Rattle.svc_fds.specs.Tables.{Entry as TableEntry}
use Rattle.std.specs.List.{list_any}
use Rattle.svc_record.specs.Right.{Right, OpenRight, EndedRight, in_service}
use Rattle.svc_record.specs.Starts.{StartsRight}
use Rattle.svc_record.specs.Endpoints.{EndpointsRight, EndpointsRightLate}
use Rattle.svc_record.specs.Told.{Tells, IsGivingUp}
use Rattle.svc_endpoints.specs.EndpointsData.{EndpointsData}
use Rattle.svc_endpoints.specs.EndpointsState.{EndpointsStand}
use Rattle.svc_endpoints.specs.Foreign.{is_endpoints_event}
use Rattle.svc_endpoints.proofs.EventLemmas.{stands-got, stands-signal}
use Rattle.svc_boot.specs.BootFacts.{is_boot_event, is_fork_event, IsBootSettled}
use Rattle.svc_boot.specs.ForkState.{may_run, is_parent_over}
use Rattle.svc_boot.specs.BootState.{is_refused}
use Rattle.svc_boot.specs.BootEffects.{end_of, is_early}
use Rattle.svc_boot.proofs.BootEnds.{boot-right}
use Rattle.svc_boot.proofs.Foreign as foreign
use Rattle.svc_boot.proofs.Settled.{free-no_parent}
use Rattle.svc_offer.specs.declared.offering.Offering.{Offering}
use Rattle.svc_offer.specs.declared.offering.Offering.TheVariants.{Nothing, Unasked, Connecting, Connected, Sending, Absent, Delayed, Stalled, Over}
use Rattle.svc_offer.specs.OfferData.{OfferData}
use Rattle.svc_offer.specs.OfferState.{OfferStands, IsOfferSettled, over_since, is_offering, is_connecting, is_sending, is_send_due}
use Rattle.svc_offer.specs.OfferEffects.{event_of, is_awaited, begun, cut_off, answered, ends_by, state_after, sends_at, first_state}
use Rattle.svc_offer.proofs.Foreign as offers
use Rattle.svc_offer.proofs.Signals.{stands-later, stands-unoffered}
use Rattle.svc_offer.proofs.OfferRules.{held-back-got, held-back-answer, released, offer-right, one-ask, forward-fits}
use Rattle.svc_drain.specs.DrainData.{DrainData}
use Rattle.svc_drain.specs.DrainState.{DrainStands, IsDrainSettled, OverIs, is_cut}
use Rattle.svc_drain.specs.DrainEffects.{at_moment, at_stage, signalled, cuts, cut_stage}
use Rattle.svc_drain.specs.DrainFacts.{is_drain_event}
use Rattle.svc_drain.proofs.Foreign as drains
use Rattle.svc_drain.proofs.Records.{cut-signal, uncut-first}
use Rattle.svc_drain.proofs.Signalled.{stands-later as drain-later, signalled-further}
use Rattle.svc_record.proofs.CutLaws.{unsignalled-unpassed}
use Rattle.svc_drain.proofs.Passing.{passed-got, passed-is, marks-right, uncut}
use Rattle.svc_core.specs.StartsState.{StartsStand}
use Rattle.svc_core.specs.CoreData.{CoreData, is_on}
use Rattle.svc_core.specs.Copies.{message_at}
use Rattle.svc_core.specs.Passes.{Going, AreStarted, MayEnd, is_tested}
use Rattle.svc_core.specs.Signals.{offers_by, is_reached}
use Rattle.svc_core.specs.Stands.{Represents, AfterEvent, StepRight, StepKeeps, RowMayCome}
use Rattle.svc_core.proofs.GoingLemmas.{may-tell}
use Rattle.svc_core.proofs.RecordLemmas.{signal-is, signal-none, on_true, to_true, not_true}
use Rattle.svc_connections.specs.ConnectionsFacts.{is_connection_event}
use Rattle.svc_core.proofs.PassLemmas.{are-failed}
use Rattle.svc_core.proofs.OpenLemmas.{running-right, right-of, end-same, ended-same, tested-same, served-not}
use Rattle.svc_core.proofs.FinishLemmas.{on-end}
use Rattle.svc_core.proofs.StepLemmas.{struck, strike, free-of, no-child, not-ended, giving-started, uncut-of, drain-of, offer-of, ends-of, settled-of, on-boot, all-started, undue, over-of, giving-loose, fits-moment, going-on, running-is, opened, end-of-boot}

-- a send that a moment lets fall due
moment-sends : (x : Offering) (t ms : ℕ) → is_send_due x t ≡ false → is_send_due x ms ≡ true → sends_at x (events.Moment ms) ≡ true
moment-sends Connected t ms h k = absurd (cc)
moment-sends (Stalled at) t ms h k = k
moment-sends Nothing t ms h k = absurd (cc)
moment-sends Unasked t ms h k = absurd (cc)
moment-sends Connecting t ms h k = absurd (cc)
moment-sends Sending t ms h k = absurd (cc)
moment-sends (Absent at) t ms h k = absurd (cc)
moment-sends (Delayed at) t ms h k = absurd (cc)
moment-sends (Over at) t ms h k = absurd (cc)

copy-is : (core : CoreData) (e : Event) (copy : Option Message) → copy ≡ message_at core e → sends_at core.offer.state e ≡ true → copy ≡ core.offer.message
copy-is core e copy h k = h ∙ rw k refl

-- where no signal came nothing is waited for or offered
pub silent-may : (p : Plan) (q : Record) → signal_of q ≡ None → MayEnd p q
silent-may p q none = record { unpassed = unsignalled-unpassed p q none; asks = rw none refl }

-- a moment
pub strike-moment : (core : CoreData) (ms : ℕ) (dr : DrainData) (copy : Option Message) → is_on core.end ≡ true → may_run core.plan core.boot.fork ≡ true
    → core.drain.moment ≤ ms → dr ≡ at_moment ms core.drain
    → ((p : Plan) (over : Option ℕ) (q : Record) → IsDrainSettled core.drain over → DrainStands p core.drain over q
    → DrainStands p dr over (Got (events.Moment ms) ∷ q))
    → copy ≡ message_at core (events.Moment ms)
    → (q : Record) → Right core.plan q → Represents core q
    → AfterEvent (struck core core.starts core.endpoints core.boot core.offer dr) copy (Got (events.Moment ms) ∷ q)
strike-moment core ms dr copy on free may after drain copied q right stands =
    strike core q (events.Moment ms) core.starts core.endpoints core.boot core.offer dr copy [] right stands on
    (fits-moment core q ms on may stands) free refl refl tt
    (drain core.plan (over_since core.offer.state) q (settled-of core q stands on).drain (drain-of core q stands on)) (ap (λ (x : DrainData). x.running) after)
    (offers.stands-got core.plan core.offer q (events.Moment ms) refl (offer-of core q stands on))
    (record { started_is = stands.starts.started_is; ready_is = stands.starts.ready_is; ended_is = stands.starts.ended_is })
    (stands-got core.plan core.endpoints q (events.Moment ms) refl (λ fd. held-back-got core.plan q (events.Moment ms) fd refl) (ends-of core q stands on))
    (foreign.stands-moment core.plan core.boot q ms (free-no_parent core.plan core.boot q stands.boot free) stands.boot) refl refl
    (not-ended core.plan core.boot (Got (events.Moment ms) ∷ q) (on-boot core q stands on))
    (elim (cases_Bool core.drain.running) [
      | inl runs ↦ inl ((λ s lt due. all-started core q stands on right runs s lt due), undue core q stands on)
      | inr idle ↦
          inr (silent-may core.plan (Got (events.Moment ms) ∷ q) (sym (drain-of core q stands on).signal_is ∙ (drain-of core q stands on).unsignalled idle))
    ])
    (λ due. copy-is core (events.Moment ms) copy copied
    (moment-sends core.offer.state core.drain.moment ms (settled-of core q stands on).offer.no_send
    (subst (λ m. is_send_due core.offer.state m ≡ true) (ap (λ (x : DrainData). x.moment) after) due)))

-- a further signal that is no cut leaves the part on the end of a run as it is
same-later : (d : DrainData) (kind : ShutdownSignal) (x : Option ShutdownSignal) → d.signal ≡ x → is_some x ≡ true → cuts x kind ≡ false
    → signalled kind false d ≡ d
same-later d kind (Some earlier) e h calm = rw (e, calm) refl
same-later d kind None e h calm = absurd (cc)

-- a cut is a fast signal after a graceful one
fast-cut : (s : Option ShutdownSignal) (kind : ShutdownSignal) → cuts s kind ≡ true → (FastShutdown ≡ kind) × (is_graceful s ≡ true)
fast-cut s FastShutdown h = (refl, h)
fast-cut s GracefulTerminate h = absurd (cc)
fast-cut s GracefulUpgrade h = absurd (cc)

-- after which nothing is held back
held-cut : (p : Plan) (q : Record) (fd : ℕ) → has_cut q ≡ true → is_held_back p q fd ≡ false
held-cut p q fd h =
    ap (λ c. (is_upgrade (signal_of q) && list_any (λ (x : TableEntry). x.1 == fd) (table p q))
    && not (is_upgrade (signal_of q) && ((not (is_empty_table (table p q)) && (not (is_written (encode (table p q))) || c)) || is_answered p q))) h
    ∙ by (is_upgrade (signal_of q)) (table p q) (is_written (encode (table p q))) (is_answered p q)
  where
    over : (w a x : Bool) → (x && not ((not w || true) || a)) ≡ false
    over w a x = grind arith

    by : (u : Bool) (t : List TableEntry) (w a : Bool)
        → ((u && list_any (λ (x : TableEntry). x.1 == fd) t) && not (u && ((not (is_empty_table t) && (not w || true)) || a))) ≡ false
    by false t w a = refl
    by true [] w a = refl
    by true (x ∷ more) w a = over w a (list_any (λ (y : TableEntry). y.1 == fd) (x ∷ more))

-- a signal
module _ (core : CoreData) (kind : ShutdownSignal) (on : is_on core.end ≡ true) (runs : core.drain.running ≡ true) (q : Record) (right : Right core.plan q)
    (stands : Represents core q) where
  fits-signal : fits core.plan q (events.Signal kind) ≡ true
  fits-signal = and_from (not (has_ended core.plan q)) (from_the_start q) (going-on core q stands on) (running-is core q stands on ∙ runs)

  strike-signal : (o : OfferData) (dr : DrainData) → has_cut (Got (events.Signal kind) ∷ q) ≡ has_cut q → OfferStands core.plan o (Got (events.Signal kind) ∷ q)
      → DrainStands core.plan dr (over_since o.state) (Got (events.Signal kind) ∷ q) → dr.running ≡ core.drain.running
      → is_send_due o.state dr.moment ≡ false → AfterEvent (struck core core.starts core.endpoints core.boot o dr) None (Got (events.Signal kind) ∷ q)
  strike-signal o dr calm offer drain running unsent =
      strike core q (events.Signal kind) core.starts core.endpoints core.boot o dr None [] right stands on fits-signal
      (free-of core q (events.Signal kind) stands fits-signal refl) refl refl tt drain running offer
      (record { started_is = stands.starts.started_is; ready_is = stands.starts.ready_is; ended_is = stands.starts.ended_is })
      (stands-signal core.plan core.endpoints q kind calm (ends-of core q stands on))
      (foreign.stands-got core.plan core.boot q (events.Signal kind) refl stands.boot) refl refl
      (not-ended core.plan core.boot (Got (events.Signal kind) ∷ q) (on-boot core q stands on))
      (inl ((λ s lt due. all-started core q stands on right runs s lt due), undue core q stands on))
      (λ due. absurd (cc))

  came-is : is_some core.drain.signal ≡ has is_signal q
  came-is = ap is_some (drain-of core q stands on).signal_is ∙ sym (signal-is q)

  -- before a signal no offer is over
  unsignalled-over : has is_signal q ≡ false → over_since core.offer.state ≡ None
  unsignalled-over silent = by (over_since core.offer.state) (sym (offer-of core q stands on).over_is ∙ rw (signal-none q silent) refl)
    where
      by : (x : Option ℕ) → is_some x ≡ false → x ≡ None
      by (Some at) h = absurd (cc)
      by None h = refl

  fields-kept : (offers : Bool) (x : Option ShutdownSignal) → core.drain.signal ≡ x
      → ((signalled kind offers core.drain).running ≡ core.drain.running) × ((signalled kind offers core.drain).moment ≡ core.drain.moment)
  fields-kept offers (Some earlier) e =
      let is = signalled-further kind offers core.drain (ap is_some e) in
      let kept = by (cuts core.drain.signal kind) in
      (ap (λ (x : DrainData). x.running) is ∙ kept.0, ap (λ (x : DrainData). x.moment) is ∙ kept.1)
    where
      by : (b : Bool)
          → let d : DrainData = if b then at_stage (cut_stage core.drain.stage) core.drain else core.drain in (d.running ≡ core.drain.running)
          × (d.moment ≡ core.drain.moment)
      by true = (refl, refl)
      by false = (refl, refl)
  fields-kept offers None e = (rw e refl, rw e refl)

  running-kept : (offers : Bool) (dr : DrainData) → dr ≡ signalled kind offers core.drain → dr.running ≡ core.drain.running
  running-kept offers dr after = ap (λ (x : DrainData). x.running) after ∙ (fields-kept offers core.drain.signal refl).0

  moment-kept : (offers : Bool) (dr : DrainData) → dr ≡ signalled kind offers core.drain → dr.moment ≡ core.drain.moment
  moment-kept offers dr after = ap (λ (x : DrainData). x.moment) after ∙ (fields-kept offers core.drain.signal refl).1

  -- a further one that is no cut
  module _ (came : is_some core.drain.signal ≡ true) (calm : cuts core.drain.signal kind ≡ false) where
    earlier : has is_signal q ≡ true
    earlier = sym came-is ∙ came

    no-cut : has_cut (Got (events.Signal kind) ∷ q) ≡ has_cut q
    no-cut = cut-signal q kind ∙ ap (λ b. b || has_cut q) (ap (λ s. cuts s kind) (sym (drain-of core q stands on).signal_is) ∙ calm)

    later-struck : AfterEvent (struck core core.starts core.endpoints core.boot core.offer core.drain) None (Got (events.Signal kind) ∷ q)
    later-struck = strike-signal core.offer core.drain no-cut (stands-later core.plan core.offer q kind earlier no-cut (offer-of core q stands on))
        (subst (λ (x : DrainData). DrainStands core.plan x (over_since core.offer.state) (Got (events.Signal kind) ∷ q))
        (same-later core.drain kind core.drain.signal refl came calm)
        (drain-later core.plan core.drain kind false (over_since core.offer.state) q earlier calm (drain-of core q stands on))) refl
        (settled-of core q stands on).offer.no_send

    going : Going core.plan core.starts core.endpoints core.boot core.offer core.drain core.connections (Got (events.Signal kind) ∷ q)
    going = later-struck.going

    live : (is_tested core.plan core.boot ≡ false) × (is_refused core.boot.receiving ≡ false) × (is_parent_over core.boot.fork ≡ false)
    live = on-end core.plan core.boot (on-boot core q stands on)

    later-open : OpenRight core.plan (Got (events.Signal kind) ∷ q)
    later-open =
        let settled = settled-of core q stands on in
        let was = opened core q stands on right in
        let started = on_true (from_the_start q) (StartsRight core.plan q) (running-is core q stands on ∙ runs) was.starts in
        let late = on_true (from_the_start q) (EndpointsRightLate core.plan q) (running-is core q stands on ∙ runs) was.endpoints_late in
        record {
          boot = boot-right core.plan core.boot (Got (events.Signal kind) ∷ q) going.boot going.begun_is
              (subst (IsBootSettled core.plan core.boot) going.drain.moment_is settled.boot)
              (running-right core.plan core.starts core.endpoints core.boot core.offer core.drain core.connections (Got (events.Signal kind) ∷ q) going
              (runs ∙ sym (stands.runs runs))) going.entries.after_boot;
          offer = offer-right core.plan core.offer (Got (events.Signal kind) ∷ q) going.offer
              (subst (IsOfferSettled core.offer) going.drain.moment_is settled.offer);
          connections = going.connections.right;
          closes = going.ends.closes;
          one_live = going.ends.one_live;
          starts = to_true (from_the_start (Got (events.Signal kind) ∷ q)) (StartsRight core.plan (Got (events.Signal kind) ∷ q))
              (record { each = started.each; in_turn = (refl, started.in_turn) });
          endpoints = not_true (in_service (Got (events.Signal kind) ∷ q)) (EndpointsRight core.plan (Got (events.Signal kind) ∷ q))
              (no-service (from_the_start q));
          endpoints_late =
              to_true (from_the_start (Got (events.Signal kind) ∷ q)) (EndpointsRightLate core.plan (Got (events.Signal kind) ∷ q))
              (λ s i inside within. late s i inside within);
          phases = marks-right core.plan core.drain (over_since core.offer.state) (Got (events.Signal kind) ∷ q) settled.waits settled.drain going.drain;
          moments = (refl, was.moments);
          no_end = going.no_end;
        }
      where
        no-service : (b : Bool) → (b && false) ≡ false
        no-service b = grind arith

    -- it changes nothing
    pub later-step : StepRight core (Got (events.Signal kind) ∷ q) core.end
    later-step =
        let settled = settled-of core q stands on in
        let unpassed : waits_are_over core.plan (Got (events.Signal kind) ∷ q) ≡ false =
        passed-is core.plan core.drain (over_since core.offer.state) (Got (events.Signal kind) ∷ q) going.drain settled.drain ∙ settled.waits in
        let end : core.end ≡ end_of core.plan core.boot = stands.end_is ∙ end-of-boot core q stands on in
        record {
          stands = record {
            drain = λ e. going.drain;
            offer = λ e. going.offer;
            starts = going.starts;
            boot = going.boot;
            endpoints = λ e. going.ends;
            failed = are-failed core.plan core.endpoints (Got (events.Signal kind) ∷ q) going.ends;
            came = going.ends.came_are;
            closed = λ e. absurd (let unserved = served-not core.plan core.boot core.end end in cc);
            connections = λ e. going.connections;
            uncut = λ e. absurd (let unserved = served-not core.plan core.boot core.end end in cc);
            after_boot = going.entries.after_boot;
            started_due = going.started_due;
            begun_is = going.begun_is;
            runs = going.runs;
            settled = λ e. settled;
            end_is = end
                ∙ sym (end-same core.plan core.starts core.endpoints core.boot core.offer core.drain core.connections
                (Got (events.Signal kind) ∷ q) going unpassed);
          };
          right = right-of core.plan core.starts core.endpoints core.boot core.offer core.drain core.connections (Got (events.Signal kind) ∷ q) going unpassed
              (one-ask core.plan core.offer (Got (events.Signal kind) ∷ q) going.offer (subst (IsOfferSettled core.offer) going.drain.moment_is settled.offer)
              (forward-fits core.plan (Got (events.Signal kind) ∷ q) going.entries.fits))
              (while-open (has_ended core.plan (Got (events.Signal kind) ∷ q)) (EndedRight core.plan (Got (events.Signal kind) ∷ q))
              (OpenRight core.plan (Got (events.Signal kind) ∷ q))
              (ended-same core.plan core.starts core.endpoints core.boot core.offer core.drain core.connections (Got (events.Signal kind) ∷ q) going unpassed
              ∙ or_from (is_tested core.plan core.boot) (is_early core.boot) live.0
              (or_from (is_parent_over core.boot.fork) (is_refused core.boot.receiving) live.2 live.1)) later-open)
              (not_true (ends_tested core.plan (Got (events.Signal kind) ∷ q)) (TestedRight core.plan (Got (events.Signal kind) ∷ q))
              (tested-same core.plan core.starts core.endpoints core.boot core.offer core.drain core.connections (Got (events.Signal kind) ∷ q) going
              ∙ live.0));
          answer = end
              ∙ sym (end-same core.plan core.starts core.endpoints core.boot core.offer core.drain core.connections
              (Got (events.Signal kind) ∷ q) going unpassed);
        }
      where
        while-open : (c : Bool) (A B : Type 0) → c ≡ false → B → MatchBool c A B
        while-open true A B e h = absurd (cc)
        while-open false A B e h = h

  -- the first one, by which nothing is offered
  pub strike-unoffered : (dr : DrainData) → dr ≡ signalled kind false core.drain
      → ((p : Plan) (over : Option ℕ) (r : Record) → has is_signal r ≡ false → core.drain.running ≡ true
      → (is_upgrade (Some kind) ≡ true → false ≡ not (is_empty_table (live_table p r))) → OverIs p (Got (events.Signal kind) ∷ r) over
      → DrainStands p core.drain None r → DrainStands p dr over (Got (events.Signal kind) ∷ r))
      → is_some core.drain.signal ≡ false → (EndpointsStand core.plan core.endpoints q → false ≡ offers_by kind (is_empty_table (live_table core.plan q)))
      → AfterEvent (struck core core.starts core.endpoints core.boot core.offer dr) None (Got (events.Signal kind) ∷ q)
  strike-unoffered dr after first none_came says =
      let silent : has is_signal q ≡ false = sym came-is ∙ none_came in
      let empty : is_upgrade (Some kind) ≡ true
      → is_empty_table (live_table core.plan q) ≡ true =
      (λ up. nothing (is_upgrade (Some kind)) (is_empty_table (live_table core.plan q)) (says (ends-of core q stands on)) up) in
      let offer = stands-unoffered core.plan core.offer q kind silent empty (offer-of core q stands on) in
      strike-signal core.offer dr (uncut-first q kind (signal-none q silent)) offer
      (first core.plan (over_since core.offer.state) q silent runs (λ up. ap not (sym (empty up)))
      (over-of core.plan core.offer (Got (events.Signal kind) ∷ q) offer)
      (subst (λ over. DrainStands core.plan core.drain over q) (unsignalled-over silent) (drain-of core q stands on))) (running-kept false dr after)
      (ap (is_send_due core.offer.state) (moment-kept false dr after) ∙ (settled-of core q stands on).offer.no_send)
    where
      nothing : (u e : Bool) → false ≡ (u && not e) → u ≡ true → e ≡ true
      nothing u e h l = grind arith

  -- by which what is live is offered
  pub strike-offered : (o : OfferData) (dr : DrainData) (message : Option Message) → dr ≡ signalled kind true core.drain
      → o ≡ begun message core.drain.moment core.offer
      → ((p : Plan) (r : Record) → core.drain.moment ≡ now r → has is_signal r ≡ false → is_empty_table (live_table p r) ≡ false
      → message ≡ encode (live_table p r) → OfferStands p core.offer r → OfferStands p o (Got (events.Signal GracefulUpgrade) ∷ r))
      → ((p : Plan) (r : Record) → EndpointsStand p core.endpoints r → message ≡ encode (live_table p r))
      → ((p : Plan) (over : Option ℕ) (r : Record) → has is_signal r ≡ false → core.drain.running ≡ true
      → (is_upgrade (Some kind) ≡ true → true ≡ not (is_empty_table (live_table p r))) → OverIs p (Got (events.Signal kind) ∷ r) over
      → DrainStands p core.drain None r → DrainStands p dr over (Got (events.Signal kind) ∷ r))
      → is_some core.drain.signal ≡ false → (EndpointsStand core.plan core.endpoints q → true ≡ offers_by kind (is_empty_table (live_table core.plan q)))
      → AfterEvent (struck core core.starts core.endpoints core.boot o dr) None (Got (events.Signal kind) ∷ q)
  strike-offered o dr message told after begins written first none_came says =
      let offered = says (ends-of core q stands on) in
      let silent : has is_signal q ≡ false = sym came-is ∙ none_came in
      let full : is_empty_table (live_table core.plan q) ≡ false = full-of (is_upgrade (Some kind)) (is_empty_table (live_table core.plan q)) offered in
      let same : GracefulUpgrade ≡ kind = sym (upgrade-is kind (upgrade-of (is_upgrade (Some kind)) (is_empty_table (live_table core.plan q)) offered)) in
      let offer : OfferStands core.plan o (Got (events.Signal kind) ∷ q) = subst (λ k. OfferStands core.plan o (Got (events.Signal k) ∷ q)) same
      (begins core.plan q (drain-of core q stands on).moment_is silent full (written core.plan q (ends-of core q stands on)) (offer-of core q stands on)) in
      strike-signal o dr (uncut-first q kind (signal-none q silent)) offer
      (first core.plan (over_since o.state) q silent runs (λ up. ap not (sym full)) (over-of core.plan o (Got (events.Signal kind) ∷ q) offer)
      (subst (λ over. DrainStands core.plan core.drain over q) (unsignalled-over silent) (drain-of core q stands on))) (running-kept true dr told)
      (ap (λ (x : OfferData). is_send_due x.state dr.moment) after ∙ unsent message core.drain.moment dr.moment)
    where
      full-of : (u e : Bool) → true ≡ (u && not e) → e ≡ false
      full-of u e h = grind arith

      upgrade-of : (u e : Bool) → true ≡ (u && not e) → u ≡ true
      upgrade-of u e h = grind arith

      upgrade-is : (k : ShutdownSignal) → is_upgrade (Some k) ≡ true → k ≡ GracefulUpgrade
      upgrade-is GracefulUpgrade h = refl
      upgrade-is FastShutdown h = absurd (cc)
      upgrade-is GracefulTerminate h = absurd (cc)

      unsent : (m : Option Message) (t u : ℕ) → is_send_due (first_state m t) u ≡ false
      unsent (Some w) t u = refl
      unsent None t u = refl

  -- a cut, and what closes as the offer is over by it
  pub strike-cut : (o : OfferData) (dr : DrainData) (d : EndpointsData) (gave : List Action) → cuts core.drain.signal kind ≡ true
      → o ≡ cut_off core.drain.moment core.offer → dr ≡ signalled kind false core.drain
      → ((p : Plan) (r : Record) → core.drain.moment ≡ now r → is_graceful (signal_of r) ≡ true → OfferStands p core.offer r
      → OfferStands p o (Got (events.Signal FastShutdown) ∷ r))
      → ((t : ℕ) → IsOfferSettled o t)
      → ((p : Plan) (over over2 : Option ℕ) (r : Record) → cuts core.drain.signal kind ≡ true → is_cut core.drain.stage ≡ false → IsDrainSettled core.drain over
      → OverIs p (Got (events.Signal kind) ∷ r) over2 → DrainStands p core.drain over r → DrainStands p dr over2 (Got (events.Signal kind) ∷ r))
      → IsGivingUp gave
      → ((r : Record) (e : Event) → is_endpoints_event e ≡ false → ((fd : ℕ) → is_held_back core.plan (Got e ∷ r) fd ≡ false)
      → EndpointsStand core.plan core.endpoints r → EndpointsStand core.plan d (tell (Got e ∷ r) gave))
      → AfterEvent (struck core core.starts d core.boot o dr) None (tell (Got (events.Signal kind) ∷ q) gave)
  strike-cut o dr d gave cut after told cuts_offer settles cuts_drain giving ends =
      let fast = fast-cut core.drain.signal kind cut in
      let was = drain-of core q stands on in
      let offer : OfferStands core.plan o (Got (events.Signal kind) ∷ q) = subst (λ k. OfferStands core.plan o (Got (events.Signal k) ∷ q)) fast.0
      (cuts_offer core.plan q was.moment_is (ap is_graceful (sym was.signal_is) ∙ fast.1) (offer-of core q stands on)) in
      let came : has_cut (Got (events.Signal kind) ∷ q) ≡ true =
      cut-signal q kind ∙ ap (λ b. b || has_cut q) (ap (λ s. cuts s kind) (sym was.signal_is) ∙ cut) in
      strike core q (events.Signal kind) core.starts d core.boot o dr None gave right stands on fits-signal
      (free-of core q (events.Signal kind) stands fits-signal refl) refl refl giving
      (cuts_drain core.plan (over_since core.offer.state) (over_since o.state) q cut (uncut core.plan core.drain (settled-of core q stands on).waits)
      (settled-of core q stands on).drain
      (over-of core.plan o (Got (events.Signal kind) ∷ q) offer) was)
      (running-kept false dr told) offer
      (record { started_is = stands.starts.started_is; ready_is = stands.starts.ready_is; ended_is = stands.starts.ended_is })
      (ends q (events.Signal kind) refl (λ fd. held-cut core.plan (Got (events.Signal kind) ∷ q) fd came) (ends-of core q stands on))
      (foreign.stands-got core.plan core.boot q (events.Signal kind) refl stands.boot) refl refl
      (not-ended core.plan core.boot (tell (Got (events.Signal kind) ∷ q) gave) (on-boot core q stands on))
      (inl (
        giving-started core.plan (Got (events.Signal kind) ∷ q) gave giving
            (λ s lt due. all-started core q stands on right runs s lt due),
        undue core q stands on,
      ))
      (λ due. absurd (let unsent = (settles dr.moment).no_send in cc))

-- the same of a call
pub cut-strikes : (core : CoreData) (kind : ShutdownSignal) → is_on core.end ≡ true → core.drain.running ≡ true → cuts core.drain.signal kind ≡ true
    → (o : OfferData) → o ≡ cut_off core.drain.moment core.offer
    → ((p : Plan) (r : Record) → core.drain.moment ≡ now r → is_graceful (signal_of r) ≡ true → OfferStands p core.offer r
    → OfferStands p o (Got (events.Signal FastShutdown) ∷ r))
    → ((t : ℕ) → IsOfferSettled o t)
    → (dr : DrainData) → dr ≡ signalled kind false core.drain
    → ((p : Plan) (over over2 : Option ℕ) (r : Record) → cuts core.drain.signal kind ≡ true → is_cut core.drain.stage ≡ false → IsDrainSettled core.drain over
    → OverIs p (Got (events.Signal kind) ∷ r) over2 → DrainStands p core.drain over r → DrainStands p dr over2 (Got (events.Signal kind) ∷ r))
    → (d : EndpointsData) (before mid : List Action)
    → Tells before mid
    (λ told. IsGivingUp told
    × ((r : Record) (e : Event) → is_endpoints_event e ≡ false → ((fd : ℕ) → is_held_back core.plan (Got e ∷ r) fd ≡ false)
    → EndpointsStand core.plan core.endpoints r → EndpointsStand core.plan d (tell (Got e ∷ r) told)))
    → Tells before mid
    (λ told. IsGivingUp told
    × ((q : Record) → Right core.plan q → Represents core q
    → AfterEvent (struck core core.starts d core.boot o dr) None (tell (Got (events.Signal kind) ∷ q) told)))
cut-strikes core kind on runs cut o after cuts_offer settles dr told cuts_drain d before mid gave = record {
  told = gave.told;
  appended = gave.appended;
  kept = (
    gave.kept.0,
    λ q right stands. strike-cut core kind on runs q right stands o dr d gave.told cut after told cuts_offer settles cuts_drain gave.kept.0
        gave.kept.1,
  );
}

-- a further signal that is no cut tells nothing, and leaves the core as it is
pub later-keeps : (core : CoreData) (kind : ShutdownSignal) → is_on core.end ≡ true → core.drain.running ≡ true → is_some core.drain.signal ≡ true
    → cuts core.drain.signal kind ≡ false → (before : List Action) → StepKeeps core core (events.Signal kind) before before core.end
later-keeps core kind on runs came calm before = record {
  told = [];
  appended = sym (append-nil before);
  kept = λ q right stands. later-step core kind on runs q right stands came calm;
}

-- what the event of an answer is
pub record IsAnswer (p : Plan) (e : Event) : Type 0 where
  pub apart : is_connection_event e ≡ false
  pub plain : is_drain_event e ≡ false
  pub boot : is_boot_event e ≡ false
  pub fork : is_fork_event e ≡ false
  pub ends : is_endpoints_event e ≡ false
  pub time : (q : Record) → now (Got e ∷ q) ≡ now q
  pub starts : (core : CoreData) (q : Record) → StartsStand p core.starts q → StartsStand p core.starts (Got e ∷ q)
  pub started : (q : Record) → AreStarted p q → AreStarted p (Got e ∷ q)

pub answer-is : (p : Plan) (a : SendAnswer) → IsAnswer p (event_of a)
answer-is p answers.Connected =
    record {
      apart = refl;
      plain = refl;
      boot = refl;
      fork = refl;
      ends = refl;
      time = λ q. refl;
      starts = λ core q h. record { started_is = h.started_is; ready_is = h.ready_is; ended_is = h.ended_is };
      started = λ q h s lt due. h s lt due;
    }
answer-is p answers.NotThere =
    record {
      apart = refl;
      plain = refl;
      boot = refl;
      fork = refl;
      ends = refl;
      time = λ q. refl;
      starts = λ core q h. record { started_is = h.started_is; ready_is = h.ready_is; ended_is = h.ended_is };
      started = λ q h s lt due. h s lt due;
    }
answer-is p answers.StillConnecting =
    record {
      apart = refl;
      plain = refl;
      boot = refl;
      fork = refl;
      ends = refl;
      time = λ q. refl;
      starts = λ core q h. record { started_is = h.started_is; ready_is = h.ready_is; ended_is = h.ended_is };
      started = λ q h s lt due. h s lt due;
    }
answer-is p answers.ConnectFailed =
    record {
      apart = refl;
      plain = refl;
      boot = refl;
      fork = refl;
      ends = refl;
      time = λ q. refl;
      starts = λ core q h. record { started_is = h.started_is; ready_is = h.ready_is; ended_is = h.ended_is };
      started = λ q h s lt due. h s lt due;
    }
answer-is p answers.Sent =
    record {
      apart = refl;
      plain = refl;
      boot = refl;
      fork = refl;
      ends = refl;
      time = λ q. refl;
      starts = λ core q h. record { started_is = h.started_is; ready_is = h.ready_is; ended_is = h.ended_is };
      started = λ q h s lt due. h s lt due;
    }
answer-is p answers.SendBusy =
    record {
      apart = refl;
      plain = refl;
      boot = refl;
      fork = refl;
      ends = refl;
      time = λ q. refl;
      starts = λ core q h. record { started_is = h.started_is; ready_is = h.ready_is; ended_is = h.ended_is };
      started = λ q h s lt due. h s lt due;
    }
answer-is p answers.SendFailed =
    record {
      apart = refl;
      plain = refl;
      boot = refl;
      fork = refl;
      ends = refl;
      time = λ q. refl;
      starts = λ core q h. record { started_is = h.started_is; ready_is = h.ready_is; ended_is = h.ended_is };
      started = λ q h s lt due. h s lt due;
    }

-- an ask that is open is answered
pub fits-connect : (core : CoreData) (q : Record) → is_on core.end ≡ true → is_connecting core.offer.state ≡ true → Represents core q
    → (not (has_ended core.plan q) && is_connect_open q) ≡ true
fits-connect core q on may stands =
    and_from (not (has_ended core.plan q)) (is_connect_open q) (going-on core q stands on)
    ((offer-of core q stands on).connecting_is (uncut-of core q stands on) ∙ may)

pub fits-send : (core : CoreData) (q : Record) → is_on core.end ≡ true → is_sending core.offer.state ≡ true → Represents core q
    → (not (has_ended core.plan q) && is_send_open q) ≡ true
fits-send core q on may stands =
    and_from (not (has_ended core.plan q)) (is_send_open q) (going-on core q stands on)
    ((offer-of core q stands on).sending_is (uncut-of core q stands on) ∙ may)

pub fits-answer : (core : CoreData) (q : Record) (a : SendAnswer) → is_on core.end ≡ true → is_awaited core.offer.state a ≡ true → Represents core q
    → fits core.plan q (event_of a) ≡ true
fits-answer core q answers.Connected on may stands = fits-connect core q on may stands
fits-answer core q answers.NotThere on may stands = fits-connect core q on may stands
fits-answer core q answers.StillConnecting on may stands = fits-connect core q on may stands
fits-answer core q answers.ConnectFailed on may stands = fits-connect core q on may stands
fits-answer core q answers.Sent on may stands = fits-send core q on may stands
fits-answer core q answers.SendBusy on may stands = fits-send core q on may stands
fits-answer core q answers.SendFailed on may stands = fits-send core q on may stands

-- while an ask is open the offer isn't over
awaited-none : (x : Offering) (a : SendAnswer) → is_awaited x a ≡ true → over_since x ≡ None
awaited-none Connecting a h = refl
awaited-none Sending a h = refl
awaited-none Nothing a h = refl
awaited-none Unasked a h = refl
awaited-none Connected a h = refl
awaited-none (Absent at) a h = refl
awaited-none (Delayed at) a h = refl
awaited-none (Stalled at) a h = refl
awaited-none (Over at) a h = absurd (let off = never at a in cc)
  where
    never : (t : ℕ) (b : SendAnswer) → is_awaited (Over t) b ≡ false
    never t answers.Connected = refl
    never t answers.NotThere = refl
    never t answers.StillConnecting = refl
    never t answers.ConnectFailed = refl
    never t answers.Sent = refl
    never t answers.SendBusy = refl
    never t answers.SendFailed = refl

-- an answer but `Connected` lets no send fall due
answer-rests : (n : RetriesLeft) (a : SendAnswer) (m : ℕ) → is_reached a ≡ false → is_send_due (if ends_by n a then Over m else state_after a m) m ≡ false
answer-rests n a m h = by (ends_by n a) a h
  where
    soon : (t : ℕ) → nat_le 500 (t - t) ≡ false
    soon t = grind (arith, nat_tests)

    by : (c : Bool) (x : SendAnswer) → is_reached x ≡ false → is_send_due (if c then Over m else state_after x m) m ≡ false
    by true x k = refl
    by false answers.Connected k = absurd (cc)
    by false answers.NotThere k = refl
    by false answers.StillConnecting k = refl
    by false answers.ConnectFailed k = refl
    by false answers.Sent k = refl
    by false answers.SendBusy k = soon m
    by false answers.SendFailed k = refl

-- what is asked of a successor is asked while the server runs
awaited-offers : (x : Offering) (a : SendAnswer) → is_awaited x a ≡ true → is_offering x ≡ true
awaited-offers Nothing a h = absurd (let off = never a in cc)
  where
    never : (b : SendAnswer) → is_awaited Nothing b ≡ false
    never answers.Connected = refl
    never answers.NotThere = refl
    never answers.StillConnecting = refl
    never answers.ConnectFailed = refl
    never answers.Sent = refl
    never answers.SendBusy = refl
    never answers.SendFailed = refl
awaited-offers Unasked a h = refl
awaited-offers Connecting a h = refl
awaited-offers Connected a h = refl
awaited-offers Sending a h = refl
awaited-offers (Absent at) a h = refl
awaited-offers (Delayed at) a h = refl
awaited-offers (Stalled at) a h = refl
awaited-offers (Over at) a h = refl

pub awaited-runs : (core : CoreData) (a : SendAnswer) → is_on core.end ≡ true → is_awaited core.offer.state a ≡ true → (q : Record) → Represents core q
    → core.drain.running ≡ true
awaited-runs core a on may q stands = elim (cases_Bool core.drain.running) [
  | inl runs ↦ runs
  | inr idle ↦ absurd (
      let none : signal_of q ≡ None = sym (drain-of core q stands on).signal_is ∙ (drain-of core q stands on).unsignalled idle in
      let off : has_offer core.plan q ≡ false = rw none refl in
      let there = (offer-of core q stands on).offers_is ∙ awaited-offers core.offer.state a may in
      cc)
]

-- an answer to an ask of the offer
module _ (core : CoreData) (a : SendAnswer) (on : is_on core.end ≡ true) (may : is_awaited core.offer.state a ≡ true) (o : OfferData)
    (after : o ≡ answered a core.drain.moment core.offer)
    (takes : (p : Plan) (r : Record) → core.drain.moment ≡ now r → OfferStands p core.offer r → OfferStands p o (Got (event_of a) ∷ r)) (q : Record)
    (right : Right core.plan q) (stands : Represents core q) where
  answer-offer : OfferStands core.plan o (Got (event_of a) ∷ q)
  answer-offer = takes core.plan q (drain-of core q stands on).moment_is (offer-of core q stands on)

  answer-over : OverIs core.plan (Got (event_of a) ∷ q) (over_since o.state)
  answer-over = over-of core.plan o (Got (event_of a) ∷ q) answer-offer

  not-over : is_some (over_since core.offer.state) ≡ true → over_since o.state ≡ over_since core.offer.state
  not-over h = absurd (let off = awaited-none core.offer.state a may in let no : is_some (over_since core.offer.state) ≡ false = rw off refl in cc)

  answer-drain : DrainStands core.plan core.drain (over_since o.state) (Got (event_of a) ∷ q)
  answer-drain =
      drains.stands-got core.plan core.drain (over_since core.offer.state) (over_since o.state) q (event_of a) (answer-is core.plan a).plain
      (settled-of core q stands on).drain answer-over not-over (drain-of core q stands on)

  answer-free : may_run core.plan core.boot.fork ≡ true
  answer-free = free-of core q (event_of a) stands (fits-answer core q a on may stands) (answer-is core.plan a).fork

  answer-other : is_side_child (Got (event_of a)) ≡ false
  answer-other = no-child (event_of a) (answer-is core.plan a).fork

  -- by which it isn't over
  pub strike-going : (copy : Option Message) → is_some (over_since o.state) ≡ false → (is_send_due o.state core.drain.moment ≡ true → copy ≡ o.message)
      → core.drain.running ≡ true
      → AfterEvent (struck core core.starts core.endpoints core.boot o core.drain) copy (Got (event_of a) ∷ q)
  strike-going copy goes copied runs =
      strike core q (event_of a) core.starts core.endpoints core.boot o core.drain copy [] right stands on
      (fits-answer core q a on may stands) answer-free answer-other (answer-is core.plan a).apart tt
      answer-drain refl answer-offer ((answer-is core.plan a).starts core q stands.starts)
      (stands-got core.plan core.endpoints q (event_of a) (answer-is core.plan a).ends
      (λ fd. held-back-answer core.plan core.offer o q a fd (offer-of core q stands on) answer-offer
      (ap is_some (awaited-none core.offer.state a may) ∙ sym goes)) (ends-of core q stands on))
      (foreign.stands-got core.plan core.boot q (event_of a) (answer-is core.plan a).boot stands.boot) refl refl
      (not-ended core.plan core.boot (Got (event_of a) ∷ q) (on-boot core q stands on))
      (inl ((answer-is core.plan a).started q (all-started core q stands on right runs), undue core q stands on))
      copied

  -- by which it is over
  pub strike-over : (d : EndpointsData) (gave : List Action) → is_some (over_since o.state) ≡ true → is_reached a ≡ false → IsGivingUp gave
      → ((r : Record) (e : Event) → is_endpoints_event e ≡ false → ((fd : ℕ) → is_held_back core.plan (Got e ∷ r) fd ≡ false)
      → EndpointsStand core.plan core.endpoints r → EndpointsStand core.plan d (tell (Got e ∷ r) gave))
      → AfterEvent (struck core core.starts d core.boot o core.drain) None (tell (Got (event_of a) ∷ q) gave)
  strike-over d gave over rests giving ends =
      let may_end : MayEnd core.plan (Got (event_of a) ∷ q) = record {
        unpassed = passed-got core.plan core.drain (over_since core.offer.state) (over_since o.state) q (event_of a) (answer-is core.plan a).plain
            (drain-of core q stands on) (settled-of core q stands on).drain answer-over not-over (settled-of core q stands on).waits;
        asks = over-asks core.plan (Got (event_of a) ∷ q) (answer-offer.over_is ∙ over);
      } in
      strike core q (event_of a) core.starts d core.boot o core.drain None gave right stands on (fits-answer core q a on may stands) answer-free answer-other
      (answer-is core.plan a).apart giving
      answer-drain refl answer-offer ((answer-is core.plan a).starts core q stands.starts)
      (ends q (event_of a) (answer-is core.plan a).ends (released core.plan o (Got (event_of a) ∷ q) answer-offer over) (ends-of core q stands on))
      (foreign.stands-got core.plan core.boot q (event_of a) (answer-is core.plan a).boot stands.boot) refl refl
      (not-ended core.plan core.boot (tell (Got (event_of a) ∷ q) gave) (on-boot core q stands on))
      (inr (may-tell core.plan (now q) (Got (event_of a) ∷ q) gave (giving-loose (now q) gave giving) may_end))
      (λ due. absurd
      (let unsent = ap (λ (x : OfferData). is_send_due x.state core.drain.moment) after ∙ answer-rests core.offer.retries a core.drain.moment rests in cc))
    where
      over-asks : (p : Plan) (r : Record) → is_over p r ≡ true → one_ask p r ≡ true
      over-asks p r h = rw h (by _ _)
        where
          by : (x y : Bool) → (not (x && false) || y) ≡ true
          by x y = grind arith

-- the successor is there
pub strike-connected : (core : CoreData) (o : OfferData) (copy : Option Message) → is_on core.end ≡ true → is_connecting core.offer.state ≡ true
    → o ≡ answered answers.Connected core.drain.moment core.offer
    → ((p : Plan) (r : Record) → core.drain.moment ≡ now r → OfferStands p core.offer r → OfferStands p o (Got events.Connected ∷ r))
    → copy ≡ message_at core events.Connected
    → (q : Record) → Right core.plan q → Represents core q
    → AfterEvent (struck core core.starts core.endpoints core.boot o core.drain) copy (Got events.Connected ∷ q)
strike-connected core o copy on may after takes copied q right stands =
    strike-going core answers.Connected on may o after takes q right stands copy
    (ap (λ (x : OfferData). is_some (over_since x.state)) after)
    (λ due. copy-is core events.Connected copy copied may ∙ sym (ap (λ (x : OfferData). x.message) after))
    (awaited-runs core answers.Connected on may q stands)

-- the offer goes on later
pub strike-rests : (core : CoreData) (a : SendAnswer) → is_on core.end ≡ true → is_awaited core.offer.state a ≡ true → (o : OfferData)
    → o ≡ answered a core.drain.moment core.offer
    → ((p : Plan) (r : Record) → core.drain.moment ≡ now r → OfferStands p core.offer r → OfferStands p o (Got (event_of a) ∷ r))
    → (over : Option ℕ) → over ≡ over_since o.state → is_some over ≡ false → is_reached a ≡ false
    → (q : Record) → Right core.plan q → Represents core q
    → AfterEvent (struck core core.starts core.endpoints core.boot o core.drain) None (Got (event_of a) ∷ q)
strike-rests core a on may o after takes over over_is goes rests q right stands =
    strike-going core a on may o after takes q right stands None
    (none-since over (over_since o.state) over_is goes)
    (λ due. absurd
    (let unsent = ap (λ (x : OfferData). is_send_due x.state core.drain.moment) after ∙ answer-rests core.offer.retries a core.drain.moment rests in cc))
    (awaited-runs core a on may q stands)
  where
    none-since : (x y : Option ℕ) → x ≡ y → is_some x ≡ false → is_some y ≡ false
    none-since (Some at) y e h = absurd (cc)
    none-since None y e h = subst (λ z. is_some z ≡ false) e refl

-- it is over
pub strike-ends : (core : CoreData) (a : SendAnswer) → is_on core.end ≡ true → is_awaited core.offer.state a ≡ true → (o : OfferData)
    → o ≡ answered a core.drain.moment core.offer
    → ((p : Plan) (r : Record) → core.drain.moment ≡ now r → OfferStands p core.offer r → OfferStands p o (Got (event_of a) ∷ r))
    → (d : EndpointsData) (before mid : List Action) (over : Option ℕ) → over ≡ over_since o.state → is_some over ≡ true → is_reached a ≡ false
    → Tells before mid
    (λ told. IsGivingUp told
    × ((r : Record) (e : Event) → is_endpoints_event e ≡ false → ((fd : ℕ) → is_held_back core.plan (Got e ∷ r) fd ≡ false)
    → EndpointsStand core.plan core.endpoints r → EndpointsStand core.plan d (tell (Got e ∷ r) told)))
    → Tells before mid
    (λ told. IsGivingUp told
    × ((q : Record) → Right core.plan q → Represents core q
    → AfterEvent (struck core core.starts d core.boot o core.drain) None (tell (Got (event_of a) ∷ q) told)))
strike-ends core a on may o after takes d before mid over over_is done rests gave = record {
  told = gave.told;
  appended = gave.appended;
  kept = (
    gave.kept.0,
    λ q right stands. strike-over core a on may o after takes q right stands d gave.told
        (some-since over (over_since o.state) over_is done) rests gave.kept.0 gave.kept.1,
  );
}
  where
    some-since : (x y : Option ℕ) → x ≡ y → is_some x ≡ true → is_some y ≡ true
    some-since (Some at) y e h = subst (λ z. is_some z ≡ true) e refl
    some-since None y e h = absurd (cc)

-- an answer that may come is awaited
pub awaited-row : (core : CoreData) (a : SendAnswer) → RowMayCome core (event_of a) → is_awaited core.offer.state a ≡ true
awaited-row core answers.Connected may = may
awaited-row core answers.NotThere may = may
awaited-row core answers.StillConnecting may = may
awaited-row core answers.ConnectFailed may = may
awaited-row core answers.Sent may = may
awaited-row core answers.SendBusy may = may
awaited-row core answers.SendFailed may = may
