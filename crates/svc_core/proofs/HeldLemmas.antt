-- While the fork is awaited, and in a parent: nothing is told but the fork, and what came says how the run goes on.
use Rattle.std.proofs.Common.{ℕ, Bool, true, false, ◌||◌, ◌&&◌, not, inl, inr, List, [], ◌∷◌, ◌++◌, ◌≡◌, refl, ap, sym, ◌∙◌, subst, arith, ◌≤◌, if◌then◌else◌, append-nil}
use Rattle.std.specs.Prelude.{Option, None, ◌-◌, ◌/◌, nat_le}
use Rattle.std.specs.Bool.{OnTrue}
use Rattle.std.proofs.lemmas.Bool.{and_from, or_right, cases_Bool}
use Rattle.svc_record.specs.declared.plan.Plan.{Plan}
use Rattle.svc_record.specs.declared.entry.Entry.TheVariants.{Got, Told}
use Rattle.svc_record.specs.declared.action.Action.{Action}
use Rattle.svc_record.specs.declared.action.Action.TheVariants.{Daemonize}
use Rattle.svc_record.specs.declared.action.StepEnd.{StepEnd}
use Rattle.svc_record.specs.declared.event.Event.{Event}
use Rattle.svc_record.specs.declared.event.Event.TheVariants.{Moment, Side as Forked, ChildReady, ChildGone, DropFailed}
use Rattle.svc_record.specs.declared.event.Side.{Side}
use Rattle.svc_record.specs.declared.event.Side.TheVariants as sides
use Rattle.svc_record.specs.Plans.{services}
use Rattle.svc_record.specs.Record.{Record, now, last_step, signal_of}
use Rattle.svc_record.specs.Asks.{is_daemonize_open}
use Rattle.svc_record.specs.Boot.{has_begun, is_side_child}
use Rattle.svc_record.specs.Ends.{has_ended, ends_tested, has_ended_early, TestedRight, is_parent_failure}
use Rattle.svc_record.specs.Fits.{fits, fits_row, parent_waits}
use Rattle.svc_record.specs.Right.{Right}
use Rattle.svc_record.specs.Validity.{IsInOrder}
use Rattle.svc_endpoints.proofs.EventLemmas.{stands-got, stands-told}
use Rattle.svc_boot.specs.declared.fork.Fork.{Fork}
use Rattle.svc_boot.specs.declared.fork.Fork.TheVariants.{Unforked, Asked, Child, Waiting, Over}
use Rattle.svc_boot.specs.declared.receiving.Receiving.{Receiving}
use Rattle.svc_boot.specs.BootData.{BootData}
use Rattle.svc_boot.specs.ForkState.{ForkStands, is_forked, is_asked, is_child, is_waiting, is_parent_over, may_run}
use Rattle.svc_boot.specs.BootState.{BootStands}
use Rattle.svc_boot.specs.BootEffects.{end_of, early_end, forked, side_taken, waited}
use Rattle.svc_boot.specs.BootFacts.{is_fork_event}
use Rattle.svc_boot.proofs.BootEnds.{tested-is, waits-is, unbegun-is}
use Rattle.svc_boot.proofs.Begun.{begun-child}
use Rattle.svc_boot.proofs.Settled.{forked-waited}
use Rattle.svc_boot.proofs.FreeLemmas.{held-settled, held-end}
use Rattle.svc_offer.specs.declared.offering.Offering.{Offering}
use Rattle.svc_offer.specs.declared.offering.Offering.TheVariants.{Nothing, Unasked, Connecting, Connected, Sending, Absent, Delayed, Stalled, Over as OverOffer}
use Rattle.svc_offer.specs.OfferData.{OfferData}
use Rattle.svc_offer.specs.OfferState.{OfferStands, IsOfferSettled, over_since, is_offering, is_connect_due, is_send_due}
use Rattle.svc_offer.specs.OfferFacts.{is_offer_event}
use Rattle.svc_offer.proofs.Foreign as offers
use Rattle.svc_offer.proofs.OfferRules.{held-back-got}
use Rattle.svc_drain.specs.declared.stage.Stage.{Stage}
use Rattle.svc_drain.specs.declared.stage.Stage.TheVariants.{Running, Offering as OfferStage, CloseTimeout, Grace, Terminating, CutShort}
use Rattle.svc_drain.specs.DrainData.{DrainData}
use Rattle.svc_drain.specs.DrainState.{DrainStands, IsDrainSettled, stage_fits, is_told_far, passes, passes_at}
use Rattle.svc_drain.specs.DrainEffects.{at_moment}
use Rattle.svc_drain.specs.DrainFacts.{is_drain_event}
use Rattle.svc_drain.proofs.Foreign as drains
use Rattle.svc_connections.specs.ConnectionsFacts.{is_connection_event}
use Rattle.svc_connections.proofs.Foreign as sockets
use Rattle.svc_endpoints.specs.Foreign.{is_endpoints_event}
use Rattle.svc_core.specs.StartsData.{StartsData}
use Rattle.svc_core.specs.StartsState.{StartsStand}
use Rattle.svc_core.specs.CoreData.{CoreData, is_on, with_end}
use Rattle.svc_core.specs.Passes.{Going, is_tested, may_start}
use Rattle.svc_core.specs.Stands.{HasNotBegun, MayBootstrap, Bootstraps, Represents, Answered, EndedSo, StepRight, StepKeeps, BeginKeeps, RowMayCome}
use Rattle.svc_core.proofs.RecordLemmas.{not_true}
use Rattle.svc_core.proofs.GoingLemmas.{Loose, base-told, going-from}
use Rattle.svc_core.proofs.OpenLemmas.{step-on, step-ended}
use Rattle.svc_core.proofs.FinishLemmas.{with_boot, on-by}
use Rattle.svc_core.proofs.StepLemmas.{struck, got-loose, begun-got, fits-moment, drain-of, offer-of, ends-of, settled-of, going-on, plain-drain, plain-offer, plain-may}
use Rattle.svc_core.proofs.SignalLemmas.{silent-may}
use Rattle.svc_core.proofs.BeginLemmas.{none-started}

-- no fork is awaited where the process is the child; it isn't free otherwise in a daemon
awaits-by : (daemon child : Bool) → daemon ≡ true → child ≡ false → (not daemon || child) ≡ false
awaits-by daemon child is none = grind arith

daemon-by : (daemon child : Bool) → (not daemon || child) ≡ false → daemon ≡ true
daemon-by daemon child awaits = grind arith

pub awaits-is : (p : Plan) (f : Fork) (q : Record) → ForkStands p f q → is_forked f ≡ true → is_child f ≡ false → may_run p f ≡ false
awaits-is p f q stand forks none = awaits-by p.daemon (is_child f) (stand.daemon_is forks) none

-- where no signal came, nothing follows one
idle-stage : (x : Stage) (offers : Bool) (over : Option ℕ) (t : ℕ) → stage_fits x None offers over ≡ true → is_told_far x None over t ≡ true
idle-stage Running offers over t fits = refl
idle-stage OfferStage offers over t fits = absurd (cc)
idle-stage CloseTimeout offers over t fits = absurd (cc)
idle-stage (Grace at) offers over t fits = absurd (cc)
idle-stage Terminating offers over t fits = absurd (cc)
idle-stage (CutShort started) offers over t fits = absurd (cc)

idle-passes : (p : Plan) (x : Stage) (offers : Bool) (over : Option ℕ) (t : ℕ) → stage_fits x None offers over ≡ true → passes_at p x t ≡ false
idle-passes p Running offers over t fits = refl
idle-passes p OfferStage offers over t fits = refl
idle-passes p CloseTimeout offers over t fits = refl
idle-passes p (Grace at) offers over t fits = absurd (cc)
idle-passes p Terminating offers over t fits = absurd (cc)
idle-passes p (CutShort started) offers over t fits = absurd (cc)

-- before the server runs no signal came
module _ (p : Plan) (dr : DrainData) (over : Option ℕ) (q : Record) (stand : DrainStands p dr over q) (idle : dr.running ≡ false) where
  idle-fits : stage_fits dr.stage None dr.offers over ≡ true
  idle-fits = ap (λ s. stage_fits dr.stage s dr.offers over) (sym (stand.unsignalled idle)) ∙ stand.fits

  idle-settled : IsDrainSettled dr over
  idle-settled = ap (λ s. is_told_far dr.stage s over dr.moment) (stand.unsignalled idle) ∙ idle-stage dr.stage dr.offers over dr.moment idle-fits

  idle-waits : passes p dr ≡ false
  idle-waits = idle-passes p dr.stage dr.offers over dr.moment idle-fits

  idle-silent : signal_of q ≡ None
  idle-silent = sym stand.signal_is ∙ stand.unsignalled idle

-- and nothing is offered
no-offer : (x : Offering) (t : ℕ) → is_offering x ≡ false → (is_connect_due x t ≡ false) × (is_send_due x t ≡ false)
no-offer Nothing t h = (refl, refl)
no-offer Unasked t h = absurd (cc)
no-offer Connecting t h = absurd (cc)
no-offer Connected t h = absurd (cc)
no-offer Sending t h = absurd (cc)
no-offer (Absent at) t h = absurd (cc)
no-offer (Delayed at) t h = absurd (cc)
no-offer (Stalled at) t h = absurd (cc)
no-offer (OverOffer at) t h = absurd (cc)

idle-offer : (p : Plan) (o : OfferData) (q : Record) (t : ℕ) → OfferStands p o q → signal_of q ≡ None → IsOfferSettled o t
idle-offer p o q t stand silent =
    let none = no-offer o.state t (sym stand.offers_is ∙ rw silent refl) in
    record { no_connect = none.0; no_send = none.1 }

-- the parts of a core that awaits its fork, or of a parent, stand for q, and a parent that ends told nothing in this step
pub record Held (core : CoreData) (q : Record) : Type 0 where
  pub going : Going core.plan core.starts core.endpoints core.boot core.offer core.drain core.connections q
  pub awaits : may_run core.plan core.boot.fork ≡ false
  pub forks : is_forked core.boot.fork ≡ true
  pub idle : core.drain.running ≡ false
  pub silent : is_parent_over core.boot.fork ≡ true → last_step q ≡ []

over-off : (f : Fork) (x : Receiving) → is_parent_over f ≡ true → is_on (early_end f x) ≡ false
over-off (Over status) x h = refl
over-off Unforked x h = absurd (cc)
over-off Asked x h = absurd (cc)
over-off Child x h = absurd (cc)
over-off (Waiting at) x h = absurd (cc)

and_none : (a b : Bool) → b ≡ false → (a && b) ≡ false
and_none a b h = grind arith

first_none : (a b : Bool) → a ≡ false → (a && b) ≡ false
first_none a b h = grind arith

-- it is right, whether the run goes on or the parent ends
module _ (core : CoreData) (q : Record) (in_order : IsInOrder core.plan core.order) (held : Held core q) where
  untested : is_tested core.plan core.boot ≡ false
  untested = and_none core.plan.test core.boot.begun (unbegun-is core.plan core.boot q held.going.boot held.awaits)

  waits : may_start core.plan core.boot ≡ false
  waits = first_none (may_run core.plan core.boot.fork) (not core.plan.eager || core.boot.complete) held.awaits

  no-signal : signal_of q ≡ None
  no-signal = idle-silent core.plan core.drain (over_since core.offer.state) q held.going.drain held.idle

  held-on : is_parent_over core.boot.fork ≡ false → Answered (with_end (end_of core.plan core.boot) core) q
  held-on alive =
      let settled = held-settled core.plan core.boot q held.going.boot held.awaits held.forks alive core.drain.moment in
      record {
        going = held.going;
        settled = settled;
        untested = untested;
        visited = not_true (may_start core.plan core.boot) _ waits;
        runs_now = held.idle ∙ sym waits;
        on = on-by core.plan core.boot untested settled.goes_on alive;
        end_is = refl;
        drain = idle-settled core.plan core.drain (over_since core.offer.state) q held.going.drain held.idle;
        offer = idle-offer core.plan core.offer q core.drain.moment held.going.offer no-signal;
      }

  held-over : is_parent_over core.boot.fork ≡ true → EndedSo core.plan q
  held-over over = record {
    ended = record {
      early = always (has_ended_early core.plan q) (last_step q ≡ []) (held.silent over);
      tested = not_true (ends_tested core.plan q) _ (tested-is core.plan core.boot q held.going.boot ∙ untested);
    };
    tested = not_true (ends_tested core.plan q) (TestedRight core.plan q) (tested-is core.plan core.boot q held.going.boot ∙ untested);
    may_end = silent-may core.plan q no-signal;
  }
    where
      always : (c : Bool) (A : Type 0) → A → OnTrue c A
      always true A a = a
      always false A a = tt

  pub held-right : StepRight (with_end (end_of core.plan core.boot) core) q (end_of core.plan core.boot)
  held-right = elim (cases_Bool (is_parent_over core.boot.fork)) [
    | inl ends ↦ step-ended (with_end (end_of core.plan core.boot) core) q held.going
        (ap is_on (held-end core.plan core.boot q held.going.boot held.awaits) ∙ over-off core.boot.fork core.boot.receiving ends) refl (held-over ends)
    | inr alive ↦ step-on (with_end (end_of core.plan core.boot) core) q in_order (held-on alive)
        (idle-waits core.plan core.drain (over_since core.offer.state) q held.going.drain held.idle)
  ]

-- the first step of a daemon: the fork is asked for
module _ (core : CoreData) (first : HasNotBegun core) (daemon : core.plan.daemon ≡ true)
    (stands : BootStands core.plan (forked Asked core.boot) (Told Daemonize ∷ [])) where
  asked-loose : Loose core.plan core.starts core.offer core.drain core.connections (Told Daemonize ∷ [])
  asked-loose = record {
    base = base-told core.plan core.starts [] Daemonize refl (record {
      starts = first.starts;
      entries = record { fits = tt; starts = tt; after_boot = tt; moments = tt; known_starts = tt };
      started_due = λ s lt here. absurd (cc);
      no_end = refl;
      earlier = tt;
      fails = tt;
      asks = tt;
    });
    drain = drains.stands-told core.plan core.drain (over_since core.offer.state) [] Daemonize refl
        (subst (λ over. DrainStands core.plan core.drain over []) (sym first.unoffered) first.drain);
    offer = offers.stands-told core.plan core.offer [] Daemonize refl first.offer;
    connections = sockets.stands-told core.plan core.connections [] Daemonize refl first.connections;
  }

  asked-begun : has_begun core.plan (Told Daemonize ∷ []) ≡ false
  asked-begun = rw (daemon, none-started core.plan (services core.plan)) (none_by core.plan.eager)
    where
      none_by : (eager : Bool) → ((eager && false) || false) ≡ false
      none_by eager = grind arith

  asked-held : Held (with_boot (forked Asked core.boot) core) (Told Daemonize ∷ [])
  asked-held = record {
    going = going-from core.plan core.starts core.endpoints (forked Asked core.boot) core.offer core.drain core.connections (Told Daemonize ∷ []) asked-loose
        (stands-told core.plan core.endpoints [] Daemonize refl first.ends) stands (asked-begun ∙ sym first.unbegun)
        (λ r. absurd (let idle = first.idle in cc));
    awaits = awaits-by core.plan.daemon false daemon refl;
    forks = refl;
    idle = first.idle;
    silent = λ over. absurd (cc);
  }

pub begin-daemon : (core : CoreData) (b : BootData) (before after : List Action) → IsInOrder core.plan core.order → HasNotBegun core → core.plan.daemon ≡ true
    → b ≡ forked Asked core.boot → after ≡ before ++ Daemonize ∷ []
    → ((p : Plan) → p.daemon ≡ true → BootStands p core.boot [] → BootStands p b (Told Daemonize ∷ []))
    → BeginKeeps (with_end (end_of core.plan b) (with_boot b core)) before after (end_of core.plan b)
begin-daemon core b before after in_order first daemon boots told stands = record {
  told = Daemonize ∷ [];
  appended = told;
  kept = held-right (with_boot b core) (Told Daemonize ∷ []) in_order
      (rw boots (asked-held core first daemon (rw boots at (stands core.plan daemon first.boot))));
}

-- what an event of the fork is
record IsForkEvent (p : Plan) (q : Record) (e : Event) : Type 0 where
  apart : is_connection_event e ≡ false
  offer : is_offer_event e ≡ false
  ends : is_endpoints_event e ≡ false
  starts : (st : StartsData) → StartsStand p st q → StartsStand p st (Got e ∷ q)
  silent : last_step (Got e ∷ q) ≡ []

of-fork : (p : Plan) (q : Record) (e : Event) → is_fork_event e ≡ true → IsForkEvent p q e
of-fork p q (Moment ms) h =
    record {
      apart = refl;
      offer = refl;
      ends = refl;
      starts = λ st w. record { started_is = w.started_is; ready_is = w.ready_is; ended_is = w.ended_is };
      silent = refl;
    }
of-fork p q (Forked side) h =
    record {
      apart = refl;
      offer = refl;
      ends = refl;
      starts = λ st w. record { started_is = w.started_is; ready_is = w.ready_is; ended_is = w.ended_is };
      silent = refl;
    }
of-fork p q ChildReady h =
    record {
      apart = refl;
      offer = refl;
      ends = refl;
      starts = λ st w. record { started_is = w.started_is; ready_is = w.ready_is; ended_is = w.ended_is };
      silent = refl;
    }
of-fork p q ChildGone h =
    record {
      apart = refl;
      offer = refl;
      ends = refl;
      starts = λ st w. record { started_is = w.started_is; ready_is = w.ready_is; ended_is = w.ended_is };
      silent = refl;
    }
of-fork p q DropFailed h =
    record {
      apart = refl;
      offer = refl;
      ends = refl;
      starts = λ st w. record { started_is = w.started_is; ready_is = w.ready_is; ended_is = w.ended_is };
      silent = refl;
    }
of-fork p q _ h = absurd (cc)

-- a core that is held doesn't run
held-idle : (core : CoreData) (q : Record) → Represents core q → may_run core.plan core.boot.fork ≡ false → core.drain.running ≡ false
held-idle core q stands awaits = elim (cases_Bool core.drain.running) [
  | inl runs ↦
      absurd (let may = stands.runs runs in let off = first_none (may_run core.plan core.boot.fork) (not core.plan.eager || core.boot.complete) awaits in cc)
  | inr idle ↦ idle
]

-- an event of the fork, after which nothing is told
module _ (core : CoreData) (q : Record) (e : Event) (b : BootData) (dr : DrainData) (right : Right core.plan q) (stands : Represents core q)
    (on : is_on core.end ≡ true) (fit : fits core.plan q e ≡ true)
    (event : is_fork_event e ≡ true) (other : is_side_child (Got e) ≡ false) (was_held : may_run core.plan core.boot.fork ≡ false)
    (drain : DrainStands core.plan dr (over_since core.offer.state) (Got e ∷ q)) (running : dr.running ≡ core.drain.running)
    (boot : BootStands core.plan b (Got e ∷ q)) (begun : b.begun ≡ core.boot.begun) (forks : is_forked b.fork ≡ true) (none : is_child b.fork ≡ false) where
  is : IsForkEvent core.plan q e
  is = of-fork core.plan q e event

  still : dr.running ≡ false
  still = running ∙ held-idle core q stands was_held

  event-held : Held (struck core core.starts core.endpoints b core.offer dr) (Got e ∷ q)
  event-held = record {
    going = going-from core.plan core.starts core.endpoints b core.offer dr core.connections (Got e ∷ q)
        (got-loose core q e core.starts core.offer dr right stands on fit is.apart drain
        (offers.stands-got core.plan core.offer q e is.offer (offer-of core q stands on)) (is.starts core.starts stands.starts))
        (stands-got core.plan core.endpoints q e is.ends (λ fd. held-back-got core.plan q e fd is.offer) (ends-of core q stands on)) boot
        (begun-got core.plan q e other ∙ stands.begun_is ∙ sym begun) (λ r. absurd (let off = still in cc));
    awaits = awaits-is core.plan b.fork (Got e ∷ q) boot.fork forks none;
    forks = forks;
    idle = still;
    silent = λ over. is.silent;
  }

pub held-keeps : (core mid : CoreData) (e : Event) (before : List Action) → IsInOrder mid.plan mid.order
    → ((q : Record) → Right core.plan q → Represents core q → Held mid (Got e ∷ q))
    → StepKeeps core (with_end (end_of mid.plan mid.boot) mid) e before before (end_of mid.plan mid.boot)
held-keeps core mid e before in_order held = record {
  told = [];
  appended = sym (append-nil before);
  kept = λ q right stands. held-right mid (Got e ∷ q) in_order (held q right stands);
}

-- the states of a fork
asked-forked : (f : Fork) → is_asked f ≡ true → is_forked f ≡ true
asked-forked Asked h = refl
asked-forked Unforked h = absurd (cc)
asked-forked Child h = refl
asked-forked (Waiting at) h = refl
asked-forked (Over status) h = refl

asked-none : (f : Fork) → is_asked f ≡ true → is_child f ≡ false
asked-none Child h = absurd (cc)
asked-none Asked h = refl
asked-none Unforked h = refl
asked-none (Waiting at) h = refl
asked-none (Over status) h = refl

waiting-forked : (f : Fork) → is_waiting f ≡ true → is_forked f ≡ true
waiting-forked Unforked h = absurd (cc)
waiting-forked Asked h = refl
waiting-forked Child h = refl
waiting-forked (Waiting at) h = refl
waiting-forked (Over status) h = refl

waiting-none : (f : Fork) → is_waiting f ≡ true → is_child f ≡ false
waiting-none Child h = absurd (cc)
waiting-none Asked h = refl
waiting-none Unforked h = refl
waiting-none (Waiting at) h = refl
waiting-none (Over status) h = refl

parent-forked : (wait : Bool) (m : ℕ) → is_forked (side_taken wait sides.Parent m) ≡ true
parent-forked true m = refl
parent-forked false m = refl

parent-none : (wait : Bool) (m : ℕ) → is_child (side_taken wait sides.Parent m) ≡ false
parent-none true m = refl
parent-none false m = refl

waited-none : (limit m : ℕ) (f : Fork) → is_child f ≡ false → is_child (waited limit m f) ≡ false
waited-none limit m Unforked h = refl
waited-none limit m Asked h = refl
waited-none limit m Child h = h
waited-none limit m (Waiting at) h = either (nat_le limit ((m - at) / 1000))
  where
    either : (late : Bool) → is_child (if late then Over 1 else Waiting at) ≡ false
    either true = refl
    either false = refl
waited-none limit m (Over status) h = refl

-- what the core tests, fits
pub fits-side : (core : CoreData) (q : Record) (side : Side) → is_on core.end ≡ true → is_asked core.boot.fork ≡ true → Represents core q
    → fits core.plan q (Forked side) ≡ true
fits-side core q side on may stands = and_from (not (has_ended core.plan q)) (is_daemonize_open q) (going-on core q stands on) (stands.boot.fork.asked_is ∙ may)

pub parent-same : (core : CoreData) (q : Record) → is_on core.end ≡ true → Represents core q → parent_waits core.plan q ≡ is_waiting core.boot.fork
parent-same core q on stands = waits-is core.plan core.boot q stands.boot (settled-of core q stands on).boot.no_parent_over

pub fits-parent : (core : CoreData) (q : Record) (e : Event) → fits_row core.plan q e ≡ parent_waits core.plan q → is_on core.end ≡ true
    → is_waiting core.boot.fork ≡ true → Represents core q → fits core.plan q e ≡ true
fits-parent core q e row on may stands =
    and_from (not (has_ended core.plan q)) (fits_row core.plan q e) (going-on core q stands on) (row ∙ parent-same core q on stands ∙ may)

-- the process is the parent
pub parent-held : (core : CoreData) (b : BootData) → is_on core.end ≡ true → is_asked core.boot.fork ≡ true
    → b ≡ forked (side_taken core.plan.wait sides.Parent core.drain.moment) core.boot
    → ((q : Record) → core.drain.moment ≡ now q → BootStands core.plan core.boot q → BootStands core.plan b (Got (Forked sides.Parent) ∷ q))
    → (q : Record) → Right core.plan q → Represents core q
    → Held (struck core core.starts core.endpoints b core.offer core.drain) (Got (Forked sides.Parent) ∷ q)
parent-held core b on may after boots q right stands =
    let fit = fits-side core q sides.Parent on may stands in
    event-held core q (Forked sides.Parent) b core.drain right stands on fit refl refl
    (awaits-is core.plan core.boot.fork q stands.boot.fork (asked-forked core.boot.fork may) (asked-none core.boot.fork may))
    (plain-drain core q (Forked sides.Parent) right stands on fit refl refl) refl
    (boots q (drain-of core q stands on).moment_is stands.boot) (ap (λ (x : BootData). x.begun) after)
    (ap (λ (x : BootData). is_forked x.fork) after ∙ parent-forked core.plan.wait core.drain.moment)
    (ap (λ (x : BootData). is_child x.fork) after ∙ parent-none core.plan.wait core.drain.moment)

-- what comes to a parent that waits, and ends it
pub ends-held : (core : CoreData) (e : Event) (b : BootData) (status : ℕ) → is_fork_event e ≡ true → is_side_child (Got e) ≡ false → is_drain_event e ≡ false
    → ((q : Record) → fits_row core.plan q e ≡ parent_waits core.plan q)
    → is_on core.end ≡ true → is_waiting core.boot.fork ≡ true → b ≡ forked (Over status) core.boot
    → ((q : Record) → BootStands core.plan core.boot q → BootStands core.plan b (Got e ∷ q))
    → (q : Record) → Right core.plan q → Represents core q → Held (struck core core.starts core.endpoints b core.offer core.drain) (Got e ∷ q)
ends-held core e b status event other plain row on may after boots q right stands =
    let fit = fits-parent core q e (row q) on may stands in
    event-held core q e b core.drain right stands on fit event other
    (awaits-is core.plan core.boot.fork q stands.boot.fork (waiting-forked core.boot.fork may) (waiting-none core.boot.fork may))
    (plain-drain core q e right stands on fit plain (of-fork core.plan q e event).offer) refl
    (boots q stands.boot) (ap (λ (x : BootData). x.begun) after)
    (ap (λ (x : BootData). is_forked x.fork) after) (ap (λ (x : BootData). is_child x.fork) after)

-- the two failures
pub record IsFailure (p : Plan) (e : Event) : Type 0 where
  pub event : is_fork_event e ≡ true
  pub other : is_side_child (Got e) ≡ false
  pub plain : is_drain_event e ≡ false
  pub row : (q : Record) → fits_row p q e ≡ parent_waits p q

pub failure-is : (p : Plan) (e : Event) → is_parent_failure (Got e) ≡ true → IsFailure p e
failure-is p ChildGone h = record { event = refl; other = refl; plain = refl; row = λ q. refl }
failure-is p DropFailed h = record { event = refl; other = refl; plain = refl; row = λ q. refl }
failure-is p _ h = absurd (cc)

-- a moment that nothing follows
pub waiting-held : (core : CoreData) (ms : ℕ) (b : BootData) (dr : DrainData) → is_on core.end ≡ true → may_run core.plan core.boot.fork ≡ false
    → core.drain.moment ≤ ms → dr ≡ at_moment ms core.drain
    → ((p : Plan) (over : Option ℕ) (q : Record) → IsDrainSettled core.drain over → DrainStands p core.drain over q
    → DrainStands p dr over (Got (Moment ms) ∷ q))
    → b ≡ forked (waited core.plan.ready_timeout ms core.boot.fork) core.boot
    → ((q : Record) → is_parent_over core.boot.fork ≡ false → BootStands core.plan core.boot q → BootStands core.plan b (Got (Moment ms) ∷ q))
    → (q : Record) → Right core.plan q → Represents core q → Held (struck core core.starts core.endpoints b core.offer dr) (Got (Moment ms) ∷ q)
waiting-held core ms b dr on awaits may moved drain after boots q right stands =
    let settled = (settled-of core q stands on).boot in
    event-held core q (Moment ms) b dr right stands on (fits-moment core q ms on may stands) refl refl awaits
    (drain core.plan (over_since core.offer.state) q (settled-of core q stands on).drain (drain-of core q stands on)) (ap (λ (x : DrainData). x.running) moved)
    (boots q settled.no_parent_over stands.boot) (ap (λ (x : BootData). x.begun) after)
    (ap (λ (x : BootData). is_forked x.fork) after ∙ forked-waited core.plan.ready_timeout ms core.boot.fork ∙ settled.forked_is
    ∙ daemon-by core.plan.daemon (is_child core.boot.fork) awaits)
    (ap (λ (x : BootData). is_child x.fork) after
    ∙ waited-none core.plan.ready_timeout ms core.boot.fork (child-by core.plan.daemon (is_child core.boot.fork) awaits))
  where
    child-by : (daemon child : Bool) → (not daemon || child) ≡ false → child ≡ false
    child-by daemon child h = grind arith

-- the process is the child, and a server's run may begin
pub child-may : (core : CoreData) (b : BootData) → is_on core.end ≡ true → is_asked core.boot.fork ≡ true → b ≡ forked Child core.boot
    → ((q : Record) → core.drain.moment ≡ now q → BootStands core.plan core.boot q → BootStands core.plan b (Got (Forked sides.Child) ∷ q))
    → (q : Record) → Right core.plan q → Represents core q
    → MayBootstrap (struck core core.starts core.endpoints b core.offer core.drain) (Got (Forked sides.Child) ∷ q)
child-may core b on may after boots q right stands =
    let fit = fits-side core q sides.Child on may stands in
    let awaits = awaits-is core.plan core.boot.fork q stands.boot.fork (asked-forked core.boot.fork may) (asked-none core.boot.fork may) in
    let unbegun = unbegun-is core.plan core.boot q stands.boot awaits in
    let is = of-fork core.plan q (Forked sides.Child) refl in
    let loose = got-loose core q (Forked sides.Child) core.starts core.offer core.drain right stands on fit is.apart
    (plain-drain core q (Forked sides.Child) right stands on fit refl refl)
    (plain-offer core q (Forked sides.Child) right stands on fit refl refl) (is.starts core.starts stands.starts) in
    record {
      drain = loose.drain;
      offer = loose.offer;
      connections = loose.connections;
      starts = loose.base.starts;
      ends = stands-got core.plan core.endpoints q (Forked sides.Child) refl (λ fd. held-back-got core.plan q (Forked sides.Child) fd refl)
          (ends-of core q stands on);
      boot = boots q (drain-of core q stands on).moment_is stands.boot;
      entries = loose.base.entries;
      started_due = loose.base.started_due;
      no_end = loose.base.no_end;
      earlier = loose.base.earlier;
      fails = loose.base.fails;
      asks = loose.base.asks;
      free = ap (λ (x : BootData). may_run core.plan x.fork) after ∙ or_right (not core.plan.daemon) true refl;
      begins = begun-child core.plan q ∙ begins_by core.plan.eager (has_begun core.plan q) (stands.begun_is ∙ unbegun);
      unbegun = ap (λ (x : BootData). x.begun) after ∙ unbegun;
      idle = held-idle core q stands awaits;
      silent = refl;
      may_end = plain-may core q (Forked sides.Child) right stands on fit refl refl;
      unasked = (settled-of core q stands on).offer.no_send;
    }
  where
    begins_by : (eager begun : Bool) → begun ≡ false → (eager || begun) ≡ eager
    begins_by eager begun h = grind arith

pub child-keeps : (core mid new : CoreData) (before after : List Action) (end : StepEnd)
    → ((q : Record) → Right core.plan q → Represents core q → MayBootstrap mid (Got (Forked sides.Child) ∷ q))
    → Bootstraps mid new before after end → StepKeeps core new (Forked sides.Child) before after end
child-keeps core mid new before after end may bootstraps = record {
  told = bootstraps.told;
  appended = bootstraps.appended;
  kept = λ q right stands. bootstraps.kept (Got (Forked sides.Child) ∷ q) (may q right stands);
}

-- a parent's failure comes to one that waits
pub failure-row : (core : CoreData) (e : Event) → is_parent_failure (Got e) ≡ true → RowMayCome core e → is_waiting core.boot.fork ≡ true
failure-row core ChildGone failure may = may
failure-row core DropFailed failure may = may
failure-row core _ failure may = absurd (cc)
