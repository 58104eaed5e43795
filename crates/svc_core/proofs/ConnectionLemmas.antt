-- What becomes of a connection leaves the rest of the core as it is.
use Rattle.std.proofs.Common.{ℕ, Bool, true, false, ◌&&◌, ◌||◌, not, ◌==◌, List, [], ◌∷◌, ◌++◌, length, ◌≡◌, refl, ap, sym, ◌∙◌, subst, ◌<◌, MatchBool, if◌then◌else◌}
use Rattle.std.specs.Bool.{OnTrue}
use Rattle.std.specs.List.{list_any, list_all}
use Rattle.std.proofs.lemmas.Bool.{and_parts, and_from, or_from, eqb-true}
use Rattle.std.proofs.lemmas.Bool.Decides.{Decides-ltb}
use Rattle.svc_record.specs.declared.plan.Plan.{Plan}
use Rattle.svc_record.specs.declared.entry.Entry.TheVariants.{Got, Told}
use Rattle.svc_record.specs.declared.action.Action.{Action}
use Rattle.svc_record.specs.declared.action.Action.TheVariants.{Judged, Refuse, Settings as TellSettings, Handshake, Serve, Drop, Rest}
use Rattle.svc_record.specs.declared.event.Event.{Event}
use Rattle.svc_record.specs.declared.event.Event.TheVariants.{Arrived, AcceptFailed, Set, Shaken, Finished}
use Rattle.svc_record.specs.Record.{Record, has, times, now, tell, is_signal, is_running, from_the_start, EachEntry}
use Rattle.svc_record.specs.Asks.{is_settings_open, is_handshake_open}
use Rattle.svc_record.specs.Boot.{runs, has_begun}
use Rattle.svc_record.specs.Connections.{arrived_numbers, is_arrival, is_serve, is_known, is_live_connection, has_filter}
use Rattle.svc_record.specs.Drain.{waits_are_over, moment_right}
use Rattle.svc_base.specs.NumberSets.{ascending}
use Rattle.svc_record.specs.Ends.{has_ended, ends_tested, TestedRight}
use Rattle.svc_record.specs.Endpoints.{EndpointsRight, EndpointsRightLate}
use Rattle.svc_record.specs.Fits.{fits, fits_row, accepts}
use Rattle.svc_record.specs.Plans.{service_count, endpoints, is_endpoint}
use Rattle.svc_record.specs.Right.{Right, OpenRight, EndedRight, in_service}
use Rattle.svc_record.specs.Starts.{StartsRight}
use Rattle.svc_record.proofs.Closing.{arrival-in}
use Rattle.svc_record.proofs.Tallies.{is_in, is_in-same, tally-ascending}
use Rattle.svc_base.specs.declared.settings.Setting.{Setting}
use Rattle.svc_socket.specs.declared.peer.Peer.{Peer}
use Rattle.svc_endpoints.specs.EndpointsState.{IsEndpointsSized}
use Rattle.svc_endpoints.specs.Uses.{accepts_by}
use Rattle.svc_endpoints.proofs.EndedLemmas.{accepts-is}
use Rattle.svc_endpoints.specs.Foreign.{is_endpoints_event, is_endpoints_action}
use Rattle.svc_endpoints.proofs.EventLemmas.{stands-got, stands-tell}
use Rattle.svc_boot.specs.ForkState.{is_parent_over}
use Rattle.svc_boot.specs.BootState.{is_refused}
use Rattle.svc_boot.specs.BootFacts.{IsBootSettled, is_boot_event, is_fork_event, has_no_boot_action}
use Rattle.svc_boot.specs.BootEffects.{end_of, is_early}
use Rattle.svc_boot.proofs.BootEnds.{boot-right}
use Rattle.svc_boot.proofs.Foreign as foreign
use Rattle.svc_offer.specs.OfferState.{IsOfferSettled, over_since}
use Rattle.svc_offer.specs.OfferFacts.{is_offer_event, has_no_offer_action}
use Rattle.svc_offer.proofs.Foreign as offers
use Rattle.svc_offer.proofs.OfferRules.{held-back-got, offer-right, one-ask, forward-fits}
use Rattle.svc_drain.specs.DrainFacts.{is_drain_event, has_no_drain_action}
use Rattle.svc_drain.proofs.Foreign as drains
use Rattle.svc_drain.proofs.Passing.{passed-is, marks-right}
use Rattle.svc_connections.specs.ConnectionsData.{ConnectionsData}
use Rattle.svc_connections.specs.ConnectionsState.{ConnectionsStand, is_setting, is_shaking, is_serving, stage_of}
use Rattle.svc_connections.specs.ConnectionsEffects.{arrived_told, set_told, shaken_told, rest_told}
use Rattle.svc_connections.specs.ConnectionsFacts.{is_connection_event}
use Rattle.svc_connections.proofs.Rests.{finished-row}
use Rattle.svc_core.specs.StartsData.{StartsData}
use Rattle.svc_core.specs.StartsState.{StartsStand, is_flagged}
use Rattle.svc_core.specs.CoreData.{CoreData, is_on}
use Rattle.svc_core.specs.Passes.{Going, is_tested}
use Rattle.svc_core.specs.Stands.{Represents, StepRight, StepKeeps, MayAccept, ArrivedMayCome}
use Rattle.svc_core.proofs.RecordLemmas.{not_true}
use Rattle.svc_core.proofs.StartsLemmas.{is_due-grows}
use Rattle.svc_core.proofs.GoingLemmas.{Base, base-tell, going-from, are_free, begun-frees}
use Rattle.svc_core.proofs.PassLemmas.{are-failed}
use Rattle.svc_core.proofs.OpenLemmas.{right-of, end-same, ended-same, tested-same, served-not}
use Rattle.svc_core.proofs.FinishLemmas.{on-end}
use Rattle.svc_core.proofs.StepLemmas.{free-of, plain-offer, plain-drain, ends-of, connections-of, settled-of, on-boot, end-of-boot, opened, going-on}

-- the action deals with a connection while the run goes on
abbrev pub is_dealing : Action → Bool
is_dealing (Judged c said) = true
is_dealing (Refuse c) = true
is_dealing (TellSettings c list) = true
is_dealing (Handshake c) = true
is_dealing (Serve c) = true
is_dealing (Drop c) = true
is_dealing (Rest s i) = true
is_dealing _ = false

-- the one record says as much of the services, of the signal and of the moments as the other
pub record SaysAsMuch (p : Plan) (q r : Record) : Type 0 where
  pub starts : StartsRight p q → StartsRight p r
  pub endpoints : EndpointsRight p q → EndpointsRight p r
  pub late : EndpointsRightLate p q → EndpointsRightLate p r
  pub running : times is_running r ≡ times is_running q
  pub from_the_start_is : from_the_start r ≡ from_the_start q
  pub signal : has is_signal r ≡ has is_signal q
  pub runs_is : runs p r ≡ runs p q
  pub moments : EachEntry (λ e before. moment_right e before ≡ true) q → EachEntry (λ e before. moment_right e before ≡ true) r

says-told : (p : Plan) (q : Record) (a : Action) → is_dealing a ≡ true → SaysAsMuch p q (Told a ∷ q)
says-told p q (Judged c said) h =
    record {
      starts = λ w. record { each = w.each; in_turn = (refl, w.in_turn) };
      endpoints = λ w s i a b. w s i a b;
      late = λ w s i a b. w s i a b;
      running = refl;
      from_the_start_is = refl;
      signal = refl;
      runs_is = refl;
      moments = λ w. (refl, w);
    }
says-told p q (Refuse c) h =
    record {
      starts = λ w. record { each = w.each; in_turn = (refl, w.in_turn) };
      endpoints = λ w s i a b. w s i a b;
      late = λ w s i a b. w s i a b;
      running = refl;
      from_the_start_is = refl;
      signal = refl;
      runs_is = refl;
      moments = λ w. (refl, w);
    }
says-told p q (TellSettings c list) h =
    record {
      starts = λ w. record { each = w.each; in_turn = (refl, w.in_turn) };
      endpoints = λ w s i a b. w s i a b;
      late = λ w s i a b. w s i a b;
      running = refl;
      from_the_start_is = refl;
      signal = refl;
      runs_is = refl;
      moments = λ w. (refl, w);
    }
says-told p q (Handshake c) h =
    record {
      starts = λ w. record { each = w.each; in_turn = (refl, w.in_turn) };
      endpoints = λ w s i a b. w s i a b;
      late = λ w s i a b. w s i a b;
      running = refl;
      from_the_start_is = refl;
      signal = refl;
      runs_is = refl;
      moments = λ w. (refl, w);
    }
says-told p q (Serve c) h =
    record {
      starts = λ w. record { each = w.each; in_turn = (refl, w.in_turn) };
      endpoints = λ w s i a b. w s i a b;
      late = λ w s i a b. w s i a b;
      running = refl;
      from_the_start_is = refl;
      signal = refl;
      runs_is = refl;
      moments = λ w. (refl, w);
    }
says-told p q (Drop c) h =
    record {
      starts = λ w. record { each = w.each; in_turn = (refl, w.in_turn) };
      endpoints = λ w s i a b. w s i a b;
      late = λ w s i a b. w s i a b;
      running = refl;
      from_the_start_is = refl;
      signal = refl;
      runs_is = refl;
      moments = λ w. (refl, w);
    }
says-told p q (Rest t k) h =
    record {
      starts = λ w. record { each = w.each; in_turn = (refl, w.in_turn) };
      endpoints = λ w s i a b. w s i a b;
      late = λ w s i a b. w s i a b;
      running = refl;
      from_the_start_is = refl;
      signal = refl;
      runs_is = refl;
      moments = λ w. (refl, w);
    }
says-told p q _ h = absurd (cc)

-- what an event of a connection is
record IsOfConnection (p : Plan) (q : Record) (e : Event) : Type 0 where
  drain : is_drain_event e ≡ false
  offer : is_offer_event e ≡ false
  boot : is_boot_event e ≡ false
  fork : is_fork_event e ≡ false
  ends : is_endpoints_event e ≡ false
  starts : (st : StartsData) → StartsStand p st q → StartsStand p st (Got e ∷ q)
  begun : has_begun p (Got e ∷ q) ≡ has_begun p q
  says : SaysAsMuch p q (Got e ∷ q)

of-connection : (p : Plan) (q : Record) (e : Event) → is_connection_event e ≡ true → IsOfConnection p q e
of-connection p q (Arrived t k c peer) h = record {
  drain = refl;
  offer = refl;
  boot = refl;
  fork = refl;
  ends = refl;
  starts = λ st w. record { started_is = w.started_is; ready_is = w.ready_is; ended_is = w.ended_is };
  begun = refl;
  says = record {
    starts = λ w. record { each = w.each; in_turn = (refl, w.in_turn) };
    endpoints = λ w s i a b. w s i a b;
    late = λ w s i a b. w s i a b;
    running = refl;
    from_the_start_is = refl;
    signal = refl;
    runs_is = refl;
    moments = λ w. (refl, w);
  };
}
of-connection p q (AcceptFailed t k n) h = record {
  drain = refl;
  offer = refl;
  boot = refl;
  fork = refl;
  ends = refl;
  starts = λ st w. record { started_is = w.started_is; ready_is = w.ready_is; ended_is = w.ended_is };
  begun = refl;
  says = record {
    starts = λ w. record { each = w.each; in_turn = (refl, w.in_turn) };
    endpoints = λ w s i a b. w s i a b;
    late = λ w s i a b. w s i a b;
    running = refl;
    from_the_start_is = refl;
    signal = refl;
    runs_is = refl;
    moments = λ w. (refl, w);
  };
}
of-connection p q (Set c ok) h = record {
  drain = refl;
  offer = refl;
  boot = refl;
  fork = refl;
  ends = refl;
  starts = λ st w. record { started_is = w.started_is; ready_is = w.ready_is; ended_is = w.ended_is };
  begun = refl;
  says = record {
    starts = λ w. record { each = w.each; in_turn = (refl, w.in_turn) };
    endpoints = λ w s i a b. w s i a b;
    late = λ w s i a b. w s i a b;
    running = refl;
    from_the_start_is = refl;
    signal = refl;
    runs_is = refl;
    moments = λ w. (refl, w);
  };
}
of-connection p q (Shaken c ok) h = record {
  drain = refl;
  offer = refl;
  boot = refl;
  fork = refl;
  ends = refl;
  starts = λ st w. record { started_is = w.started_is; ready_is = w.ready_is; ended_is = w.ended_is };
  begun = refl;
  says = record {
    starts = λ w. record { each = w.each; in_turn = (refl, w.in_turn) };
    endpoints = λ w s i a b. w s i a b;
    late = λ w s i a b. w s i a b;
    running = refl;
    from_the_start_is = refl;
    signal = refl;
    runs_is = refl;
    moments = λ w. (refl, w);
  };
}
of-connection p q (Finished c) h = record {
  drain = refl;
  offer = refl;
  boot = refl;
  fork = refl;
  ends = refl;
  starts = λ st w. record { started_is = w.started_is; ready_is = w.ready_is; ended_is = w.ended_is };
  begun = refl;
  says = record {
    starts = λ w. record { each = w.each; in_turn = (refl, w.in_turn) };
    endpoints = λ w s i a b. w s i a b;
    late = λ w s i a b. w s i a b;
    running = refl;
    from_the_start_is = refl;
    signal = refl;
    runs_is = refl;
    moments = λ w. (refl, w);
  };
}
of-connection p q _ h = absurd (cc)

-- one after the other
says-then : (p : Plan) (a b c : Record) → SaysAsMuch p a b → SaysAsMuch p b c → SaysAsMuch p a c
says-then p a b c first next = record {
  starts = λ w. next.starts (first.starts w);
  endpoints = λ w. next.endpoints (first.endpoints w);
  late = λ w. next.late (first.late w);
  running = next.running ∙ first.running;
  from_the_start_is = next.from_the_start_is ∙ first.from_the_start_is;
  signal = next.signal ∙ first.signal;
  runs_is = next.runs_is ∙ first.runs_is;
  moments = λ w. next.moments (first.moments w);
}

says-tell : (p : Plan) (q : Record) (told : List Action) → list_all is_dealing told ≡ true → SaysAsMuch p q (tell q told)
says-tell p q [] h =
    record { starts = λ w. w; endpoints = λ w. w; late = λ w. w; running = refl; from_the_start_is = refl; signal = refl; runs_is = refl; moments = λ w. w }
says-tell p q (a ∷ told) h = let both = and_parts (is_dealing a) (list_all is_dealing told) h in
    says-then p q (Told a ∷ q) (tell q (a ∷ told)) (says-told p q a both.0) (says-tell p (Told a ∷ q) told both.1)

-- such actions belong to no other part
record IsApart (m : ℕ) (told : List Action) : Type 0 where
  free : are_free m told ≡ true
  drain : has_no_drain_action told ≡ true
  offer : has_no_offer_action told ≡ true
  boot : has_no_boot_action told ≡ true
  ends : list_any is_endpoints_action told ≡ false

deals-apart : (m : ℕ) (told : List Action) → list_all is_dealing told ≡ true → IsApart m told
deals-apart m [] h = record { free = refl; drain = refl; offer = refl; boot = refl; ends = refl }
deals-apart m (Judged c said ∷ told) h =
    let w = deals-apart m told h in record { free = w.free; drain = w.drain; offer = w.offer; boot = w.boot; ends = w.ends }
deals-apart m (Refuse c ∷ told) h = let w = deals-apart m told h in record { free = w.free; drain = w.drain; offer = w.offer; boot = w.boot; ends = w.ends }
deals-apart m (TellSettings c list ∷ told) h =
    let w = deals-apart m told h in record { free = w.free; drain = w.drain; offer = w.offer; boot = w.boot; ends = w.ends }
deals-apart m (Handshake c ∷ told) h = let w = deals-apart m told h in record { free = w.free; drain = w.drain; offer = w.offer; boot = w.boot; ends = w.ends }
deals-apart m (Serve c ∷ told) h = let w = deals-apart m told h in record { free = w.free; drain = w.drain; offer = w.offer; boot = w.boot; ends = w.ends }
deals-apart m (Drop c ∷ told) h = let w = deals-apart m told h in record { free = w.free; drain = w.drain; offer = w.offer; boot = w.boot; ends = w.ends }
deals-apart m (Rest t k ∷ told) h = let w = deals-apart m told h in record { free = w.free; drain = w.drain; offer = w.offer; boot = w.boot; ends = w.ends }
deals-apart m (_ ∷ told) h = absurd (cc)

carried : (b c : Bool) (A B : Type 0) → c ≡ b → (A → B) → OnTrue b A → OnTrue c B
carried true true A B e f x = f x
carried false false A B e f x = tt
carried true false A B e f x = absurd (cc)
carried false true A B e f x = absurd (cc)

-- the core with other connections
abbrev pub with_connections : ConnectionsData → CoreData → CoreData
with_connections cn core = record core { connections = cn }

-- an event of a connection, and what is told of it
module _ (core : CoreData) (cn : ConnectionsData) (e : Event) (told : List Action) (on : is_on core.end ≡ true) (event : is_connection_event e ≡ true)
    (deals : list_all is_dealing told ≡ true)
    (q : Record) (right : Right core.plan q) (stands : Represents core q) (fit : fits core.plan q e ≡ true)
    (connections : ConnectionsStand core.plan cn (tell (Got e ∷ q) told)) where
  abbrev p : Plan
  p = core.plan

  abbrev dealt : Record
  dealt = tell (Got e ∷ q) told

  is : IsOfConnection core.plan q e
  is = of-connection core.plan q e event

  apart : IsApart (now (Got e ∷ q)) told
  apart = deals-apart (now (Got e ∷ q)) told deals

  says : SaysAsMuch core.plan q (tell (Got e ∷ q) told)
  says = says-then core.plan q (Got e ∷ q) (tell (Got e ∷ q) told) is.says (says-tell core.plan (Got e ∷ q) told deals)

  was : OpenRight core.plan q
  was = opened core q stands on right

  base : Base core.plan core.starts (Got e ∷ q)
  base = record {
    starts = is.starts core.starts stands.starts;
    entries = record {
      fits = (fit, right.fits);
      starts = (refl, right.starts);
      after_boot = (refl, stands.after_boot);
      moments = (refl, right.stronger.moments);
      known_starts = (refl, right.stronger.known_starts);
    };
    started_due = λ s lt here. is_due-grows core.plan q (Got e) s (stands.started_due s lt here);
    no_end = was.no_end;
    earlier = right.settled;
    fails = right.asks.fails;
    asks = right.stronger.one_ask;
  }

  going : Going core.plan core.starts core.endpoints core.boot core.offer core.drain cn (tell (Got e ∷ q) told)
  going = going-from core.plan core.starts core.endpoints core.boot core.offer core.drain cn (tell (Got e ∷ q) told)
      (record {
        base = base-tell core.plan core.starts (Got e ∷ q) told apart.free base;
        drain = drains.stands-tell core.plan core.drain (over_since core.offer.state) (Got e ∷ q) told apart.drain
            (plain-drain core q e right stands on fit is.drain is.offer);
        offer = offers.stands-tell core.plan core.offer (Got e ∷ q) told apart.offer (plain-offer core q e right stands on fit is.drain is.offer);
        connections = connections;
      })
      (stands-tell core.plan core.endpoints told (Got e ∷ q) apart.ends
      (stands-got core.plan core.endpoints q e is.ends (λ fd. held-back-got core.plan q e fd is.offer) (ends-of core q stands on)))
      (foreign.stands-tell core.plan core.boot (Got e ∷ q) told apart.boot (free-of core q e stands fit is.fork)
      (foreign.stands-got core.plan core.boot q e is.boot stands.boot))
      (begun-frees core.plan (Got e ∷ q) (now (Got e ∷ q)) told apart.free ∙ is.begun ∙ stands.begun_is)
      stands.runs

  live : (is_tested core.plan core.boot ≡ false) × (is_refused core.boot.receiving ≡ false) × (is_parent_over core.boot.fork ≡ false)
  live = on-end core.plan core.boot (on-boot core q stands on)

  running : times is_running (tell (Got e ∷ q) told) ≡ (if runs core.plan (tell (Got e ∷ q) told) then 1 else 0)
  running = says.running ∙ was-running (and-last _ _ (and_parts _ _ was.boot.entries).1) ∙ ap (λ b. if b then 1 else 0) (sym says.runs_is)
    where
      was-running : (times is_running q == (if runs core.plan q then 1 else 0)) ≡ true → times is_running q ≡ (if runs core.plan q then 1 else 0)
      was-running h = eqb-true (times is_running q) (if runs core.plan q then 1 else 0) h

      and-last : (a b : Bool) → (a && b) ≡ true → b ≡ true
      and-last a b h = (and_parts a b h).1

  dealt-open : OpenRight core.plan (tell (Got e ∷ q) told)
  dealt-open =
      let settled = settled-of core q stands on in
      record {
        boot = boot-right core.plan core.boot dealt going.boot going.begun_is
            (subst (IsBootSettled core.plan core.boot) going.drain.moment_is settled.boot) running going.entries.after_boot;
        offer = offer-right core.plan core.offer dealt going.offer (subst (IsOfferSettled core.offer) going.drain.moment_is settled.offer);
        connections = going.connections.right;
        closes = going.ends.closes;
        one_live = going.ends.one_live;
        starts = carried (from_the_start q) (from_the_start dealt) (StartsRight core.plan q)
            (StartsRight core.plan dealt) says.from_the_start_is says.starts was.starts;
        endpoints = carried (in_service q) (in_service dealt) (EndpointsRight core.plan q)
            (EndpointsRight core.plan dealt) in-service says.endpoints was.endpoints;
        endpoints_late =
            carried (from_the_start q) (from_the_start dealt) (EndpointsRightLate core.plan q)
            (EndpointsRightLate core.plan dealt) says.from_the_start_is says.late was.endpoints_late;
        phases = marks-right core.plan core.drain (over_since core.offer.state) dealt settled.waits settled.drain going.drain;
        moments = says.moments was.moments;
        no_end = going.no_end;
      }
    where
      in-service : in_service (tell (Got e ∷ q) told) ≡ in_service q
      in-service = ap (λ b. b && not (has is_signal (tell (Got e ∷ q) told))) says.from_the_start_is ∙ ap (λ b. from_the_start q && not b) says.signal

  pub dealt-right : StepRight (with_connections cn core) (tell (Got e ∷ q) told) core.end
  dealt-right =
      let settled = settled-of core q stands on in
      let unpassed : waits_are_over core.plan dealt ≡ false =
      passed-is core.plan core.drain (over_since core.offer.state) dealt going.drain settled.drain ∙ settled.waits in
      let end : core.end ≡ end_of core.plan core.boot = stands.end_is ∙ end-of-boot core q stands on in
      record {
        stands = record {
          drain = λ x. going.drain;
          offer = λ x. going.offer;
          starts = going.starts;
          boot = going.boot;
          endpoints = λ x. going.ends;
          failed = are-failed core.plan core.endpoints dealt going.ends;
          came = going.ends.came_are;
          closed = λ x. absurd (let unserved = served-not core.plan core.boot core.end end in cc);
          connections = λ x. going.connections;
          uncut = λ x. absurd (let unserved = served-not core.plan core.boot core.end end in cc);
          after_boot = going.entries.after_boot;
          started_due = going.started_due;
          begun_is = going.begun_is;
          runs = going.runs;
          settled = λ x. record { boot = settled.boot; drain = settled.drain; offer = settled.offer; waits = settled.waits };
          end_is = end ∙ sym (end-same core.plan core.starts core.endpoints core.boot core.offer core.drain cn dealt going unpassed);
        };
        right = right-of core.plan core.starts core.endpoints core.boot core.offer core.drain cn dealt going unpassed
            (one-ask core.plan core.offer dealt going.offer (subst (IsOfferSettled core.offer) going.drain.moment_is settled.offer)
            (forward-fits core.plan dealt going.entries.fits))
            (while-open (has_ended core.plan dealt) (EndedRight core.plan dealt) (OpenRight core.plan dealt)
            (ended-same core.plan core.starts core.endpoints core.boot core.offer core.drain cn dealt going unpassed
            ∙ or_from (is_tested core.plan core.boot) (is_early core.boot) live.0
            (or_from (is_parent_over core.boot.fork) (is_refused core.boot.receiving) live.2 live.1)) dealt-open)
            (not_true (ends_tested core.plan dealt) (TestedRight core.plan dealt)
            (tested-same core.plan core.starts core.endpoints core.boot core.offer core.drain cn dealt going ∙ live.0));
        answer = end ∙ sym (end-same core.plan core.starts core.endpoints core.boot core.offer core.drain cn dealt going unpassed);
      }
    where
      while-open : (c : Bool) (A B : Type 0) → c ≡ false → B → MatchBool c A B
      while-open true A B x h = absurd (cc)
      while-open false A B x h = h

-- a step of such an event
pub deals-with : (core : CoreData) (cn : ConnectionsData) (e : Event) (before after told : List Action) → is_on core.end ≡ true → is_connection_event e ≡ true
    → list_all is_dealing told ≡ true → after ≡ before ++ told
    → ((q : Record) → Represents core q → fits core.plan q e ≡ true)
    → ((q : Record) → ConnectionsStand core.plan core.connections q → ConnectionsStand core.plan cn (tell (Got e ∷ q) told))
    → StepKeeps core (with_connections cn core) e before after core.end
deals-with core cn e before after told on event deals appended fit takes = record {
  told = told;
  appended = appended;
  kept = λ q right stands. dealt-right core cn e told on event deals q right stands (fit q stands) (takes q (connections-of core q stands on));
}

-- which connections may come, by the parts
module _ (core : CoreData) (q : Record) (s i : ℕ) (sized : IsEndpointsSized core.plan core.endpoints) (on : is_on core.end ≡ true)
    (stands : Represents core q) where
  pub accepts-same : s < service_count core.plan → accepts_by core.plan core.endpoints (is_flagged core.starts.started s) s i ≡ accepts core.plan q s i
  accepts-same inside =
      accepts-is core.plan core.endpoints q sized s (is_flagged core.starts.started s) inside (stands.starts.started_is s inside) (ends-of core q stands on) i

  accepts-row : MayAccept core s i → accepts core.plan q s i ≡ true
  accepts-row may = sym (accepts-same may.inside) ∙ may.goes_on

pub arrived-is : (core : CoreData) (q : Record) (c : ℕ) → is_on core.end ≡ true → Represents core q → has (is_arrival c) q ≡ is_in c core.connections.came
arrived-is core q c on stands =
    arrival-in c q ∙ is_in-same c (arrived_numbers q) (ascending (arrived_numbers q)) (sym (tally-ascending c (arrived_numbers q)))
    ∙ ap (is_in c) (sym (connections-of core q stands on).came_is)

pub fits-accept : (core : CoreData) (q : Record) (s i n : ℕ) → IsEndpointsSized core.plan core.endpoints → is_on core.end ≡ true → Represents core q
    → MayAccept core s i → fits core.plan q (AcceptFailed s i n) ≡ true
fits-accept core q s i n sized on stands may =
    and_from (not (has_ended core.plan q)) (accepts core.plan q s i) (going-on core q stands on) (accepts-row core q s i sized on stands may)

pub fits-arrived : (core : CoreData) (q : Record) (s i c : ℕ) (peer : Peer) → IsEndpointsSized core.plan core.endpoints → is_on core.end ≡ true
    → Represents core q → ArrivedMayCome core s i c → fits core.plan q (Arrived s i c peer) ≡ true
fits-arrived core q s i c peer sized on stands may =
    and_from (not (has_ended core.plan q)) (fits_row core.plan q (Arrived s i c peer)) (going-on core q stands on)
    (and_from (accepts core.plan q s i) (not (has (is_arrival c) q)) (accepts-row core q s i sized on stands may.accepts)
    (ap not (arrived-is core q c on stands) ∙ may.fresh))

pub fits-set : (core : CoreData) (q : Record) (c : ℕ) (ok : Bool) → is_on core.end ≡ true → Represents core q
    → is_setting (stage_of core.connections.live c) ≡ true → fits core.plan q (Set c ok) ≡ true
fits-set core q c ok on stands may =
    and_from (not (has_ended core.plan q)) (is_settings_open q c) (going-on core q stands on)
    (((connections-of core q stands on).stages_are c).setting_is ∙ may)

pub fits-shaken : (core : CoreData) (q : Record) (c : ℕ) (ok : Bool) → is_on core.end ≡ true → Represents core q
    → is_shaking (stage_of core.connections.live c) ≡ true → fits core.plan q (Shaken c ok) ≡ true
fits-shaken core q c ok on stands may =
    and_from (not (has_ended core.plan q)) (is_handshake_open q c) (going-on core q stands on)
    (((connections-of core q stands on).stages_are c).shaking_is ∙ may)

pub fits-finished : (core : CoreData) (q : Record) (c : ℕ) → is_on core.end ≡ true → Represents core q → is_serving (stage_of core.connections.live c) ≡ true
    → fits core.plan q (Finished c) ≡ true
fits-finished core q c on stands may =
    and_from (not (has_ended core.plan q)) (has (is_serve c) q && is_live_connection q c) (going-on core q stands on)
    (finished-row core.plan core.connections q c (connections-of core q stands on) ∙ may)

pub endpoint-there : (core : CoreData) (s i : ℕ) → MayAccept core s i → is_endpoint core.plan s i ≡ true
endpoint-there core s i may = (Decides-ltb i (length (endpoints core.plan s))).1 may.within

-- what connections tell deals with them
pub arrived-deals : (c : ℕ) (peer : Peer) (said : Bool) (list : List Setting) → list_all is_dealing (arrived_told c peer said list) ≡ true
arrived-deals c peer said list = by (is_known peer) said
  where
    by : (known well : Bool)
        → list_all is_dealing ((if known then Judged c well ∷ [] else []) ++ (if known && not well then Refuse c ∷ [] else TellSettings c list ∷ [])) ≡ true
    by true true = refl
    by true false = refl
    by false well = refl

pub set-deals : (c : ℕ) (ok : Bool) → list_all is_dealing (set_told c ok) ≡ true
set-deals c true = refl
set-deals c false = refl

pub shaken-deals : (c : ℕ) (ok : Bool) → list_all is_dealing (shaken_told c ok) ≡ true
shaken-deals c true = refl
shaken-deals c false = refl

pub rest-deals : (s i n : ℕ) → list_all is_dealing (rest_told s i n) ≡ true
rest-deals s i n = by (n == 24)
  where
    by : (full : Bool) → list_all is_dealing (if full then Rest s i ∷ [] else []) ≡ true
    by true = refl
    by false = refl

-- an endpoint without a filter takes every peer
pub filterless : (p : Plan) (s i : ℕ) (said verdict : Bool) → verdict ≡ (said || not (has_filter p s i)) → has_filter p s i ≡ false → verdict ≡ true
filterless p s i said verdict e none = e ∙ ap (λ b. said || not b) none ∙ or-true said
  where
    or-true : (b : Bool) → (b || true) ≡ true
    or-true true = refl
    or-true false = refl
