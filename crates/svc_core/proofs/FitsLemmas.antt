-- The core's own test of an event is the record's.
use Rattle.std.proofs.Common.{ℕ, zero, suc, Bool, true, false, ◌&&◌, ◌==◌, not, ◌⊎◌, inl, inr, List, [], ◌∷◌, ◌≡◌, refl, sym, ◌∙◌, subst, arith, ◌<◌, ◌≤◌, length, slice_get, None, nat_lt, nat_le, ap, ◌||◌, if◌then◌else◌}
use Rattle.std.proofs.lemmas.Bool.{leb-true, and_parts, and_from, or_left, eqb-true, cases_Bool, false_from_ne_true}
use Rattle.std.proofs.lemmas.Bool.Decides.{Decides-ltb}
use Rattle.svc_graph.specs.declared.plan.EndpointPlan.{EndpointPlan}
use Rattle.svc_graph.specs.declared.plan.Kind.TheVariants.{Plain, Notifying}
use Rattle.svc_record.specs.declared.plan.Plan.{Plan}
use Rattle.svc_record.specs.declared.plan.ServicePlan.{ServicePlan}
use Rattle.svc_record.specs.declared.entry.Entry.{Entry}
use Rattle.svc_record.specs.declared.entry.Entry.TheVariants.{Got, Told}
use Rattle.svc_record.specs.declared.action.Action.TheVariants.{Bind, Adopt}
use Rattle.svc_record.specs.declared.event.Event.{Event}
use Rattle.svc_record.specs.declared.event.Event.TheVariants.{Moment, Ready, Ended, Bound, Received, Arrived, AcceptFailed, Set, Shaken, Finished, LoopEnded, Signal, Side as SideCame}
use Rattle.svc_record.specs.declared.event.ShutdownSignal.{ShutdownSignal}
use Rattle.svc_record.specs.declared.event.Side.{Side}
use Rattle.svc_socket.specs.declared.peer.Peer.{Peer}
use Rattle.svc_record.specs.Plans.{service_count, service, endpoints, is_endpoint, has_kind}
use Rattle.svc_record.specs.Record.{Record, has, now, from_the_start, EachEntry}
use Rattle.svc_record.specs.AskRules.{ask_known}
use Rattle.svc_record.specs.Asks.{is_open, is_daemonize_open, is_settings_open, is_handshake_open, is_bind, is_bind_answer, is_bind_open, is_adopt, is_adopt_answer, is_adopt_open, is_try_open, is_connect_open, is_send_open}
use Rattle.svc_record.specs.Descriptors.{brings}
use Rattle.svc_record.specs.declared.action.StepEnd.{StepEnd}
use Rattle.svc_record.specs.declared.action.StepEnd.TheVariants.{On, Served, Tested, Parent, Ended as EndedBy}
use Rattle.svc_record.specs.declared.action.BootstrapError.TheVariants.{Transfer, NoSender, BadMessage}
use Rattle.svc_record.specs.Drain.{waits_are_over}
use Rattle.svc_record.specs.Ends.{has_ended, step_end, ends_tested, ends_parent_well, ends_parent_badly, ends_transfer, ends_no_sender, ends_bad_message}
use Rattle.svc_record.specs.Closes.{is_broadcast, is_loop_end, have_loops_ended}
use Rattle.svc_record.specs.Connections.{is_arrival, is_serve, is_live_connection}
use Rattle.svc_record.specs.Endpoints.{serves}
use Rattle.svc_record.specs.Fits.{Fits, fits, fits_row, is_new, are_new, may_end, accepts, parent_waits}
use Rattle.svc_record.specs.Starts.{is_started, is_ready_event, is_ended_event}
use Rattle.svc_endpoints.specs.EndpointsState.{IsEndpointsSized}
use Rattle.svc_boot.specs.ForkState.{is_asked, is_waiting}
use Rattle.svc_boot.specs.BootState.{is_trying}
use Rattle.svc_offer.specs.OfferState.{is_connecting, is_sending}
use Rattle.svc_connections.specs.ConnectionsState.{is_setting, is_shaking, is_serving, stage_of}
use Rattle.svc_connections.proofs.Rests.{finished-row}
use Rattle.svc_core.specs.CoreData.{CoreData, is_on}
use Rattle.svc_core.specs.Stands.{Represents, MayAccept, ArrivedMayCome, ReadyMayCome, EndedMayCome, BindMayBeAnswered, BoundMayCome, AdoptMayBeAnswered, LoopMayEnd, ReceivedMayCome}
use Rattle.svc_core.proofs.StepLemmas.{fits-loop, loop-same, broadcast-told, fits-moment, fits-ready, fits-ended, fits-bound, fits-bind, fits-adopt, fits-try, fits-received, fresh, new-is, ends-of, uncut-of, drain-of, offer-of, connections-of, going-on, running-is}
use Rattle.svc_core.proofs.SignalLemmas.{fits-connect, fits-send}
use Rattle.svc_core.proofs.HeldLemmas.{fits-side, fits-parent, parent-same}
use Rattle.svc_core.proofs.ConnectionLemmas.{accepts-same, arrived-is, fits-accept, fits-arrived, fits-set, fits-shaken, fits-finished}
use Rattle.svc_base.proofs.Logic.{apart_from as not_not}

get-cases : (xs : List ServicePlan) (s : ℕ) → (slice_get xs s ≡ None) ⊎ (s < length xs)
get-cases [] s = inl refl
get-cases (x ∷ xs) zero = inr (omega arith)
get-cases (x ∷ xs) (suc s) = elim (get-cases xs s) [ inl none ↦ inl none | inr lt ↦ inr (omega arith) ]

no-service : (p : Plan) (s i : ℕ) → service p s ≡ None → is_endpoint p s i ≡ false
no-service p s i e =
    let none : endpoints p s ≡ [] = rw e refl in
    subst (λ (xs : List EndpointPlan). nat_lt i (length xs) ≡ false) (sym none)
    (false_from_ne_true (nat_lt i 0) (λ h. let below = (Decides-ltb i 0).0 h in absurd (omega arith)))

endpoint-inside : (p : Plan) (s i : ℕ) → is_endpoint p s i ≡ true → s < service_count p
endpoint-inside p s i h = elim (get-cases p.services s) [
  | inl none ↦ (let none_here = no-service p s i none in absurd (cc))
  | inr lt ↦ lt
]

not_and : (a b : Bool) → (a && not b) ≡ true → b ≡ false
not_and a b h = grind arith

-- what has a kind is a service
kind-inside : (p : Plan) (s : ℕ) → (has_kind p Notifying s || has_kind p Plain s) ≡ true → s < service_count p
kind-inside p s h = elim (get-cases p.services s) [
  | inl none ↦ absurd (let neither : (has_kind p Notifying s || has_kind p Plain s) ≡ false = rw none refl in cc)
  | inr lt ↦ lt
]

-- what was asked for is an endpoint of the plan
same_endpoint : (p : Plan) (s i t j : ℕ) → (t == s && j == i) ≡ true → is_endpoint p t j ≡ true → is_endpoint p s i ≡ true
same_endpoint p s i t j same h =
    let parts = and_parts (t == s) (j == i) same in
    subst (λ u. is_endpoint p u i ≡ true) (eqb-true t s parts.0) (subst (λ k. is_endpoint p t k ≡ true) (eqb-true j i parts.1) h)

bind-here : (p : Plan) (s i : ℕ) (e : Entry) (q : Record) → is_bind s i e ≡ true → ask_known p e q ≡ true → is_endpoint p s i ≡ true
bind-here p s i (Told (Bind t j)) q here known = same_endpoint p s i t j here known
bind-here p s i (Told _) q here known = absurd (cc)
bind-here p s i (Got e) q here known = absurd (cc)

adopt-here : (p : Plan) (s i : ℕ) (e : Entry) (q : Record) → is_adopt s i e ≡ true → ask_known p e q ≡ true → is_endpoint p s i ≡ true
adopt-here p s i (Told (Adopt t j fd)) q here known = same_endpoint p s i t j here known
adopt-here p s i (Told _) q here known = absurd (cc)
adopt-here p s i (Got e) q here known = absurd (cc)

-- an ask that is open was told
open-known : (p : Plan) (ask answer : Entry → Bool) (s i : ℕ) → ((e : Entry) (b : Record) → ask e ≡ true → ask_known p e b ≡ true → is_endpoint p s i ≡ true)
    → (q : Record) → EachEntry (λ e before. ask_known p e before ≡ true) q → is_open ask answer q ≡ true → is_endpoint p s i ≡ true
open-known p ask answer s i f [] k h = absurd (cc)
open-known p ask answer s i f (e ∷ q) k h = elim (cases_Bool (ask e)) [
  | inl here ↦ f e q here k.0
  | inr other ↦ elim (cases_Bool (answer e)) [
    | inl closed ↦ absurd (let never : false ≡ true = rw (other, closed) at h in cc)
    | inr on ↦ open-known p ask answer s i f q k.1 (rw (other, on) at h)
  ]
]

-- the core's test of binds, of adoptions and of messages
module _ (core : CoreData) (q : Record) (on : is_on core.end ≡ true) (stands : Represents core q) where
  module _ (s i : ℕ) where
    bind-means : is_bind_open q s i ≡ true → BindMayBeAnswered core s i
    bind-means asked =
        let known = open-known core.plan (is_bind s i) (is_bind_answer s i) s i (bind-here core.plan s i) q (ends-of core q stands on).asks_known asked in
        let inside = endpoint-inside core.plan s i known in
        let within = (Decides-ltb i (length (endpoints core.plan s))).0 known in
        record { inside = inside; within = within; asked = ((ends-of core q stands on).states.each s i inside within).binding_is ∙ asked }

    adopt-means : is_adopt_open q s i ≡ true → AdoptMayBeAnswered core s i
    adopt-means asked =
        let known = open-known core.plan (is_adopt s i) (is_adopt_answer s i) s i (adopt-here core.plan s i) q (ends-of core q stands on).asks_known asked in
        let inside = endpoint-inside core.plan s i known in
        let within = (Decides-ltb i (length (endpoints core.plan s))).0 known in
        record { inside = inside; within = within; asked = ((ends-of core q stands on).states.each s i inside within).adopting_is ∙ asked }

    pub bound-fits : (fd : ℕ) → (BoundMayCome core s i fd → Fits core.plan q (Bound s i fd)) × (Fits core.plan q (Bound s i fd) → BoundMayCome core s i fd)
    bound-fits fd = (
      λ may. fits-bound core q s i fd on may stands,
      λ fit. (
          let row = (and_parts (not (has_ended core.plan q)) (is_bind_open q s i && is_new q fd) fit).1 in
          record {
            asked = bind-means (and_parts (is_bind_open q s i) (is_new q fd) row).0;
            fresh = sym (fresh core q fd stands) ∙ not_and (is_bind_open q s i) (has (brings fd) q) row;
          }),
    )

    -- an answer to a bind, and to an adoption
    pub bind-fits : (BindMayBeAnswered core s i → (not (has_ended core.plan q) && is_bind_open q s i) ≡ true)
        × ((not (has_ended core.plan q) && is_bind_open q s i) ≡ true → BindMayBeAnswered core s i)
    bind-fits = ((λ may. fits-bind core q s i on may stands), (λ fit. bind-means (and_parts (not (has_ended core.plan q)) (is_bind_open q s i) fit).1))

    pub adopt-fits : (AdoptMayBeAnswered core s i → (not (has_ended core.plan q) && is_adopt_open q s i) ≡ true)
        × ((not (has_ended core.plan q) && is_adopt_open q s i) ≡ true → AdoptMayBeAnswered core s i)
    adopt-fits = ((λ may. fits-adopt core q s i on may stands), (λ fit. adopt-means (and_parts (not (has_ended core.plan q)) (is_adopt_open q s i) fit).1))

  -- an answer to a try
  pub try-fits : (is_trying core.boot.receiving ≡ true → (not (has_ended core.plan q) && is_try_open q) ≡ true)
      × ((not (has_ended core.plan q) && is_try_open q) ≡ true → is_trying core.boot.receiving ≡ true)
  try-fits = (
    (λ may. fits-try core q on may stands),
    (λ fit. sym stands.boot.receiving.trying_is ∙ (and_parts (not (has_ended core.plan q)) (is_try_open q) fit).1),
  )

  pub received-fits : (bytes fds : List ℕ)
      → (ReceivedMayCome core fds → Fits core.plan q (Received bytes fds)) × (Fits core.plan q (Received bytes fds) → ReceivedMayCome core fds)
  received-fits bytes fds = (
    λ may. fits-received core q bytes fds on may stands,
    λ fit. (
        let row = (and_parts (not (has_ended core.plan q)) (fits_row core.plan q (Received bytes fds)) fit).1 in
        let both = and_parts (is_try_open q && nat_le (length fds) 32) (are_new q fds) row in
        let first = and_parts (is_try_open q) (nat_le (length fds) 32) both.0 in
        record {
          trying = sym stands.boot.receiving.trying_is ∙ first.0;
          few = leb-true (length fds) 32 first.1;
          fresh = sym (new-is core q fds stands) ∙ both.1;
        }),
  )

  pub moment-fits : (ms : ℕ) → (core.drain.moment ≤ ms → Fits core.plan q (Moment ms)) × (Fits core.plan q (Moment ms) → core.drain.moment ≤ ms)
  moment-fits ms = (
    λ may. fits-moment core q ms on may stands,
    λ fit. subst (λ m. m ≤ ms) (sym (drain-of core q stands on).moment_is)
        (leb-true (now q) ms (and_parts (not (has_ended core.plan q)) (nat_le (now q) ms) fit).1),
  )

  pub kind-fits : (kind : ShutdownSignal)
      → (core.drain.running ≡ true → Fits core.plan q (Signal kind)) × (Fits core.plan q (Signal kind) → core.drain.running ≡ true)
  kind-fits kind = (
    λ may. and_from (not (has_ended core.plan q)) (from_the_start q) (going-on core q stands on) (running-is core q stands on ∙ may),
    λ fit. sym (running-is core q stands on) ∙ (and_parts (not (has_ended core.plan q)) (from_the_start q) fit).1,
  )

  -- the end of a loop
  pub loop-fits : IsEndpointsSized core.plan core.endpoints → (s i j : ℕ)
      → (LoopMayEnd core s i j → Fits core.plan q (LoopEnded s i j)) × (Fits core.plan q (LoopEnded s i j) → LoopMayEnd core s i j)
  loop-fits sized s i j = (
    λ may. fits-loop core q s i j sized on stands may,
    λ fit. (
        let row = (and_parts (not (has_ended core.plan q)) (fits_row core.plan q (LoopEnded s i j)) fit).1 in
        let both = and_parts ((has is_broadcast q && serves core.plan q s) && is_endpoint core.plan s i)
        (nat_lt j core.plan.tasks && not (has (is_loop_end s i j) q)) row in
        let first = and_parts (has is_broadcast q && serves core.plan q s) (is_endpoint core.plan s i) both.0 in
        let lead = and_parts (has is_broadcast q) (serves core.plan q s) first.0 in
        let inside = endpoint-inside core.plan s i first.1 in
        record {
          told = sym (broadcast-told core q s i j sized on stands) ∙ lead.0;
          inside = inside;
          goes_on = loop-same core q s i j sized on stands inside
              ∙ and_from (serves core.plan q s && is_endpoint core.plan s i) (nat_lt j core.plan.tasks && not (has (is_loop_end s i j) q))
              (and_from (serves core.plan q s) (is_endpoint core.plan s i) lead.1 first.1) both.1;
        }),
  )

  -- an answer to a connect, and to a send
  pub connect-fits : (is_connecting core.offer.state ≡ true → (not (has_ended core.plan q) && is_connect_open q) ≡ true)
      × ((not (has_ended core.plan q) && is_connect_open q) ≡ true → is_connecting core.offer.state ≡ true)
  connect-fits = (
    (λ may. fits-connect core q on may stands),
    (λ fit. sym ((offer-of core q stands on).connecting_is (uncut-of core q stands on))
        ∙ (and_parts (not (has_ended core.plan q)) (is_connect_open q) fit).1),
  )

  pub send-fits : (is_sending core.offer.state ≡ true → (not (has_ended core.plan q) && is_send_open q) ≡ true)
      × ((not (has_ended core.plan q) && is_send_open q) ≡ true → is_sending core.offer.state ≡ true)
  send-fits = (
    (λ may. fits-send core q on may stands),
    (λ fit. sym ((offer-of core q stands on).sending_is (uncut-of core q stands on)) ∙ (and_parts (not (has_ended core.plan q)) (is_send_open q) fit).1),
  )

  pub ready-fits : (s : ℕ) → (ReadyMayCome core s → Fits core.plan q (Ready s)) × (Fits core.plan q (Ready s) → ReadyMayCome core s)
  ready-fits s = (
    λ may. fits-ready core q s on may stands,
    λ fit. (
        let row = (and_parts (not (has_ended core.plan q)) (fits_row core.plan q (Ready s)) fit).1 in
        let both = and_parts (has_kind core.plan Notifying s && is_started q s) (not (has (is_ready_event s) q)) row in
        let first = and_parts (has_kind core.plan Notifying s) (is_started q s) both.0 in
        let inside = kind-inside core.plan s (or_left (has_kind core.plan Notifying s) (has_kind core.plan Plain s) first.0) in
        record {
          inside = inside;
          notifies = first.0;
          started = stands.starts.started_is s inside ∙ first.1;
          first = stands.starts.ready_is s inside ∙ not_not (has (is_ready_event s) q) both.1;
        }),
  )

  pub ended-fits : (s : ℕ) → (EndedMayCome core s → Fits core.plan q (Ended s)) × (Fits core.plan q (Ended s) → EndedMayCome core s)
  ended-fits s = (
    λ may. fits-ended core q s on may stands,
    λ fit. (
        let row = (and_parts (not (has_ended core.plan q)) (fits_row core.plan q (Ended s)) fit).1 in
        let both = and_parts (may_end core.plan s && is_started q s) (not (has (is_ended_event s) q)) row in
        let first = and_parts (may_end core.plan s) (is_started q s) both.0 in
        let inside =
        kind-inside core.plan s (either (has_kind core.plan Plain s) (has_kind core.plan Notifying s) (length (endpoints core.plan s) == 0) first.0) in
        record {
          inside = inside;
          ends = first.0;
          started = stands.starts.started_is s inside ∙ first.1;
          first = stands.starts.ended_is s inside ∙ not_not (has (is_ended_event s) q) both.1;
        }),
  )
    where
      either : (a b c : Bool) → ((a || b) && c) ≡ true → (b || a) ≡ true
      either a b c h = grind arith

-- an arrival and a failed accept, by the parts
module _ (core : CoreData) (q : Record) (on : is_on core.end ≡ true) (stands : Represents core q) (sized : IsEndpointsSized core.plan core.endpoints) where
  accept-means : (s i : ℕ) → accepts core.plan q s i ≡ true → MayAccept core s i
  accept-means s i h =
      let both = and_parts (serves core.plan q s && is_endpoint core.plan s i) (not (have_loops_ended core.plan q s i)) h in
      let known = (and_parts (serves core.plan q s) (is_endpoint core.plan s i) both.0).1 in
      let inside = endpoint-inside core.plan s i known in
      record {
        inside = inside;
        within = (Decides-ltb i (length (endpoints core.plan s))).0 known;
        goes_on = accepts-same core q s i sized on stands inside
            ∙ h;
      }

  pub accept-fits : (s i n : ℕ) → (MayAccept core s i → Fits core.plan q (AcceptFailed s i n)) × (Fits core.plan q (AcceptFailed s i n) → MayAccept core s i)
  accept-fits s i n = (
    λ may. fits-accept core q s i n sized on stands may,
    λ fit. accept-means s i (and_parts (not (has_ended core.plan q)) (accepts core.plan q s i) fit).1,
  )

  pub arrived-fits : (s i c : ℕ) (peer : Peer)
      → (ArrivedMayCome core s i c → Fits core.plan q (Arrived s i c peer)) × (Fits core.plan q (Arrived s i c peer) → ArrivedMayCome core s i c)
  arrived-fits s i c peer = (
    λ may. fits-arrived core q s i c peer sized on stands may,
    λ fit. (
        let row = (and_parts (not (has_ended core.plan q)) (fits_row core.plan q (Arrived s i c peer)) fit).1 in
        let both = and_parts (accepts core.plan q s i) (not (has (is_arrival c) q)) row in
        record { accepts = accept-means s i both.0; fresh = ap not (sym (arrived-is core q c on stands)) ∙ both.1 }),
  )

-- an answer to the settings, and to the handshake, and the end of a connection
module _ (core : CoreData) (q : Record) (on : is_on core.end ≡ true) (stands : Represents core q) (c : ℕ) where
  pub set-fits : (ok : Bool)
      → (is_setting (stage_of core.connections.live c) ≡ true → Fits core.plan q (Set c ok))
      × (Fits core.plan q (Set c ok) → is_setting (stage_of core.connections.live c) ≡ true)
  set-fits ok = (
    λ may. fits-set core q c ok on stands may,
    λ fit. sym ((connections-of core q stands on).stages_are c).setting_is ∙ (and_parts (not (has_ended core.plan q)) (is_settings_open q c) fit).1,
  )

  pub shaken-fits : (ok : Bool)
      → (is_shaking (stage_of core.connections.live c) ≡ true → Fits core.plan q (Shaken c ok))
      × (Fits core.plan q (Shaken c ok) → is_shaking (stage_of core.connections.live c) ≡ true)
  shaken-fits ok = (
    λ may. fits-shaken core q c ok on stands may,
    λ fit. sym ((connections-of core q stands on).stages_are c).shaking_is ∙ (and_parts (not (has_ended core.plan q)) (is_handshake_open q c) fit).1,
  )

  pub finished-fits : (is_serving (stage_of core.connections.live c) ≡ true → Fits core.plan q (Finished c))
      × (Fits core.plan q (Finished c) → is_serving (stage_of core.connections.live c) ≡ true)
  finished-fits = (
    λ may. fits-finished core q c on stands may,
    λ fit. sym (finished-row core.plan core.connections q c (connections-of core q stands on))
        ∙ (and_parts (not (has_ended core.plan q)) (has (is_serve c) q && is_live_connection q c) fit).1,
  )

-- the fork that is awaited, and what comes to a parent that waits
module _ (core : CoreData) (q : Record) (on : is_on core.end ≡ true) (stands : Represents core q) where
  pub side-fits : (side : Side)
      → (is_asked core.boot.fork ≡ true → Fits core.plan q (SideCame side)) × (Fits core.plan q (SideCame side) → is_asked core.boot.fork ≡ true)
  side-fits side = (
    (λ may. fits-side core q side on may stands),
    (λ fit. sym stands.boot.fork.asked_is ∙ (and_parts (not (has_ended core.plan q)) (is_daemonize_open q) fit).1),
  )

  pub parent-fits : (e : Event) → fits_row core.plan q e ≡ parent_waits core.plan q
      → (is_waiting core.boot.fork ≡ true → Fits core.plan q e) × (Fits core.plan q e → is_waiting core.boot.fork ≡ true)
  parent-fits e row = (
    λ may. fits-parent core q e row on may stands,
    λ fit. sym (parent-same core q on stands) ∙ sym row ∙ (and_parts (not (has_ended core.plan q)) (fits_row core.plan q e) fit).1,
  )

-- nothing fits once the run has ended
pub ended-none : (core : CoreData) (q : Record) (e : Event) → is_on core.end ≡ false → Represents core q → fits core.plan q e ≡ true → ⊥
ended-none core q e off stands fit =
    ended (has_ended core.plan q) (step_end core.plan q) (sym (ap is_on stands.end_is) ∙ off) (goes_on core.plan q)
    (and_parts (not (has_ended core.plan q)) (fits_row core.plan q e) fit).0
  where
    goes_on : (p : Plan) (r : Record) → has_ended p r ≡ false → is_on (step_end p r) ≡ true
    goes_on p r h =
        by (waits_are_over p r) (ends_tested p r) (ends_parent_well p r) (ends_parent_badly p r) (ends_transfer r) (ends_no_sender p r) (ends_bad_message r) h
      where
        by : (a b c d f g i : Bool) → ((a || b) || (((c || d) || f) || (g || i))) ≡ false
            → is_on (if a then Served else
            (if b then Tested else
            (if c then Parent 0 else
            (if d then Parent 1 else (if f then EndedBy Transfer else (if g then EndedBy NoSender else (if i then EndedBy BadMessage else On)))))))
            ≡ true
        by false false false false false false false k = refl
        by true b c d f g i k = absurd (cc)
        by false true c d f g i k = absurd (cc)
        by false false true d f g i k = absurd (cc)
        by false false false true f g i k = absurd (cc)
        by false false false false true g i k = absurd (cc)
        by false false false false false true i k = absurd (cc)
        by false false false false false false true k = absurd (cc)

    ended : (h : Bool) (end : StepEnd) → is_on end ≡ false → (h ≡ false → is_on end ≡ true) → not h ≡ true → ⊥
    ended true end k f n = cc
    ended false end k f n = let holds = f refl in cc
