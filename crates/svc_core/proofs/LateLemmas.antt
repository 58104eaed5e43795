-- What is told of the offer and of the signal leaves what belongs to other parts.
use Rattle.std.proofs.Common.{ℕ, Bool, true, false, ◌&&◌, ◌==◌, List, [], ◌∷◌, not, ◌≡◌, refl, ap, sym, arith, if◌then◌else◌, nat_le, ◌-◌}
use Rattle.std.specs.Prelude.{Option, Some, None, is_some}
use Rattle.std.proofs.lemmas.Bool.{and_parts, eq-eqb}
use Rattle.svc_fds.specs.declared.encoding.Message.{Message}
use Rattle.svc_record.specs.declared.plan.Plan.{Plan}
use Rattle.svc_record.specs.declared.entry.Entry.TheVariants.{Told}
use Rattle.svc_record.specs.declared.action.Action.{Action}
use Rattle.svc_record.specs.declared.action.Action.TheVariants.{Connect, Send, Broadcast, Phase}
use Rattle.svc_record.specs.declared.action.ExecutionPhase.TheVariants.{GracefulUpgradeTransferringFds, GracefulUpgradeCloseTimeout, GracefulTerminate, ShutdownStarted, ShutdownGracePeriod}
use Rattle.svc_record.specs.declared.event.ShutdownSignal.{ShutdownSignal}
use Rattle.svc_record.specs.declared.event.ShutdownSignal.TheVariants.{FastShutdown, GracefulTerminate as TerminateSignal, GracefulUpgrade}
use Rattle.svc_record.specs.Record.{Record, tell}
use Rattle.svc_endpoints.specs.EndpointsData.{EndpointsData}
use Rattle.svc_endpoints.specs.EndpointsState.{EndpointsStand}
use Rattle.svc_endpoints.specs.Foreign.{is_endpoints_action}
use Rattle.svc_endpoints.proofs.EventLemmas.{stands-told}
use Rattle.svc_boot.specs.BootData.{BootData}
use Rattle.svc_boot.specs.ForkState.{may_run as goes_on}
use Rattle.svc_boot.specs.BootState.{BootStands}
use Rattle.svc_boot.specs.BootFacts.{is_boot_action}
use Rattle.svc_boot.proofs.Foreign as boots
use Rattle.svc_offer.specs.declared.offering.Offering.{Offering}
use Rattle.svc_offer.specs.declared.offering.Offering.TheVariants.{Nothing, Unasked, Connecting, Connected, Sending, Absent, Delayed, Stalled, Over}
use Rattle.svc_offer.specs.OfferData.{OfferData}
use Rattle.svc_offer.specs.OfferState.{over_since, is_connect_due, is_send_due}
use Rattle.svc_offer.specs.OfferEffects.{send_told, ask_with, asked}
use Rattle.svc_offer.specs.OfferFacts.{has_no_offer_action}
use Rattle.svc_drain.specs.declared.stage.Stage.{Stage}
use Rattle.svc_drain.specs.declared.stage.Stage.TheVariants.{Running, Offering as OfferStage, CloseTimeout, Grace, Terminating, CutShort}
use Rattle.svc_drain.specs.DrainData.{DrainData}
use Rattle.svc_drain.specs.DrainState.{rest_from}
use Rattle.svc_drain.specs.DrainEffects.{stage_told, row_told, timeout_told, grace_told, rested_told}
use Rattle.svc_drain.specs.DrainFacts.{has_no_drain_action}
use Rattle.svc_connections.specs.ConnectionsFacts.{touches_connections, has_no_connection_action}
use Rattle.svc_core.specs.Passes.{VisitedUpTo}
use Rattle.svc_core.proofs.GoingLemmas.{may_run, are_free}

-- an ask of the offer, the broadcast, or a phase that follows a signal and carries the moment
abbrev pub is_late : ℕ → Action → Bool
is_late m Connect = true
is_late m (Send bytes fds) = true
is_late m Broadcast = true
is_late m (Phase GracefulUpgradeTransferringFds ms) = ms == m
is_late m (Phase GracefulUpgradeCloseTimeout ms) = ms == m
is_late m (Phase GracefulTerminate ms) = ms == m
is_late m (Phase ShutdownStarted ms) = ms == m
is_late m (Phase ShutdownGracePeriod ms) = ms == m
is_late m _ = false

-- what such an action is
pub record IsLate (p : Plan) (order : List ℕ) (k m : ℕ) (q : Record) (a : Action) : Type 0 where
  pub free : may_run m a ≡ true
  pub boot : is_boot_action a ≡ false
  pub ends : is_endpoints_action a ≡ false
  pub connections : touches_connections a ≡ false
  pub visited : VisitedUpTo p order k q → VisitedUpTo p order k (Told a ∷ q)

pub late-is : (p : Plan) (order : List ℕ) (k m : ℕ) (q : Record) (a : Action) → is_late m a ≡ true → IsLate p order k m q a
late-is p order k m q Connect h =
    record {
      free = refl;
      boot = refl;
      ends = refl;
      connections = refl;
      visited = λ v.
          record {
            due_started = λ j lt due. v.due_started j lt due;
            right = λ none j lt i within. v.right none j lt i within;
            late = λ j lt i within. v.late j lt i within;
          };
    }
late-is p order k m q (Send bytes fds) h =
    record {
      free = refl;
      boot = refl;
      ends = refl;
      connections = refl;
      visited = λ v.
          record {
            due_started = λ j lt due. v.due_started j lt due;
            right = λ none j lt i within. v.right none j lt i within;
            late = λ j lt i within. v.late j lt i within;
          };
    }
late-is p order k m q Broadcast h =
    record {
      free = refl;
      boot = refl;
      ends = refl;
      connections = refl;
      visited = λ v. record { due_started = λ j lt due. v.due_started j lt due; right = λ none. absurd (cc); late = λ j lt i within. v.late j lt i within };
    }
late-is p order k m q (Phase GracefulUpgradeTransferringFds ms) h =
    record {
      free = h;
      boot = refl;
      ends = refl;
      connections = refl;
      visited = λ v.
          record {
            due_started = λ j lt due. v.due_started j lt due;
            right = λ none j lt i within. v.right none j lt i within;
            late = λ j lt i within. v.late j lt i within;
          };
    }
late-is p order k m q (Phase GracefulUpgradeCloseTimeout ms) h =
    record {
      free = h;
      boot = refl;
      ends = refl;
      connections = refl;
      visited = λ v.
          record {
            due_started = λ j lt due. v.due_started j lt due;
            right = λ none j lt i within. v.right none j lt i within;
            late = λ j lt i within. v.late j lt i within;
          };
    }
late-is p order k m q (Phase GracefulTerminate ms) h =
    record {
      free = h;
      boot = refl;
      ends = refl;
      connections = refl;
      visited = λ v.
          record {
            due_started = λ j lt due. v.due_started j lt due;
            right = λ none j lt i within. v.right none j lt i within;
            late = λ j lt i within. v.late j lt i within;
          };
    }
late-is p order k m q (Phase ShutdownStarted ms) h =
    record {
      free = h;
      boot = refl;
      ends = refl;
      connections = refl;
      visited = λ v.
          record {
            due_started = λ j lt due. v.due_started j lt due;
            right = λ none j lt i within. v.right none j lt i within;
            late = λ j lt i within. v.late j lt i within;
          };
    }
late-is p order k m q (Phase ShutdownGracePeriod ms) h =
    record {
      free = h;
      boot = refl;
      ends = refl;
      connections = refl;
      visited = λ v.
          record {
            due_started = λ j lt due. v.due_started j lt due;
            right = λ none j lt i within. v.right none j lt i within;
            late = λ j lt i within. v.late j lt i within;
          };
    }
late-is p order k m q _ h = absurd (cc)

-- such actions, one after the other
abbrev pub are_late : ℕ → List Action → Bool
are_late m [] = true
are_late m (a ∷ told) = is_late m a && are_late m told

-- what is told so leaves the other parts
pub record Keeps (p : Plan) (order : List ℕ) (k m : ℕ) (d : EndpointsData) (b : BootData) (q : Record) (told : List Action) : Type 0 where
  pub free : are_free m told ≡ true
  pub apart : has_no_connection_action told ≡ true
  pub ends : EndpointsStand p d q → EndpointsStand p d (tell q told)
  pub boot : goes_on p b.fork ≡ true → BootStands p b q → BootStands p b (tell q told)
  pub visited : VisitedUpTo p order k q → VisitedUpTo p order k (tell q told)

both-free : (a b : Bool) → a ≡ true → b ≡ true → (a && b) ≡ true
both-free a b h k = grind arith

pub late-keeps : (p : Plan) (order : List ℕ) (k m : ℕ) (d : EndpointsData) (b : BootData) (q : Record) (told : List Action) → are_late m told ≡ true
    → Keeps p order k m d b q told
late-keeps p order k m d b q [] h = record { free = refl; apart = refl; ends = λ e. e; boot = λ free e. e; visited = λ v. v }
late-keeps p order k m d b q (a ∷ told) h =
    let parts = and_parts (is_late m a) (are_late m told) h in
    let here = late-is p order k m q a parts.0 in
    let rest = late-keeps p order k m d b (Told a ∷ q) told parts.1 in
    record {
      free = both-free (may_run m a) (are_free m told) here.free rest.free;
      apart = both-free (not (touches_connections a)) (has_no_connection_action told) (ap not here.connections) rest.apart;
      ends = λ e. rest.ends (stands-told p d q a here.ends e);
      boot = λ free e. rest.boot free (boots.stands-told p b q a here.boot free e);
      visited = λ v. rest.visited (here.visited v);
    }

-- what is asked of a successor
send-late : (m : ℕ) (copy : Option Message) → are_late m (send_told copy) ≡ true
send-late m (Some w) = refl
send-late m None = refl

pub ask-late : (m : ℕ) (copy : Option Message) (o : OfferData) (t : ℕ) → are_late m (ask_with copy o t) ≡ true
ask-late m copy o t = by (is_connect_due o.state t) (is_send_due o.state t)
  where
    by : (c s : Bool) → are_late m (if c then Connect ∷ [] else (if s then send_told copy else [])) ≡ true
    by true s = refl
    by false true = send-late m copy
    by false false = refl

send-other : (copy : Option Message) → has_no_drain_action (send_told copy) ≡ true
send-other (Some w) = refl
send-other None = refl

pub ask-other : (copy : Option Message) (o : OfferData) (t : ℕ) → has_no_drain_action (ask_with copy o t) ≡ true
ask-other copy o t = by (is_connect_due o.state t) (is_send_due o.state t)
  where
    by : (c s : Bool) → has_no_drain_action (if c then Connect ∷ [] else (if s then send_told copy else [])) ≡ true
    by true s = refl
    by false true = send-other copy
    by false false = refl

-- an ask doesn't end the offer
pub over-asked : (o : OfferData) (t : ℕ) → over_since o.state ≡ over_since (asked o t).state
over-asked o t = by o.state
  where
    by : (x : Offering) → over_since x ≡ over_since (if is_connect_due x t then Connecting else (if is_send_due x t then Sending else x))
    by Nothing = refl
    by Unasked = refl
    by Connecting = refl
    by Connected = refl
    by Sending = refl
    by (Absent at) = one (nat_le 1000 (t - at)) (Absent at) refl
      where
        one : (c : Bool) (x : Offering) → over_since x ≡ None → None ≡ over_since (if c then Connecting else x)
        one true x h = refl
        one false x h = sym h
    by (Delayed at) = one (nat_le 500 (t - at)) (Delayed at) refl
      where
        one : (c : Bool) (x : Offering) → over_since x ≡ None → None ≡ over_since (if c then Connecting else x)
        one true x h = refl
        one false x h = sym h
    by (Stalled at) = one (nat_le 500 (t - at)) (Stalled at) refl
      where
        one : (c : Bool) (x : Offering) → over_since x ≡ None → None ≡ over_since (if c then Sending else x)
        one true x h = refl
        one false x h = sym h
    by (Over at) = refl

-- what follows a signal
timeout-late : (over : Option ℕ) (t : ℕ) → are_late t (timeout_told over t) ≡ true
timeout-late (Some at) t = rw (eq-eqb t t refl) refl
timeout-late None t = refl

grace-late : (t : ℕ) → are_late t (grace_told t) ≡ true
grace-late t = rw (eq-eqb t t refl) refl

rested-late : (over : Option ℕ) (t : ℕ) → are_late t (rested_told over t) ≡ true
rested-late over t = by (is_some (rest_from over t))
  where
    by : (c : Bool) → are_late t (if c then Broadcast ∷ grace_told t else []) ≡ true
    by true = grace-late t
    by false = refl

pub stage-late : (x : Stage) (signal : Option ShutdownSignal) (offers : Bool) (over : Option ℕ) (t : ℕ) → are_late t (stage_told x signal offers over t) ≡ true
stage-late Running None offers over t = refl
stage-late Running (Some FastShutdown) offers over t = rw (eq-eqb t t refl) refl
stage-late Running (Some TerminateSignal) offers over t = rw (eq-eqb t t refl) refl
stage-late Running (Some GracefulUpgrade) false over t = rw (eq-eqb t t refl) refl
stage-late Running (Some GracefulUpgrade) true over t = rw (eq-eqb t t refl) (timeout-late over t)
stage-late OfferStage signal offers over t = timeout-late over t
stage-late CloseTimeout signal offers over t = rested-late over t
stage-late (Grace at) signal offers over t = refl
stage-late Terminating signal offers over t = refl
stage-late (CutShort false) signal offers over t = rw (eq-eqb t t refl) refl
stage-late (CutShort true) signal offers over t = refl

pub row-late : (dr : DrainData) (over : Option ℕ) → are_late dr.moment (row_told dr over) ≡ true
row-late dr over = stage-late dr.stage dr.signal dr.offers over dr.moment

timeout-other : (over : Option ℕ) (t : ℕ) → has_no_offer_action (timeout_told over t) ≡ true
timeout-other (Some at) t = refl
timeout-other None t = refl

rested-other : (over : Option ℕ) (t : ℕ) → has_no_offer_action (rested_told over t) ≡ true
rested-other over t = by (is_some (rest_from over t))
  where
    by : (c : Bool) → has_no_offer_action (if c then Broadcast ∷ grace_told t else []) ≡ true
    by true = refl
    by false = refl

stage-other : (x : Stage) (signal : Option ShutdownSignal) (offers : Bool) (over : Option ℕ) (t : ℕ)
    → has_no_offer_action (stage_told x signal offers over t) ≡ true
stage-other Running None offers over t = refl
stage-other Running (Some FastShutdown) offers over t = refl
stage-other Running (Some TerminateSignal) offers over t = refl
stage-other Running (Some GracefulUpgrade) false over t = refl
stage-other Running (Some GracefulUpgrade) true over t = timeout-other over t
stage-other OfferStage signal offers over t = timeout-other over t
stage-other CloseTimeout signal offers over t = rested-other over t
stage-other (Grace at) signal offers over t = refl
stage-other Terminating signal offers over t = refl
stage-other (CutShort false) signal offers over t = refl
stage-other (CutShort true) signal offers over t = refl

pub row-other : (dr : DrainData) (over : Option ℕ) → has_no_offer_action (row_told dr over) ≡ true
row-other dr over = stage-other dr.stage dr.signal dr.offers over dr.moment
