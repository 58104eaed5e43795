-- The records that a core stands for, and what its steps keep.
use Rattle.std.specs.Prelude.{ℕ, Bool, true, false, not, ◌&&◌, ◌≡◌, ◌<◌, ◌≤◌, ◌==◌, ◌⊎◌, List, [], ◌∷◌, Option, None, length, MatchBool, nat_lt}
use Rattle.std.specs.Bool.{OnTrue, OnFalse}
use Rattle.std.specs.List.{list_any}
use Rattle.svc_graph.specs.declared.plan.Kind.TheVariants.{Notifying}
use Rattle.svc_record.specs.declared.plan.Plan.{Plan}
use Rattle.svc_record.specs.declared.action.Action.{Action}
use Rattle.svc_record.specs.declared.action.StepEnd.{StepEnd}
use Rattle.svc_record.specs.declared.entry.Entry.TheVariants.{Got}
use Rattle.svc_record.specs.declared.event.Event.{Event}
use Rattle.svc_record.specs.declared.event.Event.TheVariants.{Moment, Ready, Ended, Bound, InUse, BindFailed, Adopted, AdoptFailed, Received, NoSenderYet, ReceiveFailed, Connected, NotThere, StillConnecting, ConnectFailed, Sent, SendBusy, SendFailed, Arrived, AcceptFailed, Set, Shaken, Finished, LoopEnded, Signal, Side, ChildReady, ChildGone, DropFailed}
use Rattle.svc_fds.specs.declared.encoding.Message.{Message}
use Rattle.svc_record.specs.Plans.{service_count, endpoints, has_kind, is_endpoint}
use Rattle.svc_record.specs.Record.{Record, has, tell, last_step, EachEntry, EachEarlier}
use Rattle.svc_record.specs.Boot.{has_begun, start_after_boot}
use Rattle.svc_record.specs.AskRules.{FailsRight}
use Rattle.svc_record.specs.Drain.{is_ending, live_numbers}
use Rattle.svc_base.specs.NumberSets.{ascending}
use Rattle.svc_record.specs.Ends.{step_end, ends_tested, TestedRight}
use Rattle.svc_record.specs.Fits.{may_end}
use Rattle.svc_record.specs.Offer.{one_ask}
use Rattle.svc_record.specs.Right.{Right, EndedRight, SettledRight, is_quiet}
use Rattle.svc_record.specs.Starts.{is_started, is_due}
use Rattle.svc_record.specs.Tail.{numbers_in, closing_actions, tail_right}
use Rattle.svc_record.specs.Told.{Tells}
use Rattle.svc_endpoints.specs.EndpointsState.{EndpointsStand, last_at, is_binding, is_adopting, all_new}
use Rattle.svc_endpoints.specs.Loops.{has_loop}
use Rattle.svc_endpoints.specs.Uses.{serves_by, accepts_by}
use Rattle.svc_boot.specs.ForkState.{may_run, is_asked, is_waiting}
use Rattle.svc_boot.specs.BootState.{BootStands, is_trying, is_through}
use Rattle.svc_boot.specs.BootEffects.{end_of, is_complete_due}
use Rattle.svc_boot.specs.BootFacts.{IsBootSettled}
use Rattle.svc_offer.specs.OfferState.{OfferStands, IsOfferSettled, over_since, is_connecting, is_sending, is_send_due}
use Rattle.svc_drain.specs.DrainState.{DrainStands, IsDrainSettled, passes, is_broadcast_told}
use Rattle.svc_record.specs.Connections.{live_connections}
use Rattle.svc_connections.specs.ConnectionsState.{ConnectionsStand, is_new as is_new_connection, is_setting, is_shaking, is_serving, stage_of}
use Rattle.svc_core.specs.StartsState.{StartsStand, AreFailed, is_flagged}
use Rattle.svc_core.specs.CoreData.{CoreData, is_on, is_served}
use Rattle.svc_core.specs.Passes.{EntriesRight, Going, IsBootRipe, VisitedUpTo, TestedAt, AreStarted, MayEnd, is_tested, may_start}

-- what was due at the last moment was told: of bootstrapping, of the offer and of the shutdown, whose waits haven't passed
pub record IsSettled (core : CoreData) : Type 0 where
  pub boot : IsBootSettled core.plan core.boot core.drain.moment
  pub drain : IsDrainSettled core.drain (over_since core.offer.state)
  pub offer : IsOfferSettled core.offer core.drain.moment
  pub waits : passes core.plan core.drain ≡ false

-- one clause for each part; once the run has served, which services failed and what came is all that is left of endpoints, and nothing is live,
-- offered or waited for
pub record Represents (core : CoreData) (q : Record) : Type 0 where
  pub drain : is_served core.end ≡ false → DrainStands core.plan core.drain (over_since core.offer.state) q
  pub offer : is_served core.end ≡ false → OfferStands core.plan core.offer q
  pub starts : StartsStand core.plan core.starts q
  pub boot : BootStands core.plan core.boot q
  pub endpoints : is_served core.end ≡ false → EndpointsStand core.plan core.endpoints q
  pub failed : AreFailed core.plan core.endpoints.failed q
  pub came : core.endpoints.came ≡ ascending (numbers_in q)
  pub closed : is_served core.end ≡ true → live_numbers core.plan q ≡ []
  pub connections : is_served core.end ≡ false → ConnectionsStand core.plan core.connections q
  pub uncut : is_served core.end ≡ true → live_connections q ≡ []
  pub after_boot : EachEntry (λ e before. start_after_boot core.plan e before ≡ true) q
  pub started_due : (s : ℕ) → s < service_count core.plan → is_started q s ≡ true → is_due core.plan q s ≡ true
  pub begun_is : has_begun core.plan q ≡ core.boot.begun
  pub runs : core.drain.running ≡ true → may_start core.plan core.boot ≡ true
  pub settled : is_on core.end ≡ true → IsSettled core
  pub end_is : core.end ≡ step_end core.plan q

-- nothing was got or told yet
pub record HasNotBegun (core : CoreData) : Type 0 where
  pub drain : DrainStands core.plan core.drain None []
  pub offer : OfferStands core.plan core.offer []
  pub starts : StartsStand core.plan core.starts []
  pub ends : EndpointsStand core.plan core.endpoints []
  pub boot : BootStands core.plan core.boot []
  pub connections : ConnectionsStand core.plan core.connections []
  pub unbegun : core.boot.begun ≡ false
  pub idle : core.drain.running ≡ false
  pub unoffered : over_since core.offer.state ≡ None
  pub unasked : is_send_due core.offer.state core.drain.moment ≡ false

-- how a run has ended in its bootstrapping
pub record EndedSo (p : Plan) (q : Record) : Type 0 where
  pub ended : EndedRight p q
  pub tested : OnTrue (ends_tested p q) (TestedRight p q)
  pub may_end : MayEnd p q

-- the copy is the message, where its send is due
abbrev pub HasCopy : CoreData → Option Message → Type 0
HasCopy core copy = is_send_due core.offer.state core.drain.moment ≡ true → copy ≡ core.offer.message

-- nothing was told yet in this step, and a server's run may begin, at once with `eager`: the parts stand for q, no fork is awaited, each entry and
-- what stands before each event is right, and the run may end by what begins
pub record MayBootstrap (core : CoreData) (q : Record) : Type 0 where
  pub drain : DrainStands core.plan core.drain (over_since core.offer.state) q
  pub offer : OfferStands core.plan core.offer q
  pub connections : ConnectionsStand core.plan core.connections q
  pub starts : StartsStand core.plan core.starts q
  pub ends : EndpointsStand core.plan core.endpoints q
  pub boot : BootStands core.plan core.boot q
  pub entries : EntriesRight core.plan q
  pub started_due : (s : ℕ) → s < service_count core.plan → is_started q s ≡ true → is_due core.plan q s ≡ true
  pub no_end : has is_ending q ≡ false
  pub earlier : EachEarlier (SettledRight core.plan) q
  pub fails : EachEarlier (FailsRight core.plan) q
  pub asks : EachEarlier (λ before. one_ask core.plan before ≡ true) q
  pub free : may_run core.plan core.boot.fork ≡ true
  pub begins : has_begun core.plan q ≡ core.plan.eager
  pub unbegun : core.boot.begun ≡ false
  pub idle : core.drain.running ≡ false
  pub silent : last_step q ≡ []
  pub may_end : MayEnd core.plan q
  pub unasked : is_send_due core.offer.state core.drain.moment ≡ false

-- an event was taken, or nothing yet, and what follows from it may be told: the parts stand for q; no fork is awaited; as long as bootstrapping
-- hasn't begun, this step told only failures and closes; where no older server is asked, it was told that bootstrapping is complete; where the event
-- ended the run, it ended as is right; and where it may let services start, the run may end by that
pub record AfterEvent (core : CoreData) (copy : Option Message) (q : Record) : Type 0 where
  pub going : Going core.plan core.starts core.endpoints core.boot core.offer core.drain core.connections q
  pub free : may_run core.plan core.boot.fork ≡ true
  pub quiet : core.boot.begun ≡ false → is_quiet (last_step q) ≡ true
  pub alone : core.plan.upgrade ≡ false → core.boot.complete ≡ is_through core.plan core.boot
  pub ended : OnFalse (is_on (end_of core.plan core.boot)) (EndedSo core.plan q)
  pub calm : (AreStarted core.plan q × (is_complete_due core.boot ≡ false)) ⊎ MayEnd core.plan q
  pub copied : HasCopy core copy

-- it was told where bootstrapping is complete, and services may be visited
pub record AfterBootstrap (core : CoreData) (copy : Option Message) (q : Record) : Type 0 where
  pub going : Going core.plan core.starts core.endpoints core.boot core.offer core.drain core.connections q
  pub free : may_run core.plan core.boot.fork ≡ true
  pub quiet : core.boot.begun ≡ false → is_quiet (last_step q) ≡ true
  pub goes_on : is_on (end_of core.plan core.boot) ≡ true
  pub ripe : IsBootRipe core.plan core.boot
  pub calm : AreStarted core.plan q ⊎ MayEnd core.plan q
  pub copied : HasCopy core copy

-- the services were visited, where they may start, and what is left of the step may be told
pub record AfterPass (core : CoreData) (copy : Option Message) (q : Record) : Type 0 where
  pub going : Going core.plan core.starts core.endpoints core.boot core.offer core.drain core.connections q
  pub free : may_run core.plan core.boot.fork ≡ true
  pub ripe : IsBootRipe core.plan core.boot
  pub passed : OnTrue (may_start core.plan core.boot)
      (MatchBool (is_tested core.plan core.boot) ((k : ℕ) × TestedAt core.plan core.order k q) (VisitedUpTo core.plan core.order (length core.order) q))
  pub waits : may_start core.plan core.boot ≡ false → is_tested core.plan core.boot ≡ false
  pub copied : HasCopy core copy

-- the run goes on in its bootstrapping: it runs where it may, and what is due of bootstrapping was told
pub record AfterRetry (core : CoreData) (copy : Option Message) (q : Record) : Type 0 where
  pub going : Going core.plan core.starts core.endpoints core.boot core.offer core.drain core.connections q
  pub free : may_run core.plan core.boot.fork ≡ true
  pub settled : IsBootSettled core.plan core.boot core.drain.moment
  pub untested : is_tested core.plan core.boot ≡ false
  pub visited : OnTrue (may_start core.plan core.boot) (VisitedUpTo core.plan core.order (length core.order) q)
  pub runs_now : core.drain.running ≡ may_start core.plan core.boot
  pub on : is_on core.end ≡ true
  pub end_is : core.end ≡ end_of core.plan core.boot
  pub copied : HasCopy core copy

-- what is due of the offer and of the signal was told too
pub record Answered (core : CoreData) (q : Record) : Type 0 where
  pub going : Going core.plan core.starts core.endpoints core.boot core.offer core.drain core.connections q
  pub settled : IsBootSettled core.plan core.boot core.drain.moment
  pub untested : is_tested core.plan core.boot ≡ false
  pub visited : OnTrue (may_start core.plan core.boot) (VisitedUpTo core.plan core.order (length core.order) q)
  pub runs_now : core.drain.running ≡ may_start core.plan core.boot
  pub on : is_on core.end ≡ true
  pub end_is : core.end ≡ end_of core.plan core.boot
  pub drain : IsDrainSettled core.drain (over_since core.offer.state)
  pub offer : IsOfferSettled core.offer core.drain.moment

-- what a step gives: a right record that the core stands for, with its answer
pub record StepRight (core : CoreData) (q : Record) (end : StepEnd) : Type 0 where
  pub stands : Represents core q
  pub right : Right core.plan q
  pub answer : end ≡ step_end core.plan q

-- what follows from an event
abbrev pub Follows : CoreData → CoreData → Option Message → List Action → List Action → StepEnd → Type 0
Follows old new copy before after end = Tells before after (λ told. (q : Record) → AfterEvent old copy q → StepRight new (tell q told) end)

-- what the beginning of a server's run tells
abbrev pub Bootstraps : CoreData → CoreData → List Action → List Action → StepEnd → Type 0
Bootstraps old new before after end = Tells before after (λ told. (q : Record) → MayBootstrap old q → StepRight new (tell q told) end)

-- the first step, from an empty record
abbrev pub BeginKeeps : CoreData → List Action → List Action → StepEnd → Type 0
BeginKeeps new before after end = Tells before after (λ told. StepRight new (tell [] told) end)

-- a step of an event: for each right record that the core stood for
abbrev pub StepKeeps : CoreData → CoreData → Event → List Action → List Action → StepEnd → Type 0
StepKeeps old new e before after end =
    Tells before after (λ told. (q : Record) → Right old.plan q → Represents old q → StepRight new (tell (Got e ∷ q) told) end)

-- what closing all tells: the record's closing actions, after which each number that came has one close if the record is right
pub record ClosesAll (p : Plan) (q : Record) (also : Option Event) (before after : List Action) : Type 0 where
  pub told : Tells before after (λ told. told ≡ closing_actions p q also)
  pub closed : Right p q → tail_right q also (closing_actions p q also) ≡ true

-- the service's word may come
pub record ReadyMayCome (core : CoreData) (s : ℕ) : Type 0 where
  pub inside : s < service_count core.plan
  pub notifies : has_kind core.plan Notifying s ≡ true
  pub started : is_flagged core.starts.started s ≡ true
  pub first : is_flagged core.starts.ready s ≡ false

-- the end of the service's work may come
pub record EndedMayCome (core : CoreData) (s : ℕ) : Type 0 where
  pub inside : s < service_count core.plan
  pub ends : may_end core.plan s ≡ true
  pub started : is_flagged core.starts.started s ≡ true
  pub first : is_flagged core.starts.ended s ≡ false

-- s has an endpoint i whose bind is open
pub record BindMayBeAnswered (core : CoreData) (s i : ℕ) : Type 0 where
  pub inside : s < service_count core.plan
  pub within : i < length (endpoints core.plan s)
  pub asked : is_binding (last_at core.endpoints s i) ≡ true

-- the same, and the descriptor is new
pub record BoundMayCome (core : CoreData) (s i fd : ℕ) : Type 0 where
  pub asked : BindMayBeAnswered core s i
  pub fresh : list_any (λ n. n == fd) core.endpoints.came ≡ false

-- s has an endpoint i whose adoption is open
pub record AdoptMayBeAnswered (core : CoreData) (s i : ℕ) : Type 0 where
  pub inside : s < service_count core.plan
  pub within : i < length (endpoints core.plan s)
  pub asked : is_adopting (last_at core.endpoints s i) ≡ true

-- the service serves, by the parts, and loop j is one of its endpoint i and hasn't ended yet
abbrev pub is_loop_on : CoreData → ℕ → ℕ → ℕ → Bool
is_loop_on core s i j =
    serves_by core.plan core.endpoints (is_flagged core.starts.started s) s
    && (is_endpoint core.plan s i && (nat_lt j core.plan.tasks && not (has_loop core.endpoints.loops s i j)))

-- the broadcast was told, and s serves, with an endpoint i whose loop j goes on
pub record LoopMayEnd (core : CoreData) (s i j : ℕ) : Type 0 where
  pub told : is_broadcast_told core.drain ≡ true
  pub inside : s < service_count core.plan
  pub goes_on : is_loop_on core s i j ≡ true

-- the service serves, by the parts, and a loop of its endpoint goes on
pub record MayAccept (core : CoreData) (s i : ℕ) : Type 0 where
  pub inside : s < service_count core.plan
  pub within : i < length (endpoints core.plan s)
  pub goes_on : accepts_by core.plan core.endpoints (is_flagged core.starts.started s) s i ≡ true

-- the same, and no connection with this number arrived
pub record ArrivedMayCome (core : CoreData) (s i c : ℕ) : Type 0 where
  pub accepts : MayAccept core s i
  pub fresh : is_new_connection core.connections c ≡ true

-- a try to receive is open, and the message brings few descriptors, new ones, and no number twice
pub record ReceivedMayCome (core : CoreData) (fds : List ℕ) : Type 0 where
  pub trying : is_trying core.boot.receiving ≡ true
  pub few : length fds ≤ 32
  pub fresh : all_new core.endpoints.came fds ≡ true

-- the condition of each event, by what the core holds
abbrev pub RowMayCome : CoreData → Event → Type 0
RowMayCome core (Moment ms) = core.drain.moment ≤ ms
RowMayCome core (Ready s) = ReadyMayCome core s
RowMayCome core (Ended s) = EndedMayCome core s
RowMayCome core (Bound s i fd) = BoundMayCome core s i fd
RowMayCome core (InUse s i) = BindMayBeAnswered core s i
RowMayCome core (BindFailed s i) = BindMayBeAnswered core s i
RowMayCome core (Adopted s i) = AdoptMayBeAnswered core s i
RowMayCome core (AdoptFailed s i) = AdoptMayBeAnswered core s i
RowMayCome core (Received bytes fds) = ReceivedMayCome core fds
RowMayCome core NoSenderYet = is_trying core.boot.receiving ≡ true
RowMayCome core ReceiveFailed = is_trying core.boot.receiving ≡ true
RowMayCome core Connected = is_connecting core.offer.state ≡ true
RowMayCome core NotThere = is_connecting core.offer.state ≡ true
RowMayCome core StillConnecting = is_connecting core.offer.state ≡ true
RowMayCome core ConnectFailed = is_connecting core.offer.state ≡ true
RowMayCome core Sent = is_sending core.offer.state ≡ true
RowMayCome core SendBusy = is_sending core.offer.state ≡ true
RowMayCome core SendFailed = is_sending core.offer.state ≡ true
RowMayCome core (Arrived s i c peer) = ArrivedMayCome core s i c
RowMayCome core (AcceptFailed s i n) = MayAccept core s i
RowMayCome core (Set c ok) = is_setting (stage_of core.connections.live c) ≡ true
RowMayCome core (Shaken c ok) = is_shaking (stage_of core.connections.live c) ≡ true
RowMayCome core (Finished c) = is_serving (stage_of core.connections.live c) ≡ true
RowMayCome core (LoopEnded s i j) = LoopMayEnd core s i j
RowMayCome core (Signal kind) = core.drain.running ≡ true
RowMayCome core (Side side) = is_asked core.boot.fork ≡ true
RowMayCome core ChildReady = is_waiting core.boot.fork ≡ true
RowMayCome core ChildGone = is_waiting core.boot.fork ≡ true
RowMayCome core DropFailed = is_waiting core.boot.fork ≡ true

-- the event may come
abbrev pub MayCome : CoreData → Event → Type 0
MayCome core e = (is_on core.end ≡ true) × RowMayCome core e
