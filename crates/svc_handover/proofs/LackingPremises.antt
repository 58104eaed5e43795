-- Worlds in which one premise of the operator's law is lacking, and no other: both servers have kept every promise, and the address x is closed.
use Rattle.std.proofs.Common.{ℕ, Bool, true, false, List, [], ◌∷◌, Some, None, codes, ◌≡◌, refl, ◌==◌, not, map}
use Rattle.std.specs.List.{range_with_len}
use Rattle.std.specs.Str.{is_utf8, chars}
use lib.Utf8.{encode}
use Rattle.svc_graph.specs.declared.plan.EndpointPlan.{EndpointPlan}
use Rattle.svc_graph.specs.declared.plan.Kind.TheVariants.{Plain, Bootstrap as Bootstrapping}
use Rattle.svc_fds.specs.Messages.{is_sayable, message_bytes, is_well_formed, words}
use Rattle.svc_record.specs.declared.plan.Plan.{Plan}
use Rattle.svc_record.specs.declared.plan.ServicePlan.{ServicePlan}
use Rattle.svc_record.specs.declared.entry.Entry.TheVariants.{Got, Told}
use Rattle.svc_record.specs.declared.event.Event.TheVariants.{AdoptFailed, Adopted, BindFailed, Bound, ConnectFailed, Connected, InUse, Moment, NoSenderYet, NotThere, ReceiveFailed, Received, Sent, Signal}
use Rattle.svc_record.specs.declared.event.ShutdownSignal.TheVariants.{GracefulUpgrade, GracefulTerminate, FastShutdown}
use Rattle.svc_record.specs.declared.action.Action.TheVariants.{Adopt, Bind, Broadcast, Close, Connect, Fail, OpenReceiver, Phase, Send, Start, Stop, TryReceive}
use Rattle.svc_record.specs.declared.action.ExecutionPhase.TheVariants.{Bootstrap, BootstrapComplete, GracefulTerminate, GracefulUpgradeCloseTimeout, GracefulUpgradeTransferringFds, Running, ShutdownGracePeriod, ShutdownRuntimes, ShutdownStarted, Terminated}
use Rattle.svc_record.specs.Record.{Record, has, is_signal, signal_of}
use Rattle.svc_record.specs.Right.{is_right}
use Rattle.svc_handover.specs.declared.pair.ChannelState.{ChannelState}
use Rattle.svc_handover.specs.declared.pair.ChannelState.TheVariants.{InFlight, Listening, Taken}
use Rattle.svc_handover.specs.Pair.{World}
use Rattle.svc_handover.specs.Handover.{is_kept}
use Rattle.svc_handover.specs.Operator.{was_held, is_named_by_both, is_upgrade_or_none, ends_sent, is_sound_for, is_down, is_reachable}

-- the premises, each as a test
abbrev pub premises : Plan → Plan → World → List ℕ → List Bool
premises p n w a =
    was_held p w.old a ∷ is_named_by_both p n a ∷ is_upgrade_or_none (signal_of w.old) ∷ ends_sent p w.old ∷ is_sound_for p w.old a ∷ is_sound_for n w.new a
    ∷ not (is_down p w.old) ∷ not (is_down n w.new) ∷ not (has is_signal w.new) ∷ []

-- all of them but the one at this place
abbrev pub all_but : ℕ → List Bool
all_but k = map (λ i. not (i == k)) (range_with_len 0 9)

abbrev pub x : List ℕ
x = codes "x"

abbrev pub y : List ℕ
y = codes "y"

-- only the premise at this place is lacking, the address is closed, both records are right, and the law of a handover holds
pub record IsLost (k : ℕ) (p n : Plan) (old new : Record) (channel : ChannelState) : Type 0 where
  pub lacking : premises p n (record { old = old; new = new; channel = channel }) x ≡ all_but k
  pub closed : is_reachable p n (record { old = old; new = new; channel = channel }) x ≡ false
  pub kept : is_kept p n (record { old = old; new = new; channel = channel }) ≡ true
  pub old_right : is_right p old ≡ true
  pub new_right : is_right n new ≡ true

abbrev pub tcp : List ℕ → EndpointPlan
tcp a = record { address = a; unix = false; options = []; filter = None }

-- one service, which declares the addresses at which it listens
abbrev pub web : List EndpointPlan → ServicePlan
web es = record { name = codes "web"; kind = Plain; depends = []; declared = Some (map (λ (e : EndpointPlan). e.address) es); endpoints = es }

-- an old server, and a new one that takes over its sockets
abbrev pub plain : List EndpointPlan → Plan
plain es = record {
  services = web es
      ∷ [];
  grace = 0;
  stop = 5;
  tasks = 1;
  limit = 1;
  upgrade = false;
  test = false;
  eager = false;
  daemon = false;
  wait = false;
  ready_timeout = 600;
}

abbrev pub inheriting : List EndpointPlan → Plan
inheriting es = record (plain es) { upgrade = true; eager = true }

-- a server that listens, and then takes over sockets itself
abbrev pub second : Plan
second = record (plain (tcp x ∷ [])) { services = web (tcp x ∷ []) ∷ bootstrap ∷ []; upgrade = true }
  where
    bootstrap : ServicePlan
    bootstrap = record { name = codes "second"; kind = Bootstrapping; depends = 0 ∷ []; declared = Some []; endpoints = [] }

-- an old server with one address binds it
abbrev pub begun : Record
begun = Told (Phase Running 0) ∷ Told (Bind 0 0) ∷ Told (Start 0) ∷ []

-- and holds it
abbrev pub held : Record
held = Got (Bound 0 0 7) ∷ begun

-- it is told to upgrade, and offers the address
abbrev pub offered : Record
offered = Told Connect ∷ Told (Phase GracefulUpgradeTransferringFds 0) ∷ Got (Signal GracefulUpgrade) ∷ held

-- its message is sent
abbrev pub sent : Record
sent = Told (Phase GracefulUpgradeCloseTimeout 0) ∷ Got Sent ∷ Told (Send x (7 ∷ [])) ∷ Got Connected ∷ offered

-- five seconds later it ends, with no grace period
abbrev pub drained : ℕ → Record → Record
drained ms before =
    Told (Phase Terminated ms) ∷ Told (Stop 5) ∷ Told (Close 7) ∷ Told (Phase ShutdownRuntimes ms) ∷ Told (Phase ShutdownGracePeriod ms)
    ∷ Told (Phase ShutdownStarted ms) ∷ Told Broadcast ∷ Got (Moment ms) ∷ before

-- a new server asks for it
abbrev pub asks : Record
asks = Told TryReceive ∷ Told OpenReceiver ∷ Told (Phase Bootstrap 0) ∷ []

-- has it, and adopts it
abbrev pub taken : Record
taken = Told (Phase Running 0) ∷ Told (Adopt 0 0 3) ∷ Told (Start 0) ∷ Told (Phase BootstrapComplete 0) ∷ Got (Received x (3 ∷ [])) ∷ asks

-- the address was held only after the signal: another one was in the table
held-late : IsLost 0 (plain (tcp y ∷ tcp x ∷ [])) (inheriting (tcp y ∷ tcp x ∷ []))
    (Told (Phase Terminated 6000) ∷ Told (Stop 5) ∷ Told (Close 7) ∷ Told (Close 5) ∷ Told (Phase ShutdownRuntimes 6000) ∷ Told (Phase ShutdownGracePeriod 6000)
    ∷ Told (Phase ShutdownStarted 6000) ∷ Told Broadcast ∷ Got (Moment 6000) ∷ Told (Phase GracefulUpgradeCloseTimeout 1000) ∷ Got Sent
    ∷ Told (Send y (5 ∷ [])) ∷ Got Connected ∷ Got (Bound 0 1 7) ∷ Told (Bind 0 1) ∷ Got (Moment 1000) ∷ Told Connect
    ∷ Told (Phase GracefulUpgradeTransferringFds 0) ∷ Got (Signal GracefulUpgrade) ∷ Got (InUse 0 1) ∷ Told (Bind 0 1) ∷ Got (Bound 0 0 5) ∷ begun)
    (Told (Bind 0 1) ∷ Got (Adopted 0 0) ∷ Told (Phase Running 0) ∷ Told (Adopt 0 0 3) ∷ Told (Start 0) ∷ Told (Phase BootstrapComplete 0)
    ∷ Got (Received y (3 ∷ [])) ∷ asks) Taken
unfolding is_utf8 chars encode is_well_formed words is_sayable message_bytes
held-late = record { lacking = refl; closed = refl; kept = refl; old_right = refl; new_right = refl }

-- the new plan names another address
unnamed : IsLost 1 (plain (tcp x ∷ [])) (inheriting (tcp y ∷ []))
    (drained 5000 sent)
    (Told (Phase Running 0) ∷ Told (Bind 0 0) ∷ Told (Start 0) ∷ Told (Phase BootstrapComplete 0) ∷ Told (Close 3) ∷ Got (Received x (3 ∷ [])) ∷ asks) Taken
unfolding is_utf8 chars encode is_well_formed words is_sayable message_bytes
unnamed = record { lacking = refl; closed = refl; kept = refl; old_right = refl; new_right = refl }

-- the first signal was to end
terminated : IsLost 2 (plain (tcp x ∷ [])) (inheriting (tcp x ∷ []))
    (Told (Phase Terminated 0) ∷ Told (Stop 5) ∷ Told (Close 7) ∷ Told (Phase ShutdownRuntimes 0) ∷ Told (Phase ShutdownGracePeriod 0)
    ∷ Told (Phase ShutdownStarted 0) ∷ Told (Phase GracefulTerminate 0) ∷ Told Broadcast ∷ Got (Signal GracefulTerminate) ∷ held)
    asks Listening
unfolding is_utf8 chars encode is_well_formed words is_sayable message_bytes
terminated = record { lacking = refl; closed = refl; kept = refl; old_right = refl; new_right = refl }

-- and to end at once
stopped : IsLost 2 (plain (tcp x ∷ [])) (inheriting (tcp x ∷ []))
    (Told (Phase Terminated 0) ∷ Told (Stop 0) ∷ Told (Close 7) ∷ Told (Phase ShutdownRuntimes 0) ∷ Told (Phase ShutdownStarted 0) ∷ Got (Signal FastShutdown)
    ∷ held)
    asks Listening
unfolding is_utf8 chars encode is_well_formed words is_sayable message_bytes
stopped = record { lacking = refl; closed = refl; kept = refl; old_right = refl; new_right = refl }

-- the connection to the new server failed
unconnected : IsLost 3 (plain (tcp x ∷ [])) (inheriting (tcp x ∷ []))
    (drained 5000 (Told (Phase GracefulUpgradeCloseTimeout 0) ∷ Got ConnectFailed ∷ offered))
    asks Listening
unfolding is_utf8 chars encode is_well_formed words is_sayable message_bytes
unconnected = record { lacking = refl; closed = refl; kept = refl; old_right = refl; new_right = refl }

-- nobody was there
alone : IsLost 3 (plain (tcp x ∷ [])) (inheriting (tcp x ∷ []))
    (drained 6000 (Told (Phase GracefulUpgradeCloseTimeout 1000) ∷ Got NotThere ∷ Told Connect ∷ Got (Moment 1000) ∷ Got NotThere ∷ offered))
    asks Listening
unfolding is_utf8 chars encode is_well_formed words is_sayable message_bytes
alone = record { lacking = refl; closed = refl; kept = refl; old_right = refl; new_right = refl }

-- another address of the same service could not be bound
old-failed : IsLost 4 (plain (tcp x ∷ tcp y ∷ [])) (inheriting (tcp x ∷ []))
    (Told (Close 7) ∷ Told (Fail 0) ∷ Got (BindFailed 0 1) ∷ Told (Bind 0 1) ∷ held)
    asks Listening
unfolding is_utf8 chars encode is_well_formed words is_sayable message_bytes
old-failed = record { lacking = refl; closed = refl; kept = refl; old_right = refl; new_right = refl }

-- the new server could not adopt it
unadopted : IsLost 5 (plain (tcp x ∷ [])) (inheriting (tcp x ∷ []))
    (drained 5000 sent)
    (Told (Close 3) ∷ Told (Fail 0) ∷ Got (AdoptFailed 0 0) ∷ taken) Taken
unfolding is_utf8 chars encode is_well_formed words is_sayable message_bytes
unadopted = record { lacking = refl; closed = refl; kept = refl; old_right = refl; new_right = refl }

-- or not bind its other address
new-failed : IsLost 5 (plain (tcp x ∷ [])) (inheriting (tcp x ∷ tcp y ∷ []))
    (drained 5000 sent)
    (Told (Close 3) ∷ Told (Fail 0) ∷ Got (BindFailed 0 1) ∷ Told (Bind 0 1) ∷ Got (Adopted 0 0) ∷ taken) Taken
unfolding is_utf8 chars encode is_well_formed words is_sayable message_bytes
new-failed = record { lacking = refl; closed = refl; kept = refl; old_right = refl; new_right = refl }

-- the old server itself waited for an older one, and gave up
old-gave-up : IsLost 6 second (inheriting (tcp x ∷ []))
    (Got NoSenderYet ∷ Told TryReceive ∷ Got (Moment 1000) ∷ Got NoSenderYet ∷ Got (Bound 0 0 7) ∷ Told (Phase Running 0) ∷ Told TryReceive ∷ Told OpenReceiver
    ∷ Told (Phase Bootstrap 0) ∷ Told (Start 1) ∷ Told (Bind 0 0) ∷ Told (Start 0) ∷ [])
    asks Listening
unfolding is_utf8 chars encode is_well_formed words is_sayable message_bytes
old-gave-up = record { lacking = refl; closed = refl; kept = refl; old_right = refl; new_right = refl }

-- the new one gave up while the message was on its way
new-gave-up : IsLost 7 (plain (tcp x ∷ [])) (inheriting (tcp x ∷ []))
    (drained 5000 sent)
    (Got NoSenderYet ∷ Told TryReceive ∷ Got (Moment 1000) ∷ Got NoSenderYet ∷ asks) InFlight
unfolding is_utf8 chars encode is_well_formed words is_sayable message_bytes
new-gave-up = record { lacking = refl; closed = refl; kept = refl; old_right = refl; new_right = refl }

-- its receiving failed
unreceived : IsLost 7 (plain (tcp x ∷ [])) (inheriting (tcp x ∷ []))
    (drained 5000 sent)
    (Got ReceiveFailed ∷ asks) InFlight
unfolding is_utf8 chars encode is_well_formed words is_sayable message_bytes
unreceived = record { lacking = refl; closed = refl; kept = refl; old_right = refl; new_right = refl }

-- it was told to end
new-stopped : IsLost 8 (plain (tcp x ∷ [])) (inheriting (tcp x ∷ []))
    (drained 5000 sent)
    (Told (Phase Terminated 0) ∷ Told (Stop 0) ∷ Told (Close 3) ∷ Told (Phase ShutdownRuntimes 0) ∷ Told (Phase ShutdownStarted 0) ∷ Got (Signal FastShutdown)
    ∷ Got (Adopted 0 0) ∷ taken) Taken
unfolding is_utf8 chars encode is_well_formed words is_sayable message_bytes
new-stopped = record { lacking = refl; closed = refl; kept = refl; old_right = refl; new_right = refl }
