-- Records of a beginning that no server leaves: each is refused, by the clauses that say why.
use Rattle.std.proofs.Common.{true, [], ◌∷◌, codes, refl}
use Rattle.std.specs.Str.{is_utf8, chars}
use lib.Utf8.{encode}
use Rattle.svc_fds.specs.Messages.{is_well_formed, words}
use Rattle.svc_record.specs.declared.plan.Plan.{Plan}
use Rattle.svc_record.specs.declared.entry.Entry.TheVariants.{Got, Told}
use Rattle.svc_record.specs.declared.event.Event.TheVariants.{Moment as Time, Ended, Bound, Received, NoSenderYet, ReceiveFailed, Side as Forked}
use Rattle.svc_record.specs.declared.event.Side.TheVariants.{Child}
use Rattle.svc_record.specs.declared.action.Action.TheVariants.{Start, Bind, Adopt, Close, OpenReceiver, TryReceive, NotifyParent, Phase, Daemonize}
use Rattle.svc_record.specs.declared.action.ExecutionPhase.TheVariants.{Bootstrap, BootstrapComplete, Running}
use Rattle.svc_record.specs.Record.{Record}
use Rattle.svc_record.proofs.Clauses.{EventFits, StartInTurn, AskInTurn, Moment, BootInTurn, TryInTurn, Beginning, ForkIsFirst, ForkBeforeAll, BootBeforeStarts, Closes, OneLive, Endpoints, EndpointsLate, SilentEnd, TestStep, TestCloses, TestForked, TestBegun, TestBootBeforeStarts, TestStarts, TestEndpoints, IsRefusedBy}
use Rattle.svc_record.proofs.TwoServices.{plan_of, listening}
use Rattle.svc_record.proofs.ChainOfServices.{service}
use Rattle.svc_record.proofs.InheritedSockets.{plan as claiming_plan, one_address, begun, received}
use Rattle.svc_record.proofs.UnreadableMessage.{repeated}
use Rattle.svc_record.proofs.BootstrapService.{plan as bootstrapping_plan, begun as both_begun, bootstrapping, alone}
use Rattle.svc_record.proofs.AbsentSender.{plan as absent_plan, once}
use Rattle.svc_record.proofs.TestedRun.{eager as eager_test, plan as tested_plan, waiting}

-- an older server without sockets answered
abbrev answered : Record
answered = Got (Received [] []) ∷ begun

-- bootstrapping comes first, and nothing is to be received
abbrev first : Plan
first = record (plan_of (service (codes "a") [] ∷ [])) { eager = true }

-- a service that bootstraps is started before one that waits for it
abbrev alone_begun : Record
alone_begun = Told (Phase Running 0) ∷ Told (Start 1) ∷ Told (Phase BootstrapComplete 0) ∷ Told (Phase Bootstrap 0) ∷ Told (Start 0) ∷ []

-- a server that becomes a daemon
abbrev daemon : Plan
daemon = record (plan_of (service (codes "a") [] ∷ [])) { daemon = true }

-- two services, of which the second bootstraps a server that is tested
abbrev two_tested : Plan
two_tested = record (plan_of (service (codes "a") [] ∷ bootstrapping ∷ [])) { test = true }

-- the first of them bootstraps
abbrev later_tested : Plan
later_tested = record (plan_of (bootstrapping ∷ service (codes "a") [] ∷ [])) { test = true }

-- one service that listens, before one that bootstraps a server that is tested
abbrev listening_tested : Plan
listening_tested = record (plan_of (listening [] (codes "127.0.0.1:80") ∷ bootstrapping ∷ [])) { test = true }

-- one service, in a server that is tested and bootstraps first
abbrev eager_tested : Plan
eager_tested = record (plan_of (service (codes "a") [] ∷ [])) { test = true; eager = true }

-- a try to receive is told while one is open
try_twice : IsRefusedBy absent_plan (Told TryReceive ∷ begun) (TryInTurn ∷ [])
try_twice = (refl, refl)

-- the receiver is tried before it is opened
try_before_receiver : IsRefusedBy absent_plan (Told OpenReceiver ∷ Told TryReceive ∷ Told (Phase Bootstrap 0) ∷ []) (TryInTurn ∷ [])
try_before_receiver = (refl, refl)

-- nobody was there, and it is tried again at once
try_at_once : IsRefusedBy absent_plan (Told TryReceive ∷ Got NoSenderYet ∷ begun) (TryInTurn ∷ [])
try_at_once = (refl, refl)

-- before the rest of 1,000 ms is over
try_early : IsRefusedBy absent_plan (Told TryReceive ∷ Got (Time 999) ∷ Got NoSenderYet ∷ begun) (TryInTurn ∷ [])
try_early = (refl, refl)

-- after its rest it isn't tried again
try_left_out : IsRefusedBy absent_plan (Got (Time 1000) ∷ Got NoSenderYet ∷ begun) (Beginning ∷ [])
try_left_out = (refl, refl)

-- it is tried again after a message came
try_after_message : IsRefusedBy absent_plan (Told TryReceive ∷ Told (Phase Running 0) ∷ Told (Phase BootstrapComplete 0) ∷ answered) (TryInTurn ∷ [])
unfolding is_utf8 chars encode is_well_formed words
try_after_message = (refl, refl)

-- it is tried where nothing is to be received
try_unasked : IsRefusedBy first (Told TryReceive ∷ Told (Phase Running 0) ∷ Told (Start 0) ∷ Told (Phase BootstrapComplete 0) ∷ Told (Phase Bootstrap 0) ∷ [])
    (TryInTurn ∷ Beginning ∷ [])
try_unasked = (refl, refl)

-- the first try isn't told
first_try_left_out : IsRefusedBy absent_plan (Told OpenReceiver ∷ Told (Phase Bootstrap 0) ∷ []) (Beginning ∷ [])
first_try_left_out = (refl, refl)

-- the receiver isn't opened
receiver_left_out : IsRefusedBy absent_plan (Told TryReceive ∷ Told (Phase Bootstrap 0) ∷ []) (TryInTurn ∷ Beginning ∷ [])
receiver_left_out = (refl, refl)

-- the receiver is opened twice
receiver_twice : IsRefusedBy absent_plan (Told OpenReceiver ∷ begun) (Beginning ∷ [])
receiver_twice = (refl, refl)

-- the receiver is opened before bootstrapping begins
receiver_first : IsRefusedBy absent_plan (Told TryReceive ∷ Told (Phase Bootstrap 0) ∷ Told OpenReceiver ∷ []) (BootInTurn ∷ [])
receiver_first = (refl, refl)

-- it is tried before bootstrapping begins
try_first : IsRefusedBy absent_plan (Told (Phase Bootstrap 0) ∷ Told TryReceive ∷ Told OpenReceiver ∷ []) (BootInTurn ∷ [])
try_first = (refl, refl)

-- bootstrapping begins twice
bootstrap_twice : IsRefusedBy absent_plan (Told (Phase Bootstrap 0) ∷ begun) (Beginning ∷ [])
bootstrap_twice = (refl, refl)

-- bootstrapping isn't told
bootstrap_left_out : IsRefusedBy absent_plan (Told TryReceive ∷ Told OpenReceiver ∷ []) (BootInTurn ∷ Beginning ∷ [])
bootstrap_left_out = (refl, refl)

-- a service that bootstraps is started, and bootstrapping isn't told
bootstrap_of_service_left_out : IsRefusedBy bootstrapping_plan (Told (Phase Running 0) ∷ Told (Start 1) ∷ Told (Bind 0 0) ∷ Told (Start 0) ∷ [])
    (Beginning ∷ [])
bootstrap_of_service_left_out = (refl, refl)

-- bootstrapping carries another moment
bootstrap_moment_wrong : IsRefusedBy absent_plan (Told TryReceive ∷ Told OpenReceiver ∷ Told (Phase Bootstrap 9) ∷ []) (Moment ∷ [])
bootstrap_moment_wrong = (refl, refl)

-- bootstrapping is complete without a message
complete_without_message : IsRefusedBy absent_plan (Told (Phase Running 0) ∷ Told (Phase BootstrapComplete 0) ∷ begun) (Beginning ∷ [])
complete_without_message = (refl, refl)

-- a message came, and bootstrapping isn't complete
complete_left_out : IsRefusedBy absent_plan (answered) (Beginning ∷ [])
unfolding is_utf8 chars encode is_well_formed words
complete_left_out = (refl, refl)

-- bootstrapping is complete before it begins
complete_first : IsRefusedBy first (Told (Phase Running 0) ∷ Told (Start 0) ∷ Told (Phase Bootstrap 0) ∷ Told (Phase BootstrapComplete 0) ∷ [])
    (BootInTurn ∷ [])
complete_first = (refl, refl)

-- the run runs before a message came
running_before_message : IsRefusedBy absent_plan (Told (Phase Running 0) ∷ begun) (BootInTurn ∷ Beginning ∷ [])
running_before_message = (refl, refl)

-- it runs before bootstrapping is complete
running_before_complete : IsRefusedBy absent_plan (Told (Phase BootstrapComplete 0) ∷ Told (Phase Running 0) ∷ answered) (BootInTurn ∷ [])
unfolding is_utf8 chars encode is_well_formed words
running_before_complete = (refl, refl)

-- a service starts before a message came
start_before_message : IsRefusedBy one_address (Told (Bind 0 0) ∷ Told (Start 0) ∷ begun) (BootBeforeStarts ∷ [])
start_before_message = (refl, refl)

-- a service starts before bootstrapping is complete
start_before_complete : IsRefusedBy first (Told (Phase Running 0) ∷ Told (Phase BootstrapComplete 0) ∷ Told (Start 0) ∷ Told (Phase Bootstrap 0) ∷ [])
    (BootBeforeStarts ∷ [])
start_before_complete = (refl, refl)

-- a service starts that waits for one that bootstraps still
dependent_before_complete : IsRefusedBy alone
    (Told (Phase Running 0) ∷ Told (Phase BootstrapComplete 0) ∷ Told (Start 1) ∷ Told (Phase Bootstrap 0) ∷ Told (Start 0) ∷ []) (StartInTurn ∷ [])
dependent_before_complete = (refl, refl)

-- the work of a service that bootstraps is done
ended_of_bootstrapping : IsRefusedBy alone (Got (Ended 0) ∷ alone_begun) (EventFits ∷ [])
ended_of_bootstrapping = (refl, refl)

-- a descriptor that no service names is kept
unclaimed_kept : IsRefusedBy one_address (Told (Phase Running 0) ∷ Told (Adopt 0 0 3) ∷ Told (Start 0) ∷ Told (Phase BootstrapComplete 0) ∷ received)
    (Closes ∷ [])
unfolding is_utf8 chars encode is_well_formed words
unclaimed_kept = (refl, refl)

-- a descriptor is closed that a service names
claimed_closed : IsRefusedBy claiming_plan
    (Told (Phase Running 0) ∷ Told (Adopt 0 0 3) ∷ Told (Start 0) ∷ Told (Phase BootstrapComplete 0) ∷ Told (Close 4) ∷ received) (Closes ∷ [])
unfolding is_utf8 chars encode is_well_formed words
claimed_closed = (refl, refl)

-- an address is bound whose descriptor was inherited
bind_beside_inherited : IsRefusedBy claiming_plan (Told (Phase Running 0) ∷ Told (Bind 0 0) ∷ Told (Start 0) ∷ Told (Phase BootstrapComplete 0) ∷ received)
    (AskInTurn ∷ [])
unfolding is_utf8 chars encode is_well_formed words
bind_beside_inherited = (refl, refl)

-- the inherited descriptor is closed, and the address bound
inherited_closed : IsRefusedBy claiming_plan
    (Told (Phase Running 0) ∷ Told (Bind 0 0) ∷ Told (Start 0) ∷ Told (Phase BootstrapComplete 0) ∷ Told (Close 3) ∷ received) (Closes ∷ [])
unfolding is_utf8 chars encode is_well_formed words
inherited_closed = (refl, refl)

-- the endpoint is offered the descriptor of another address
other_adopted : IsRefusedBy claiming_plan (Told (Phase Running 0) ∷ Told (Adopt 0 0 4) ∷ Told (Start 0) ∷ Told (Phase BootstrapComplete 0) ∷ received)
    (AskInTurn ∷ [])
unfolding is_utf8 chars encode is_well_formed words
other_adopted = (refl, refl)

-- the second descriptor of an address is offered
doubled_adopted : IsRefusedBy bootstrapping_plan
    (Told (Adopt 0 0 9) ∷ Got (Bound 0 0 9) ∷ Told (Phase BootstrapComplete 0) ∷ Got (Received (codes "127.0.0.1:80") (3 ∷ [])) ∷ both_begun)
    (Closes ∷ OneLive ∷ [])
unfolding is_utf8 chars encode is_well_formed words
doubled_adopted = (refl, refl)

-- the inherited descriptor is closed in place of the second one
own_kept : IsRefusedBy bootstrapping_plan
    (Told (Close 3) ∷ Got (Bound 0 0 9) ∷ Told (Phase BootstrapComplete 0) ∷ Got (Received (codes "127.0.0.1:80") (3 ∷ [])) ∷ both_begun)
    (Closes ∷ Endpoints ∷ EndpointsLate ∷ [])
unfolding is_utf8 chars encode is_well_formed words
own_kept = (refl, refl)

-- a message brings one number twice
number_received_twice : IsRefusedBy bootstrapping_plan (Told (Phase BootstrapComplete 0) ∷ Got (Received (codes "127.0.0.1:80 a:1") (5 ∷ 5 ∷ [])) ∷ both_begun)
    (EventFits ∷ [])
unfolding is_utf8 chars encode is_well_formed words
number_received_twice = (refl, refl)

-- a message brings the number of a descriptor that is open
number_received_again : IsRefusedBy bootstrapping_plan
    (Told (Phase BootstrapComplete 0) ∷ Got (Received (codes "a:1") (7 ∷ [])) ∷ Got (Bound 0 0 7) ∷ both_begun) (EventFits ∷ Closes ∷ [])
unfolding is_utf8 chars encode is_well_formed words
number_received_again = (refl, refl)

-- a message comes though no try is open
message_unasked : IsRefusedBy absent_plan (Got (Received [] []) ∷ Told (Phase Running 0) ∷ Told (Phase BootstrapComplete 0) ∷ answered) (EventFits ∷ [])
unfolding is_utf8 chars encode is_well_formed words
message_unasked = (refl, refl)

-- a close is told in the step in which an unreadable message came
told_after_bad_message : IsRefusedBy one_address (Told (Close 3) ∷ repeated) (SilentEnd ∷ [])
unfolding is_utf8 chars encode is_well_formed words
told_after_bad_message = (refl, refl)

-- a try is told though none is left
told_after_no_sender : IsRefusedBy once (Told TryReceive ∷ Got NoSenderYet ∷ begun) (TryInTurn ∷ SilentEnd ∷ [])
told_after_no_sender = (refl, refl)

-- something is told after receiving failed
told_after_failure : IsRefusedBy once (Told (Phase Running 0) ∷ Told (Phase BootstrapComplete 0) ∷ Got ReceiveFailed ∷ begun) (SilentEnd ∷ [])
told_after_failure = (refl, refl)

-- an event comes after receiving failed
event_after_failure : IsRefusedBy once (Got (Time 1) ∷ Got ReceiveFailed ∷ begun) (EventFits ∷ [])
event_after_failure = (refl, refl)

-- a tested run goes on after bootstrapping began
tested_and_goes_on : IsRefusedBy eager_test (Told (Phase BootstrapComplete 0) ∷ Told (Phase Bootstrap 0) ∷ []) (TestStep ∷ [])
tested_and_goes_on = (refl, refl)

-- a tested run starts services after bootstrapping began
tested_and_starts : IsRefusedBy later_tested (Told (Start 1) ∷ Told (Phase Bootstrap 0) ∷ Told (Start 0) ∷ []) (TestStep ∷ [])
tested_and_starts = (refl, refl)

-- a tested run that bootstraps first starts a service after that
eager_tested_and_starts : IsRefusedBy eager_tested (Told (Start 0) ∷ Told (Phase Bootstrap 0) ∷ []) (TestStep ∷ TestBootBeforeStarts ∷ [])
eager_tested_and_starts = (refl, refl)

-- it starts a service before
tested_after_start : IsRefusedBy eager_tested (Told (Phase Bootstrap 0) ∷ Told (Start 0) ∷ []) (TestBootBeforeStarts ∷ [])
tested_after_start = (refl, refl)

-- bootstrapping is told though nothing bootstraps
tested_unbegun : IsRefusedBy record (plan_of (service (codes "a") [] ∷ [])) { test = true } (Told (Phase Bootstrap 0) ∷ Told (Start 0) ∷ []) (TestBegun ∷ [])
tested_unbegun = (refl, refl)

-- a service that stands before the one that bootstraps isn't started
tested_too_soon : IsRefusedBy two_tested (Told (Phase Bootstrap 0) ∷ Told (Start 1) ∷ []) (TestStarts ∷ [])
tested_too_soon = (refl, refl)

-- its endpoint isn't bound
tested_unasked : IsRefusedBy listening_tested (Told (Phase Bootstrap 0) ∷ Told (Start 1) ∷ Told (Start 0) ∷ []) (TestEndpoints ∷ [])
tested_unasked = (refl, refl)

-- a descriptor is closed that isn't gone, as the test ends
tested_and_closes : IsRefusedBy tested_plan (Told (Phase Bootstrap 0) ∷ Told (Close 7) ∷ Told (Start 2) ∷ Got (Ended 0) ∷ waiting) (TestCloses ∷ [])
tested_and_closes = (refl, refl)

-- a daemon is tested without its fork
tested_unforked : IsRefusedBy record two_tested { daemon = true } (Told (Phase Bootstrap 0) ∷ Told (Start 1) ∷ Told (Start 0) ∷ []) (TestForked ∷ [])
tested_unforked = (refl, refl)

-- a parent is notified where there is none
notify_without_daemon : IsRefusedBy first
    (Told (Phase Running 0) ∷ Told (Start 0) ∷ Told (Phase BootstrapComplete 0) ∷ Told NotifyParent ∷ Told (Phase Bootstrap 0) ∷ []) (Beginning ∷ [])
notify_without_daemon = (refl, refl)

-- it is notified before bootstrapping begins
notify_first : IsRefusedBy first
    (Told (Phase Running 0) ∷ Told (Start 0) ∷ Told (Phase BootstrapComplete 0) ∷ Told (Phase Bootstrap 0) ∷ Told NotifyParent ∷ [])
    (BootInTurn ∷ Beginning ∷ [])
notify_first = (refl, refl)

-- a server forks that is no daemon
fork_without_daemon : IsRefusedBy first
    (Told (Phase Running 0) ∷ Told (Start 0) ∷ Told (Phase BootstrapComplete 0) ∷ Told (Phase Bootstrap 0) ∷ Told Daemonize ∷ []) (Beginning ∷ [])
fork_without_daemon = (refl, refl)

-- a daemon doesn't fork
fork_left_out : IsRefusedBy daemon (Told (Phase Running 0) ∷ Told (Start 0) ∷ []) (Beginning ∷ ForkBeforeAll ∷ [])
fork_left_out = (refl, refl)

-- it starts a service before it is the child
start_before_fork : IsRefusedBy daemon (Told (Phase Running 0) ∷ Got (Forked Child) ∷ Told (Start 0) ∷ Told Daemonize ∷ []) (ForkBeforeAll ∷ [])
start_before_fork = (refl, refl)

-- it forks after something else came
fork_late : IsRefusedBy daemon (Told Daemonize ∷ Got (Time 0) ∷ []) (Beginning ∷ ForkIsFirst ∷ [])
fork_late = (refl, refl)
