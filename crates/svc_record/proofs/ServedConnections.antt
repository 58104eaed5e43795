-- A run with connections: one is refused, one served, one dropped, and two are cut at the end.
use Rattle.std.proofs.Common.{true, false, [], ◌∷◌, ◌++◌, Some, codes, refl}
use Rattle.svc_base.specs.declared.settings.Setting.TheVariants.{NoDelay, Dscp}
use Rattle.svc_socket.specs.declared.peer.Peer.TheVariants.{Unknown, Unix, Inet}
use Rattle.svc_socket.specs.declared.peer.PeerAddr.{PeerAddr}
use Rattle.svc_socket.specs.declared.peer.PeerAddr.TheVariants.{V4}
use Rattle.svc_graph.specs.declared.plan.EndpointPlan.{EndpointPlan}
use Rattle.svc_record.specs.declared.plan.Plan.{Plan}
use Rattle.svc_record.specs.declared.entry.Entry.TheVariants.{Got, Told}
use Rattle.svc_record.specs.declared.event.Event.TheVariants.{Bound, Arrived, AcceptFailed, Set, Shaken, Finished, Signal}
use Rattle.svc_record.specs.declared.event.ShutdownSignal.TheVariants.{FastShutdown}
use Rattle.svc_record.specs.declared.action.Action.TheVariants.{Start, Bind, Judged, Refuse, Settings, Handshake, Serve, Drop, Cut, Rest, Close, Phase, Stop}
use Rattle.svc_record.specs.declared.action.ExecutionPhase.TheVariants.{Running, ShutdownStarted, ShutdownRuntimes, Terminated}
use Rattle.svc_record.specs.Record.{Record}
use Rattle.svc_record.specs.Right.{Right, Served}
use Rattle.svc_record.proofs.Sound.{right_from_test, served_from_test}
use Rattle.svc_record.proofs.Clauses.{EventFits, Connections, Rests, RestInTurn, LastActions, ConnectionsOfAll, IsRefusedBy}
use Rattle.svc_record.proofs.TwoServices.{plan_of, listening}

-- one service whose endpoint has a filter and an option
abbrev plan : Plan
plan = plan_of (record (listening [] (codes "127.0.0.1:80")) { endpoints = filtered ∷ [] } ∷ [])
  where
    filtered : EndpointPlan
    filtered = record { address = codes "127.0.0.1:80"; unix = false; options = Dscp 10 ∷ []; filter = Some 0 }

abbrev from_port : PeerAddr
from_port = V4 3232235777 8080

-- its endpoint is held
abbrev bound : Record
bound = Got (Bound 0 0 7) ∷ Told (Phase Running 0) ∷ Told (Bind 0 0) ∷ Told (Start 0) ∷ []

-- the filter refuses the first connection, and the second one's handshake is polled
abbrev shaking : Record
shaking = Told (Handshake 2) ∷ Got (Set 2 true) ∷ Told (Settings 2 (NoDelay ∷ Dscp 10 ∷ [])) ∷ Told (Judged 2 true) ∷ Got (Arrived 0 0 2 (Inet from_port))
    ∷ Told (Refuse 1) ∷ Told (Judged 1 false) ∷ Got (Arrived 0 0 1 (Inet from_port)) ∷ bound

-- it is served, and the settings of the third can't be applied
abbrev serving : Record
serving = Told (Drop 3) ∷ Got (Set 3 false) ∷ Told (Settings 3 (NoDelay ∷ Dscp 10 ∷ [])) ∷ Got (Arrived 0 0 3 Unknown) ∷ Told (Serve 2) ∷ Got (Shaken 2 true)
    ∷ shaking

-- a fourth is being set up
abbrev setting : Record
setting = Told (Settings 4 (NoDelay ∷ Dscp 10 ∷ [])) ∷ Told (Judged 4 true) ∷ Got (Arrived 0 0 4 Unix) ∷ serving

-- the end with these cuts
abbrev ended : Record → Record → Record
ended cuts before =
    Told (Phase Terminated 0) ∷ Told (Stop 0) ∷ Told (Close 7) ∷ cuts ++ Told (Phase ShutdownRuntimes 0) ∷ Told (Phase ShutdownStarted 0)
    ∷ Got (Signal FastShutdown) ∷ before

-- the whole run
abbrev run : Record
run = ended (Told (Cut 4) ∷ Told (Cut 2) ∷ []) setting

right : Right plan run
right = right_from_test plan run refl

served : Served plan run
served = served_from_test plan run refl

-- a connection that is finished isn't cut
finished-right : Right plan (ended [] (Got (Finished 2) ∷ serving))
finished-right = right_from_test plan (ended [] (Got (Finished 2) ∷ serving)) refl

-- a loop rests after it met too many open files, and after no other failure
rested-right : Right plan (Got (AcceptFailed 0 0 11) ∷ Told (Rest 0 0) ∷ Got (AcceptFailed 0 0 24) ∷ bound)
rested-right = right_from_test plan (Got (AcceptFailed 0 0 11) ∷ Told (Rest 0 0) ∷ Got (AcceptFailed 0 0 24) ∷ bound) refl

-- a live connection isn't cut
uncut : IsRefusedBy plan (ended (Told (Cut 2) ∷ []) setting) (LastActions ∷ ConnectionsOfAll ∷ [])
uncut = (refl, refl)

-- one is cut twice
cut_twice : IsRefusedBy plan (ended (Told (Cut 4) ∷ Told (Cut 2) ∷ Told (Cut 2) ∷ []) setting) (LastActions ∷ ConnectionsOfAll ∷ [])
cut_twice = (refl, refl)

-- they are cut in descending number
cut_backwards : IsRefusedBy plan (ended (Told (Cut 2) ∷ Told (Cut 4) ∷ []) setting) (LastActions ∷ [])
cut_backwards = (refl, refl)

-- a connection that was refused is cut
cut_refused : IsRefusedBy plan (ended (Told (Cut 4) ∷ Told (Cut 2) ∷ Told (Cut 1) ∷ []) setting) (LastActions ∷ ConnectionsOfAll ∷ [])
cut_refused = (refl, refl)

-- a connection is served before its handshake is done
served_early : IsRefusedBy plan (Told (Serve 2) ∷ shaking) (Connections ∷ [])
served_early = (refl, refl)

-- it isn't served after that
serve_left_out : IsRefusedBy plan (Got (Shaken 2 true) ∷ shaking) (Connections ∷ [])
serve_left_out = (refl, refl)

-- a connection is finished that isn't served yet
finished_early : IsRefusedBy plan (Got (Finished 2) ∷ shaking) (EventFits ∷ [])
finished_early = (refl, refl)

-- its handshake is done twice
shaken_twice : IsRefusedBy plan (Got (Shaken 2 true) ∷ Told (Serve 2) ∷ Got (Shaken 2 true) ∷ shaking) (EventFits ∷ [])
shaken_twice = (refl, refl)

-- a connection comes with a number that came before
arrived_twice : IsRefusedBy plan
    (Told (Refuse 1) ∷ Told (Judged 1 false) ∷ Got (Arrived 0 0 1 Unix) ∷ Told (Refuse 1) ∷ Told (Judged 1 false) ∷ Got (Arrived 0 0 1 Unix) ∷ bound)
    (EventFits ∷ Connections ∷ [])
arrived_twice = (refl, refl)

-- one comes to a service that doesn't serve
arrived_unserved : IsRefusedBy plan
    (Told (Settings 1 (NoDelay ∷ Dscp 10 ∷ [])) ∷ Got (Arrived 0 0 1 Unknown) ∷ Told (Phase Running 0) ∷ Told (Bind 0 0) ∷ Told (Start 0) ∷ []) (EventFits ∷ [])
arrived_unserved = (refl, refl)

-- an option of the endpoint isn't applied
setting_left_out : IsRefusedBy plan (Told (Settings 1 (NoDelay ∷ [])) ∷ Got (Arrived 0 0 1 Unknown) ∷ bound) (Connections ∷ [])
setting_left_out = (refl, refl)

-- a connection from nowhere is judged
judged_unknown : IsRefusedBy plan (Told (Settings 1 (NoDelay ∷ Dscp 10 ∷ [])) ∷ Told (Judged 1 true) ∷ Got (Arrived 0 0 1 Unknown) ∷ bound) (Connections ∷ [])
judged_unknown = (refl, refl)

-- one is refused that was allowed
refused_though_allowed : IsRefusedBy plan (Told (Refuse 1) ∷ Told (Judged 1 true) ∷ Got (Arrived 0 0 1 Unix) ∷ bound) (Connections ∷ [])
refused_though_allowed = (refl, refl)

-- a loop rests after another failure
rest_after_another : IsRefusedBy plan (Told (Rest 0 0) ∷ Got (AcceptFailed 0 0 11) ∷ bound) (Rests ∷ RestInTurn ∷ [])
rest_after_another = (refl, refl)
