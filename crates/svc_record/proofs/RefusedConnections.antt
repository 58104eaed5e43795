-- Records with an offer, a connection or a cut that no server leaves: each is refused, by the clauses that say why.
use Rattle.std.proofs.Common.{true, [], ◌∷◌, ◌++◌, codes, refl}
use Rattle.svc_base.specs.declared.settings.Setting.TheVariants.{NoDelay}
use Rattle.svc_socket.specs.declared.peer.Peer.TheVariants.{Unix}
use Rattle.svc_fds.specs.Messages.{is_sayable, message_bytes}
use Rattle.svc_record.specs.declared.entry.Entry.TheVariants.{Got, Told}
use Rattle.svc_record.specs.declared.event.Event.TheVariants.{Connected, NotThere, SendBusy, Arrived, AcceptFailed, Signal}
use Rattle.svc_record.specs.declared.event.ShutdownSignal.TheVariants.{FastShutdown, GracefulUpgrade}
use Rattle.svc_record.specs.declared.action.Action.TheVariants.{Connect, Send, Judged, Refuse, Settings, Handshake, Serve, Drop, Cut, Rest, Close, Phase, Stop}
use Rattle.svc_record.specs.declared.action.ExecutionPhase.TheVariants.{GracefulUpgradeTransferringFds, ShutdownStarted, ShutdownRuntimes, Terminated}
use Rattle.svc_record.specs.Record.{Record}
use Rattle.svc_record.proofs.Clauses.{ConnectionKnown, RetryInTurn, OneAsk, OfferGoes, OfferInTurn, Connections, Rests, RestInTurn, NoEnd, LastActions, LastStep, OfferOfAll, ConnectionsOfAll, IsRefusedBy}
use Rattle.svc_record.proofs.TwoServices.{plan, bound}

-- an upgrade is asked for, and the offer begins
abbrev offering : Record
offering = Told (Phase GracefulUpgradeTransferringFds 0) ∷ Got (Signal GracefulUpgrade) ∷ bound

-- the table is sent once
abbrev sending : Record
sending = Told (Send (codes "127.0.0.1:80") (7 ∷ [])) ∷ Got Connected ∷ Told Connect ∷ offering

-- the whole end, in whose step these entries stand first
abbrev ended_with : Record → Record
ended_with first =
    Told (Phase Terminated 0) ∷ Told (Stop 0) ∷ Told (Close 7) ∷ Told (Phase ShutdownRuntimes 0) ∷ Told (Phase ShutdownStarted 0) ∷ first
    ++ Got (Signal FastShutdown) ∷ bound

-- a successor is asked for, and no upgrade
connect_unasked : IsRefusedBy plan (Told Connect ∷ bound) (OfferInTurn ∷ [])
connect_unasked = (refl, refl)

-- the table is sent, and nobody asked for it
send_unasked : IsRefusedBy plan (Told (Send (codes "127.0.0.1:80") (7 ∷ [])) ∷ bound) (OfferInTurn ∷ [])
send_unasked = (refl, refl)

-- a successor is asked for in the last step
connect_in_last_step : IsRefusedBy plan (ended_with (Told Connect ∷ [])) (LastStep ∷ OfferOfAll ∷ [])
connect_in_last_step = (refl, refl)

-- an upgrade is asked for, and no successor is
connect_left_out : IsRefusedBy plan (offering) (OneAsk ∷ OfferGoes ∷ [])
unfolding is_sayable
connect_left_out = (refl, refl)

-- nobody was there, and it is tried again at once
connect_at_once : IsRefusedBy plan (Told Connect ∷ Got NotThere ∷ Told Connect ∷ offering) (RetryInTurn ∷ OneAsk ∷ [])
unfolding is_sayable
connect_at_once = (refl, refl)

-- the successor was busy, and the table is sent again at once
send_at_once : IsRefusedBy plan (Told (Send (codes "127.0.0.1:80") (7 ∷ [])) ∷ Got SendBusy ∷ sending) (RetryInTurn ∷ OneAsk ∷ [])
unfolding is_sayable message_bytes
send_at_once = (refl, refl)

-- a connection is judged that never arrived
judged_unasked : IsRefusedBy plan (Told (Judged 3 true) ∷ bound) (ConnectionKnown ∷ [])
judged_unasked = (refl, refl)

-- such a one is refused
refuse_unasked : IsRefusedBy plan (Told (Refuse 3) ∷ bound) (ConnectionKnown ∷ [])
refuse_unasked = (refl, refl)

-- such a one gets its settings
settings_unasked : IsRefusedBy plan (Told (Settings 3 (NoDelay ∷ [])) ∷ bound) (ConnectionKnown ∷ [])
settings_unasked = (refl, refl)

-- such a one is asked for its handshake
handshake_unasked : IsRefusedBy plan (Told (Handshake 3) ∷ bound) (ConnectionKnown ∷ [])
handshake_unasked = (refl, refl)

-- such a one is served
serve_unasked : IsRefusedBy plan (Told (Serve 3) ∷ bound) (ConnectionKnown ∷ [])
serve_unasked = (refl, refl)

-- such a one is dropped
drop_unasked : IsRefusedBy plan (Told (Drop 3) ∷ bound) (ConnectionKnown ∷ [])
drop_unasked = (refl, refl)

-- such a one is cut
cut_unasked : IsRefusedBy plan (Told (Cut 3) ∷ bound) (ConnectionKnown ∷ NoEnd ∷ [])
cut_unasked = (refl, refl)

-- it is cut in the last step
cut_in_last_step : IsRefusedBy plan
    (Told (Phase Terminated 0) ∷ Told (Stop 0) ∷ Told (Close 7) ∷ Told (Cut 3) ∷ Told (Phase ShutdownRuntimes 0) ∷ Told (Phase ShutdownStarted 0)
    ∷ Got (Signal FastShutdown) ∷ bound) (ConnectionKnown ∷ LastActions ∷ [])
cut_in_last_step = (refl, refl)

-- a loop rests though accepting didn't fail
rest_unasked : IsRefusedBy plan (Told (Rest 1 0) ∷ bound) (Rests ∷ RestInTurn ∷ [])
rest_unasked = (refl, refl)

-- something rests that is no endpoint
rest_of_none : IsRefusedBy plan (Told (Rest 0 0) ∷ bound) (ConnectionKnown ∷ Rests ∷ RestInTurn ∷ [])
rest_of_none = (refl, refl)

-- a loop rests in the last step
rest_in_last_step : IsRefusedBy plan (ended_with (Told (Rest 1 0) ∷ [])) (LastStep ∷ ConnectionsOfAll ∷ [])
rest_in_last_step = (refl, refl)

-- accepting failed since too many files are open, and the loop doesn't rest
rest_left_out : IsRefusedBy plan (Got (AcceptFailed 1 0 24) ∷ bound) (Rests ∷ [])
rest_left_out = (refl, refl)

-- a connection arrived, and isn't judged
judged_left_out : IsRefusedBy plan (Got (Arrived 1 0 3 Unix) ∷ bound) (Connections ∷ [])
judged_left_out = (refl, refl)
