-- Kinds of events.
use Rattle.std.specs.Prelude.{Bool, true, false}
use Rattle.svc_record.specs.declared.event.Event.{Event}
use Rattle.svc_record.specs.declared.event.Event.TheVariants as events

-- no memory is wanted for its step
abbrev pub is_plain : Event → Bool
is_plain (events.Moment _) = false
is_plain (events.Bound _ _ _) = false
is_plain (events.Received _ _) = false
is_plain events.Connected = false
is_plain (events.Arrived _ _ _ _) = false
is_plain (events.LoopEnded _ _ _) = false
is_plain (events.Signal _) = false
is_plain events.NotThere = true
is_plain events.StillConnecting = true
is_plain events.ConnectFailed = true
is_plain events.Sent = true
is_plain events.SendBusy = true
is_plain events.SendFailed = true
is_plain (events.Ready _) = true
is_plain (events.Ended _) = true
is_plain (events.InUse _ _) = true
is_plain (events.BindFailed _ _) = true
is_plain (events.Adopted _ _) = true
is_plain (events.AdoptFailed _ _) = true
is_plain events.NoSenderYet = true
is_plain events.ReceiveFailed = true
is_plain (events.AcceptFailed _ _ _) = true
is_plain (events.Set _ _) = true
is_plain (events.Shaken _ _) = true
is_plain (events.Finished _) = true
is_plain (events.Side _) = true
is_plain events.ChildReady = true
is_plain events.ChildGone = true
is_plain events.DropFailed = true

-- an answer to a connect or a send that doesn't connect
abbrev pub is_answer : Event → Bool
is_answer events.NotThere = true
is_answer events.StillConnecting = true
is_answer events.ConnectFailed = true
is_answer events.Sent = true
is_answer events.SendBusy = true
is_answer events.SendFailed = true
is_answer (events.Moment _) = false
is_answer (events.Bound _ _ _) = false
is_answer (events.Received _ _) = false
is_answer events.Connected = false
is_answer (events.Arrived _ _ _ _) = false
is_answer (events.LoopEnded _ _ _) = false
is_answer (events.Signal _) = false
is_answer (events.Ready _) = false
is_answer (events.Ended _) = false
is_answer (events.InUse _ _) = false
is_answer (events.BindFailed _ _) = false
is_answer (events.Adopted _ _) = false
is_answer (events.AdoptFailed _ _) = false
is_answer events.NoSenderYet = false
is_answer events.ReceiveFailed = false
is_answer (events.AcceptFailed _ _ _) = false
is_answer (events.Set _ _) = false
is_answer (events.Shaken _ _) = false
is_answer (events.Finished _) = false
is_answer (events.Side _) = false
is_answer events.ChildReady = false
is_answer events.ChildGone = false
is_answer events.DropFailed = false
