-- The first words of the lines of events and actions.
use Rattle.std.specs.Prelude.{ℕ, List, codes}
use Rattle.svc_record.specs.declared.event.Event.{Event}
use Rattle.svc_record.specs.declared.event.Event.TheVariants as events
use Rattle.svc_record.specs.declared.action.Action.{Action}
use Rattle.svc_record.specs.declared.action.Action.TheVariants as actions

-- the first word of an event's line
abbrev pub event_keyword : Event → List ℕ
event_keyword (events.Moment _) = codes "moment"
event_keyword (events.Ready _) = codes "ready"
event_keyword (events.Ended _) = codes "ended"
event_keyword (events.Bound _ _ _) = codes "bound"
event_keyword (events.InUse _ _) = codes "inuse"
event_keyword (events.BindFailed _ _) = codes "bindfailed"
event_keyword (events.Adopted _ _) = codes "adopted"
event_keyword (events.AdoptFailed _ _) = codes "adoptfailed"
event_keyword (events.Received _ _) = codes "received"
event_keyword events.NoSenderYet = codes "nosender"
event_keyword events.ReceiveFailed = codes "receivefailed"
event_keyword events.Connected = codes "connected"
event_keyword events.NotThere = codes "notthere"
event_keyword events.StillConnecting = codes "connecting"
event_keyword events.ConnectFailed = codes "connectfailed"
event_keyword events.Sent = codes "sent"
event_keyword events.SendBusy = codes "sendbusy"
event_keyword events.SendFailed = codes "sendfailed"
event_keyword (events.Arrived _ _ _ _) = codes "arrived"
event_keyword (events.AcceptFailed _ _ _) = codes "acceptfailed"
event_keyword (events.Set _ _) = codes "set"
event_keyword (events.Shaken _ _) = codes "shaken"
event_keyword (events.Finished _) = codes "finished"
event_keyword (events.LoopEnded _ _ _) = codes "loopended"
event_keyword (events.Signal _) = codes "signal"
event_keyword (events.Side _) = codes "side"
event_keyword events.ChildReady = codes "childready"
event_keyword events.ChildGone = codes "childgone"
event_keyword events.DropFailed = codes "dropfailed"

-- the first word of an action's line
abbrev pub action_keyword : Action → List ℕ
action_keyword (actions.Start _) = codes "start"
action_keyword (actions.Fail _) = codes "fail"
action_keyword (actions.Bind _ _) = codes "bind"
action_keyword (actions.Adopt _ _ _) = codes "adopt"
action_keyword (actions.Close _) = codes "close"
action_keyword actions.OpenReceiver = codes "openreceiver"
action_keyword actions.TryReceive = codes "tryreceive"
action_keyword actions.NotifyParent = codes "notifyparent"
action_keyword actions.Connect = codes "connect"
action_keyword (actions.Send _ _) = codes "send"
action_keyword (actions.Phase _ _) = codes "phase"
action_keyword actions.Broadcast = codes "broadcast"
action_keyword (actions.Judged _ _) = codes "judged"
action_keyword (actions.Refuse _) = codes "refuse"
action_keyword (actions.Settings _ _) = codes "settings"
action_keyword (actions.Handshake _) = codes "handshake"
action_keyword (actions.Serve _) = codes "serve"
action_keyword (actions.Drop _) = codes "drop"
action_keyword (actions.Rest _ _) = codes "rest"
action_keyword (actions.Cut _) = codes "cut"
action_keyword (actions.Stop _) = codes "stop"
action_keyword actions.Daemonize = codes "daemonize"
