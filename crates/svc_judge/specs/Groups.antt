-- Groups of events, and of what is asked of an event.
use Rattle.std.specs.Prelude.{Bool, true, false}
use Rattle.svc_record.specs.declared.event.Event.{Event}
use Rattle.svc_record.specs.declared.event.Event.TheVariants.{InUse, BindFailed, Adopted, AdoptFailed, NoSenderYet, ReceiveFailed, Connected, NotThere, StillConnecting, ConnectFailed, Sent, SendBusy, SendFailed, Set, Shaken, Side}
use Rattle.svc_judge.specs.declared.query.Answer.{Answer}
use Rattle.svc_judge.specs.declared.query.Answer.TheVariants.{Arrival, Finished, SettingsApplied, SettingsFailed, HandshakeDone, HandshakeFailed}

-- the event comes where the ask is open that it answers, and brings no descriptor
abbrev pub is_answer : Event → Bool
is_answer (InUse s i) = true
is_answer (BindFailed s i) = true
is_answer (Adopted s i) = true
is_answer (AdoptFailed s i) = true
is_answer NoSenderYet = true
is_answer ReceiveFailed = true
is_answer Connected = true
is_answer NotThere = true
is_answer StillConnecting = true
is_answer ConnectFailed = true
is_answer Sent = true
is_answer SendBusy = true
is_answer SendFailed = true
is_answer (Set c ok) = true
is_answer (Shaken c ok) = true
is_answer (Side side) = true
is_answer _ = false

-- what is asked is of a connection
abbrev pub is_on_connection : Answer → Bool
is_on_connection (Arrival c) = true
is_on_connection (Finished c) = true
is_on_connection (SettingsApplied c) = true
is_on_connection (SettingsFailed c) = true
is_on_connection (HandshakeDone c) = true
is_on_connection (HandshakeFailed c) = true
is_on_connection _ = false
