-- What the joined core is told of connections.
use Rattle.std.specs.Prelude.{Bool, true, false, not, ◌||◌, List}
use Rattle.std.specs.List.{list_all}
use Rattle.svc_record.specs.declared.entry.Entry.TheVariants.{Told}
use Rattle.svc_record.specs.declared.action.Action.{Action}
use Rattle.svc_record.specs.declared.action.Action.TheVariants.{Judged, Refuse, Settings as TellSettings, Handshake, Serve, Drop, Cut, Rest}
use Rattle.svc_record.specs.declared.event.Event.{Event}
use Rattle.svc_record.specs.declared.event.Event.TheVariants.{Arrived, AcceptFailed, Set, Shaken, Finished}
use Rattle.svc_record.specs.Record.{is_runtimes}

-- the event is one of connections
abbrev pub is_connection_event : Event → Bool
is_connection_event (Arrived s i c peer) = true
is_connection_event (AcceptFailed s i n) = true
is_connection_event (Set c ok) = true
is_connection_event (Shaken c ok) = true
is_connection_event (Finished c) = true
is_connection_event _ = false

-- the action is one of connections
abbrev pub is_connection_action : Action → Bool
is_connection_action (Judged c said) = true
is_connection_action (Refuse c) = true
is_connection_action (TellSettings c list) = true
is_connection_action (Handshake c) = true
is_connection_action (Serve c) = true
is_connection_action (Drop c) = true
is_connection_action (Rest s i) = true
is_connection_action (Cut c) = true
is_connection_action _ = false

-- the action is one of connections, or ends the run
abbrev pub touches_connections : Action → Bool
touches_connections a = is_connection_action a || is_runtimes (Told a)

-- none of them is one
abbrev pub has_no_connection_action : List Action → Bool
has_no_connection_action told = list_all (λ a. not (touches_connections a)) told
