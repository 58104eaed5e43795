-- What contracts see of a server's sockets, and what an event or an action changes of it.
use Rattle.std.specs.Prelude.{◌≡◌, ℕ, ◌+◌, ◌≤◌, ◌⊎◌, Bool, true, false, List, [], ◌∷◌, ◌++◌, Option, Some, None}
use Rattle.svc_sockets.specs.OpenSockets.{number_behind, without}
use Rattle.svc_record.specs.declared.action.Action.{Action}
use Rattle.svc_record.specs.declared.action.Action.TheVariants as actions
use Rattle.svc_record.specs.declared.action.ExecutionPhase.TheVariants.{Terminated}
use Rattle.svc_record.specs.declared.event.Event.{Event}
use Rattle.svc_record.specs.declared.event.Event.TheVariants as events

-- the numbers of the open listeners and of the connections, each with the next one; the last moment that was told; the server
-- accepts no more; the server has ended
pub record SocketsData : Type 0 where
  pub listeners : List ℕ
  pub next_listener : ℕ
  pub connections : List ℕ
  pub next_connection : ℕ
  pub moment : ℕ
  pub is_draining : Bool
  pub has_ended : Bool

-- the numbers but for these
abbrev pub without_all : List ℕ → List ℕ → List ℕ
without_all [] numbers = numbers
without_all (gone ∷ rest) numbers = without_all rest (without gone numbers)

-- what this event changes, where it is told: a moment is 100 ms later than the last one at least; a connection comes, and an accept
-- fails, only before the broadcast; an accept loop ends only behind it
abbrev pub Tells : Event → SocketsData → SocketsData → Type 0
Tells (events.Moment ms) before now = (before.moment + 100 ≤ ms) × (now ≡ record before { moment = ms })
Tells (events.Received bytes fds) before now =
    now ≡ record before { listeners = before.listeners ++ fds; next_listener = now.next_listener }
Tells (events.Arrived s i c peer) before now =
    (before.is_draining ≡ false)
    × (c ≡ before.next_connection)
    × (now ≡ record before { connections = before.connections ++ c ∷ []; next_connection = number_behind c })
Tells (events.AcceptFailed s i number) before now = (before.is_draining ≡ false) × (now ≡ before)
Tells (events.Finished c) before now = now ≡ record before { connections = without c before.connections }
Tells (events.LoopEnded s i number) before now = (before.is_draining ≡ true) × (now ≡ before)
Tells event before now = now ≡ before

-- the event is told, or nothing changes
abbrev pub TellsNext : Option Event → SocketsData → SocketsData → Type 0
TellsNext None before now = now ≡ before
TellsNext (Some event) before now = Tells event before now

-- after this event is taken back: what it brought is closed
abbrev pub refused : Event → SocketsData → SocketsData
refused (events.Arrived s i c peer) before = record before { connections = without c before.connections }
refused (events.Bound s i fd) before = record before { listeners = without fd before.listeners }
refused (events.Received bytes fds) before = record before { listeners = without_all fds before.listeners }
refused event before = before

-- a bind opens the next listener, or none
abbrev pub Binds : SocketsData → SocketsData → Type 0
Binds before now =
    (now ≡ record before { listeners = now.listeners; next_listener = now.next_listener })
    × ((now.listeners ≡ before.listeners) ⊎ (now.listeners ≡ before.listeners ++ before.next_listener ∷ []))

-- after this action, where it is one on a connection
abbrev pub on_connections : Action → SocketsData → SocketsData
on_connections (actions.Refuse c) before = record before { connections = without c before.connections }
on_connections (actions.Drop c) before = record before { connections = without c before.connections }
on_connections (actions.Cut c) before = record before { connections = without c before.connections }
on_connections action before = before

-- what this action changes
abbrev pub Performs : Action → SocketsData → SocketsData → Type 0
Performs (actions.Bind s i) before now = Binds before now
Performs (actions.Close fd) before now = now ≡ record before { listeners = without fd before.listeners }
Performs (actions.Refuse c) before now = now ≡ record before { connections = without c before.connections }
Performs (actions.Drop c) before now = now ≡ record before { connections = without c before.connections }
Performs (actions.Cut c) before now = now ≡ record before { connections = without c before.connections }
Performs actions.Broadcast before now = now ≡ record before { is_draining = true }
Performs (actions.Phase Terminated ms) before now = now ≡ record before { has_ended = true }
Performs action before now = now ≡ before
