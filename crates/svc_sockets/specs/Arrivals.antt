-- What is told of an endpoint at which a connection was to be accepted.
use Rattle.std.specs.Prelude.{◌≡◌, ℕ}
use Rattle.svc_record.specs.declared.event.Event.{Event}
use Rattle.svc_record.specs.declared.event.Event.TheVariants as events
use Rattle.svc_socket.specs.declared.peer.Peer.TheVariants.{Inet}
use Rattle.svc_socket.specs.declared.peer.PeerAddr.{PeerAddr}
use Rattle.svc_sockets.specs.declared.connections.Connection.{Connection}
use Rattle.svc_sockets.specs.declared.endpoints.Endpoint.{Endpoint}

-- the accept failed there with this number
abbrev pub failed_at : ℕ → Endpoint → Event
failed_at number endpoint = events.AcceptFailed endpoint.service endpoint.number number

-- this connection came there from this address
abbrev pub arrived_at : ℕ → PeerAddr → Endpoint → Event
arrived_at c address endpoint = events.Arrived endpoint.service endpoint.number c (Inet address)

-- the connection is noted as the event tells it
abbrev pub IsNoteOf : Connection → Event → Type 0
IsNoteOf connection (events.Arrived s i c peer) = (connection.service ≡ s) × (connection.endpoint ≡ i) × (connection.number ≡ c)
IsNoteOf connection event = ⊥
