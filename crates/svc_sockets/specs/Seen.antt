-- What contracts see of a server's sockets.
use Rattle.std.specs.Prelude.{ℕ, List, map, vec_len}
use Rattle.svc_sockets.specs.OpenSockets.{open_numbers}
use Rattle.svc_sockets.specs.SocketsData.{SocketsData}
use Rattle.svc_sockets.specs.declared.connections.Connection.{Connection}
use Rattle.svc_sockets.specs.declared.sockets.Sockets.{Sockets}

-- the numbers of connections
abbrev pub connection_numbers : List Connection → List ℕ
connection_numbers connections = map (λ connection. connection.number) connections

-- what is seen of the sockets
abbrev pub seen : Sockets → SocketsData
seen sockets = record {
  listeners = open_numbers sockets.descriptors;
  next_listener = sockets.descriptors.next;
  connections = connection_numbers sockets.connections.items;
  next_connection = sockets.number;
  moment = sockets.moment;
  is_draining = sockets.is_draining;
  has_ended = sockets.has_ended;
}

-- how many endpoints they know
abbrev pub endpoint_count : Sockets → ℕ
endpoint_count sockets = vec_len sockets.endpoints

-- how many accept loops an endpoint has
abbrev pub loop_count : Sockets → ℕ
loop_count sockets = sockets.tasks
