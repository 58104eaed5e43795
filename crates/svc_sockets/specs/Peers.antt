-- Who is at the other end of a socket of std.
use Rattle.std.specs.Net.Addr.{ipv4_bits, ipv6_bits}
use Rattle.std.specs.Net.Socket.{v4_ip, v4_port, v6_ip, v6_port}
use Rattle.std.specs.declared.net.socket_addr.SocketAddr.{SocketAddr}
use Rattle.std.specs.declared.net.socket_addr.SocketAddr.TheVariants as sockets
use Rattle.svc_socket.specs.Peers.{peer6}
use Rattle.svc_socket.specs.declared.peer.PeerAddr.{PeerAddr}
use Rattle.svc_socket.specs.declared.peer.PeerAddr.TheVariants.{V4}

-- the number of the address, and its port
abbrev pub peer_address : SocketAddr → PeerAddr
peer_address (sockets.V4 addr) = V4 (ipv4_bits (v4_ip addr)) (v4_port addr)
peer_address (sockets.V6 addr) = peer6 (ipv6_bits (v6_ip addr)) (v6_port addr)
