-- Which peers the filters of a script's services refuse.
use Rattle.std.specs.Prelude.{ℕ, Bool, false, not, ◌==◌, nat_lt, List, [], length, map, filter, count_by, slice_get, Option, Some, None, unwrap_or, if◌then◌else◌}
use Rattle.std.specs.List.{list_any}
use Rattle.svc_socket.specs.Peers.{ip6_number}
use Rattle.svc_socket.specs.declared.peer.PeerAddr.{PeerAddr}
use Rattle.svc_socket.specs.declared.peer.PeerAddr.TheVariants as addr
use Rattle.svc_socket.specs.declared.reading.IpNumber.{IpNumber}
use Rattle.svc_socket.specs.declared.reading.IpNumber.TheVariants as ip
use Rattle.svc_record.specs.Connections.{Verdict}
use Rattle.svc_text.specs.declared.service.ServiceLine.{ServiceLine}

-- the peer has this address, on whatever port
abbrev pub is_at : PeerAddr → IpNumber → Bool
is_at (addr.V4 n port) (ip.V4 m) = n == m
is_at (addr.V6 high low port) (ip.V6 m) = ip6_number high low == m
is_at _ _ = false

-- the peer's address is among the blocked ones; a peer of a Unix socket has none
abbrev pub is_blocked : List IpNumber → Option PeerAddr → Bool
is_blocked blocked (Some peer) = list_any (is_at peer) blocked
is_blocked blocked None = false

-- the service blocks addresses
abbrev pub blocks : ServiceLine → Bool
blocks x = nat_lt 0 (length x.blocked)

-- the number of the filter of a service behind these: those that block addresses have one each, in their order
abbrev pub filter_number : List ServiceLine → ServiceLine → Option ℕ
filter_number before x = if blocks x then Some (count_by blocks before) else None

-- the addresses that each filter of the services blocks, in the order of the filters
abbrev pub blocked_lists : List ServiceLine → List (List IpNumber)
blocked_lists services = map (λ (x : ServiceLine). x.blocked) (filter blocks services)

-- what the filters of the services answer: no exactly to a blocked address
abbrev pub script_verdict : List ServiceLine → Verdict
script_verdict services number asked peer = not (is_blocked (unwrap_or (slice_get (blocked_lists services) number) []) peer)
