-- The text of a peer: `-` where it isn't known, `unix`, or an address with its port.
use Rattle.std.specs.Prelude.{ℕ, ◌+◌, ◌*◌, ◌/◌, ◌%◌, ◌^◌, ◌<◌, false, List, [], ◌∷◌, ◌++◌, map, codes}
use Rattle.std.specs.List.{join_with_byte}
use Rattle.std.specs.Fmt.{decimal, digits}
use Rattle.svc_socket.specs.declared.peer.PeerAddr.{PeerAddr}
use Rattle.svc_socket.specs.declared.peer.PeerAddr.TheVariants.{V4, V6}
use Rattle.svc_socket.specs.declared.peer.Peer.{Peer}
use Rattle.svc_socket.specs.declared.peer.Peer.TheVariants.{Unknown, Unix, Inet}

-- the last four digits of a number in a base, the highest first
abbrev pub four_digits : ℕ → ℕ → List ℕ
four_digits base n = (n / base ^ 3) ∷ (n / base ^ 2 % base) ∷ (n / base % base) ∷ (n % base) ∷ []

-- the four numbers of an address of 32 bits
abbrev pub octets : ℕ → List ℕ
octets ip = four_digits (2 ^ 8) ip

-- the number of an address of 128 bits: its upper 64 bits and its lower ones
abbrev pub ip6_number : ℕ → ℕ → ℕ
ip6_number high low = high * 2 ^ 64 + low

-- the address of 128 bits with this number, and a port
abbrev pub peer6 : ℕ → ℕ → PeerAddr
peer6 ip port = V6 (ip / 2 ^ 64) (ip % 2 ^ 64) port

-- the eight groups of an address of 128 bits: four of each half
abbrev pub groups : ℕ → ℕ → List ℕ
groups high low = four_digits (2 ^ 16) high ++ four_digits (2 ^ 16) low

-- a group in lower-case hexadecimal digits without leading zeros
abbrev pub group_text : ℕ → List ℕ
group_text group = digits 16 false group

-- four groups with colons between them
abbrev pub half_text : ℕ → List ℕ
half_text half = join_with_byte 58 (map group_text (four_digits (2 ^ 16) half))

-- the address and its port
abbrev pub peer_addr_text : PeerAddr → List ℕ
peer_addr_text (V4 ip port) = join_with_byte 46 (map decimal (octets ip)) ++ codes ":" ++ decimal port
peer_addr_text (V6 high low port) = codes "[" ++ join_with_byte 58 (map group_text (groups high low)) ++ codes "]:" ++ decimal port

-- who is at the other end
abbrev pub peer_text : Peer → List ℕ
peer_text Unknown = codes "-"
peer_text Unix = codes "unix"
peer_text (Inet addr) = peer_addr_text addr

-- the numbers are those of their types
abbrev pub PeerAddrFits : PeerAddr → Type 0
PeerAddrFits (V4 ip port) = (ip < 2 ^ 32) × (port < 2 ^ 16)
PeerAddrFits (V6 high low port) = (high < 2 ^ 64) × (low < 2 ^ 64) × (port < 2 ^ 16)

abbrev pub PeerFits : Peer → Type 0
PeerFits Unknown = Unit {0}
PeerFits Unix = Unit {0}
PeerFits (Inet addr) = PeerAddrFits addr
