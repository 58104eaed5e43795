-- The address that a text spells, and the peer that a word names.
use Rattle.std.specs.Prelude.{ℕ, ◌+◌, ◌*◌, ◌^◌, Bool, not, ◌||◌, ◌&&◌, ◌==◌, nat_lt, nat_le, if◌then◌else◌, List, [], ◌∷◌, length, codes, slice_index, Option, Some, None}
use Rattle.std.specs.List.{list_all, slice_split}
use Rattle.std.specs.Option.{option_map, option_map_or, option_or}
use Rattle.std.specs.Str.{bytes_eq}
use Rattle.std.specs.Str.Parse.{digits_value}
use Rattle.svc_base.specs.Words.{number_of}
use Rattle.svc_base.specs.Options.{◌>>=◌}
use Rattle.svc_socket.specs.Peers.{peer6}
use Rattle.svc_socket.specs.declared.peer.PeerAddr.{PeerAddr}
use Rattle.svc_socket.specs.declared.peer.PeerAddr.TheVariants as addr
use Rattle.svc_socket.specs.declared.peer.Peer.{Peer}
use Rattle.svc_socket.specs.declared.peer.Peer.TheVariants.{Unknown, Unix, Inet}
use Rattle.svc_socket.specs.declared.reading.IpNumber.{IpNumber}
use Rattle.svc_socket.specs.declared.reading.IpNumber.TheVariants as ip

-- '0' to '9', or 'a' to 'f'
abbrev pub is_hex_digit : ℕ → Bool
is_hex_digit b = (nat_le 48 b && nat_le b 57) || (nat_le 97 b && nat_le b 102)

-- a zero before further digits
abbrev pub has_spare_zero : List ℕ → Bool
has_spare_zero word = (slice_index word 0 == 48) && nat_lt 1 (length word)

-- one to four bytes without a leading zero
abbrev pub is_short : List ℕ → Bool
is_short word = nat_lt 0 (length word) && nat_le (length word) 4 && not (has_spare_zero word)

-- one to four lower-case hexadecimal digits without a leading zero
abbrev pub is_group : List ℕ → Bool
is_group word = is_short word && list_all is_hex_digit word

-- the number that a group spells
unfoldable pub group_of : List ℕ → Option ℕ
group_of word = if is_group word then Some (digits_value 16 word) else None

-- a number before others, where all are there
abbrev pub put_before : Option ℕ → Option (List ℕ) → Option (List ℕ)
put_before first rest = do
  n ← first
  ns ← rest
  Some (n ∷ ns)

-- the numbers that the words spell, where each spells one
abbrev pub numbers_of : (List ℕ → Option ℕ) → List (List ℕ) → Option (List ℕ)
numbers_of read [] = Some []
numbers_of read (word ∷ words) = put_before (read word) (numbers_of read words)

-- the same, where there are so many words
unfoldable pub so_many_of : ℕ → (List ℕ → Option ℕ) → List (List ℕ) → Option (List ℕ)
so_many_of count read words = if length words == count then numbers_of read words else None

-- the number with these digits in a base, the highest first
abbrev pub in_base : ℕ → List ℕ → ℕ
in_base base [] = 0
in_base base (digit ∷ digits) = digit * base ^ length digits + in_base base digits

-- four decimal numbers up to 255 with points between them
abbrev pub octets_in : List ℕ → Option (List ℕ)
octets_in text = so_many_of 4 (number_of (2 ^ 8)) (slice_split (λ b. b == 46) text)

-- eight groups with colons between them
abbrev pub groups_in : List ℕ → Option (List ℕ)
groups_in text = so_many_of 8 group_of (slice_split (λ b. b == 58) text)

-- the address of 32 bits, or of 128 bits, that the text spells
unfoldable pub ip4_of : List ℕ → Option ℕ
ip4_of text = option_map (in_base (2 ^ 8)) (octets_in text)

unfoldable pub ip6_of : List ℕ → Option ℕ
ip6_of text = option_map (in_base (2 ^ 16)) (groups_in text)

-- the address that the text spells
abbrev pub ip_of : List ℕ → Option IpNumber
ip_of text = option_or (option_map ip.V4 (ip4_of text)) (option_map ip.V6 (ip6_of text))

-- the number of a port
abbrev pub port_of : List ℕ → Option ℕ
port_of word = number_of (2 ^ 16) word

-- an address and a port with a colon between them
unfoldable pub inet4_of : List (List ℕ) → Option PeerAddr
inet4_of (host ∷ port ∷ []) = do
  ip ← ip4_of host
  port ← port_of port
  Some (addr.V4 ip port)
inet4_of _ = None

-- what follows the byte at the front
abbrev pub behind : ℕ → List ℕ → Option (List ℕ)
behind byte [] = None
behind byte (b ∷ bs) = if b == byte then Some bs else None

-- an address and, behind the closing bracket, a colon and a port
unfoldable pub inet6_of : List (List ℕ) → Option PeerAddr
inet6_of (host ∷ rest ∷ []) = do
  ip ← ip6_of host
  word ← behind 58 rest
  port ← port_of word
  Some (peer6 ip port)
inet6_of _ = None

-- the address of a peer: one with an opening bracket has eight groups
unfoldable pub peer_addr_of : List ℕ → Option PeerAddr
peer_addr_of text =
    option_map_or (λ rest. inet6_of (slice_split (λ b. b == 93) rest))
    (behind 91 text)
    (inet4_of (slice_split (λ b. b == 58) text))

-- the peer that a word names
unfoldable pub peer_of : List ℕ → Option Peer
peer_of word =
    if bytes_eq word (codes "-") then Some Unknown
    else (if bytes_eq word (codes "unix") then Some Unix
    else option_map Inet (peer_addr_of word))
