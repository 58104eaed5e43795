-- The numbers of blocked addresses, in order.
use Rattle.std.specs.Prelude.{◌≡◌, ℕ, List}
use Rattle.std.specs.List.{list_any}
use Rattle.std.specs.List.Sorted.{IsNonDecreasing}
use Rattle.svc_base.specs.NumberSets.{is_in}
use Rattle.svc_socket.specs.Peers.{ip6_number}
use Rattle.svc_socket.specs.declared.peer.PeerAddr.TheVariants as addr
use Rattle.svc_socket.specs.declared.reading.IpNumber.{IpNumber}
use Rattle.svc_text.specs.Filters.{is_at}

-- a number is among these exactly where the peer with it, on whatever port, has one of the addresses: of 32 bits
abbrev pub AreNumbers4 : List IpNumber → List ℕ → Type 0
AreNumbers4 blocked numbers = (n port : ℕ) → is_in n numbers ≡ list_any (is_at (addr.V4 n port)) blocked

-- and of 128 bits
abbrev pub AreNumbers6 : List IpNumber → List ℕ → Type 0
AreNumbers6 blocked numbers = (high low port : ℕ) → is_in (ip6_number high low) numbers ≡ list_any (is_at (addr.V6 high low port)) blocked

-- the numbers of the addresses of 32 bits and of those of 128, each in ascending order
pub record StandInOrder (blocked : List IpNumber) (v4 v6 : List ℕ) : Type 0 where
  pub rising4 : IsNonDecreasing v4
  pub rising6 : IsNonDecreasing v6
  pub numbers4 : AreNumbers4 blocked v4
  pub numbers6 : AreNumbers6 blocked v6
