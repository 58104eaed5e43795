-- The open listening sockets of a server under their numbers.
use Rattle.std.specs.Prelude.{ℕ, ◌+◌, ◌-◌, ◌^◌, ◌==◌, min, not, List, map, Option, find, filter}
use Rattle.std.specs.Option.{option_map}
use Rattle.std.specs.declared.net.tcp.TcpListener.{TcpListener}
use Rattle.svc_sockets.specs.declared.descriptors.Descriptor.{Descriptor}

-- the open sockets with their numbers; the number of the next one; for how many more there is memory
pub record OpenSockets : Type 0 where
  pub rows : List Descriptor
  pub next : ℕ
  pub room : ℕ

-- the numbers of the open ones
abbrev pub open_numbers : OpenSockets → List ℕ
open_numbers sockets = map (λ row. row.number) sockets.rows

-- the socket with this number, if it is open
abbrev pub listener_of : OpenSockets → ℕ → Option TcpListener
listener_of sockets number = option_map (λ row. row.listener) (find (λ row. row.number == number) sockets.rows)

-- the number behind a number; the greatest one stays
abbrev pub number_behind : ℕ → ℕ
number_behind number = min (number + 1) (2 ^ 64 - 1)

-- the numbers but for this one
abbrev pub without : ℕ → List ℕ → List ℕ
without number numbers = filter (λ other. not (other == number)) numbers

-- the sockets but for those with this number
abbrev pub rows_without : ℕ → List Descriptor → List Descriptor
rows_without number rows = filter (λ row. not (row.number == number)) rows
