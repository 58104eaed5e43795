-- Sockets that listen.
use Rattle.std.specs.Prelude.{ℕ}
use Rattle.svc_listen.specs.declared.protocols.l4.listener.Listener.{Listener}
use Rattle.svc_listen.specs.declared.protocols.l4.listener.Listener.TheVariants.{Tcp, Unix}
use Rattle.svc_listen.specs.declared.listeners.l4.ServerAddress.{ServerAddress}
use Rattle.svc_listen.specs.declared.listeners.l4.ServerAddress.TheVariants as addresses

-- the number of its descriptor
abbrev pub number_of : Listener → ℕ
number_of (Tcp number) = number
number_of (Unix number) = number

-- the socket of an address, of this descriptor
abbrev pub listener_of : ServerAddress → ℕ → Listener
listener_of (addresses.Tcp text options) number = Tcp number
listener_of (addresses.Uds text mode) number = Unix number
