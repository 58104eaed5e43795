-- What an address says.
use Rattle.std.specs.Prelude.{ℕ, Bool, true, false, List, Option, Some, None}
use Rattle.svc_socket.specs.declared.protocols.l4.ext.TcpSocketOptions.{TcpSocketOptions}
use Rattle.svc_listen.specs.declared.listeners.l4.Permissions.{Permissions}
use Rattle.svc_listen.specs.declared.listeners.l4.ServerAddress.{ServerAddress}
use Rattle.svc_listen.specs.declared.listeners.l4.ServerAddress.TheVariants.{Tcp, Uds}

-- its text, by which a table has its descriptor
abbrev pub text_of : ServerAddress → List ℕ
text_of (Tcp text options) = text
text_of (Uds text mode) = text

-- it is a path of the Unix domain
abbrev pub is_unix : ServerAddress → Bool
is_unix (Tcp text options) = false
is_unix (Uds text mode) = true

-- what is set on its sockets, where it is TCP and that is given
abbrev pub options_of : ServerAddress → Option TcpSocketOptions
options_of (Tcp text options) = options
options_of (Uds text mode) = None

-- a TCP address with these options
abbrev pub with_options : TcpSocketOptions → ServerAddress → ServerAddress
with_options given (Tcp text options) = Tcp text (Some given)
with_options given (Uds text mode) = Uds text mode

-- a Unix address whose file has this mode
abbrev pub with_mode : Permissions → ServerAddress → ServerAddress
with_mode given (Tcp text options) = Tcp text options
with_mode given (Uds text mode) = Uds text (Some given)
