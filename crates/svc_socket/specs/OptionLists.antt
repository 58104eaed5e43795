-- Which options each call sets.
use Rattle.std.specs.Prelude.{ℕ, ◌/◌, Bool, false, ◌||◌, if◌then◌else◌, List, [], ◌∷◌, ◌++◌, Option, Some, None, Result, Ok, Err, option_and_then, is_some}
use Rattle.std.specs.Option.{option_to_list, option_map, option_map_or}
use Rattle.svc_base.specs.declared.settings.TcpKeepalive.{TcpKeepalive}
use Rattle.svc_base.specs.declared.settings.Setting.{Setting}
use Rattle.svc_base.specs.declared.settings.Setting.TheVariants as settings
use Rattle.svc_socket.specs.Steps.{Steps, given, is_large}
use Rattle.svc_socket.specs.declared.options.Family.{Family}
use Rattle.svc_socket.specs.declared.options.Family.TheVariants.{V4, V6, Other}
use Rattle.svc_socket.specs.declared.options.SockOption.{SockOption}
use Rattle.svc_socket.specs.declared.options.SockOption.TheVariants as options
use Rattle.svc_socket.specs.declared.protocols.l4.ext.OptionError.{OptionError}
use Rattle.svc_socket.specs.declared.protocols.l4.ext.OptionError.TheVariants.{ConnectError, SocketError, BindError}
use Rattle.svc_socket.specs.declared.protocols.l4.ext.TcpSocketOptions.{TcpSocketOptions}

-- the option that holds the differentiated services byte, where the family has one
abbrev pub dscp_step : Family → ℕ → Option (SockOption × OptionError)
dscp_step V4 byte = Some (options.Tos byte, SocketError)
dscp_step V6 byte = Some (options.TClass byte, SocketError)
dscp_step Other byte = None

-- what is answered behind it: a family that has none is an error
abbrev pub dscp_end : Family → Result (Unit {0}) OptionError
dscp_end V4 = Ok tt
dscp_end V6 = Ok tt
dscp_end Other = Err SocketError

-- the options of a keepalive: two times in whole seconds, and one in whole milliseconds
abbrev pub keepalive_steps : TcpKeepalive → Steps
keepalive_steps ka =
    (options.KeepAlive, ConnectError) ∷
    (options.KeepIdle (ka.idle / 1000000000), ConnectError) ∷
    (options.KeepInterval (ka.interval / 1000000000), ConnectError) ∷
    (options.KeepCount ka.count, ConnectError) ∷
    (options.UserTimeout (ka.user_timeout / 1000000), ConnectError) ∷
    []

-- one of them is too large
abbrev pub is_large_keepalive : TcpKeepalive → Bool
is_large_keepalive ka = is_large (ka.idle / 1000000000) || is_large (ka.interval / 1000000000) || is_large ka.count || is_large (ka.user_timeout / 1000000)

-- the options of a listening socket, where they are given
abbrev pub bind_options : Family → TcpSocketOptions → List (Option (SockOption × OptionError))
bind_options family opt =
    option_map (λ b. (options.V6Only b, BindError)) opt.ipv6_only ∷
    option_map (λ b. (options.ReusePort b, BindError)) opt.so_reuseport ∷
    option_map (λ n. (options.FastopenBacklog n, ConnectError)) opt.tcp_fastopen ∷
    option_and_then (dscp_step family) opt.dscp ∷
    []

-- those that are given, in order
abbrev pub bind_steps : Family → TcpSocketOptions → Steps
bind_steps family opt = given (bind_options family opt)

-- what is answered behind them
abbrev pub bind_end : Family → TcpSocketOptions → Result (Unit {0}) OptionError
bind_end family opt = if is_some opt.dscp then dscp_end family else Ok tt

-- the backlog is too large
abbrev pub is_large_backlog : TcpSocketOptions → Bool
is_large_backlog opt = option_map_or is_large opt.tcp_fastopen false

-- the settings of accepted connections that are given: keepalive, differentiated services byte, send buffer, receive buffer
abbrev pub given_settings : TcpSocketOptions → List Setting
given_settings opt =
    option_to_list (option_map settings.KeepAlive opt.tcp_keepalive)
    ++ (option_to_list (option_map settings.Dscp opt.dscp)
    ++ (option_to_list (option_map settings.SndBuf opt.tcp_snd_buf)
    ++ option_to_list (option_map settings.RcvBuf opt.tcp_recv_buf)))

-- what is set on accepted connections: no delay, and then what is given
abbrev pub settings_of : Option TcpSocketOptions → List Setting
settings_of None = settings.NoDelay ∷ []
settings_of (Some opt) = settings.NoDelay ∷ given_settings opt
