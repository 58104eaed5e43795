-- What a connect asks of its dialer, and what it answers.
use Rattle.std.specs.Prelude.{◌≡◌, ℤ, Bool, true, false, ◌&&◌, ◌||◌, is_some, if◌then◌else◌, List, [], ◌∷◌, Option, Some, None, MatchOption, Result, Ok, Err}
use Rattle.std.specs.declared.io.ErrorKind.{ErrorKind}
use Rattle.std.specs.declared.io.ErrorKind.TheVariants as errors
use Rattle.svc_base.specs.Calls.{Adds, Stays}
use Rattle.svc_socket.specs.DialerData.{DialerData}
use Rattle.svc_socket.specs.declared.peer.PeerAddr.{PeerAddr}
use Rattle.svc_socket.specs.declared.connectors.dialer.Target.{Target}
use Rattle.svc_socket.specs.declared.connectors.dialer.BindTo.{BindTo}
use Rattle.svc_socket.specs.declared.connectors.dialer.OsFault.{OsFault}
use Rattle.svc_socket.specs.declared.connectors.dialer.OsFault.TheVariants.{Refused, TimedOut, AddrNotAvailable, PermissionDenied, AddrInUse, NetUnreachable, HostUnreachable, Other}
use Rattle.svc_socket.specs.declared.connectors.dialer.DialFault.{DialFault}
use Rattle.svc_socket.specs.declared.connectors.dialer.DialFault.TheVariants.{Socket, Bind, Os}
use Rattle.svc_socket.specs.declared.connectors.dialer.DialAnswer.{DialAnswer}
use Rattle.svc_socket.specs.declared.connectors.dialer.DialAnswer.TheVariants.{Connected, Failed}
use Rattle.svc_socket.specs.declared.connectors.dialer.DialCall.{DialCall}
use Rattle.svc_socket.specs.declared.connectors.l4.ConnectKind.{ConnectKind}
use Rattle.svc_socket.specs.declared.connectors.l4.ConnectKind.TheVariants.{SocketError, BindError, ConnectRefused, ConnectTimedout, ConnectNoRoute, InternalError, ConnectError, NoMemory}
use Rattle.svc_socket.specs.declared.connectors.l4.ConnectError.{ConnectError as Error}

-- the fault of an error of the system: by its kind, and by its number where that kind has no fault of its own
abbrev pub fault_of : ErrorKind → ℤ → OsFault
fault_of errors.ConnectionRefused number = Refused
fault_of errors.TimedOut number = TimedOut
fault_of errors.AddrNotAvailable number = AddrNotAvailable
fault_of errors.PermissionDenied number = PermissionDenied
fault_of errors.AddrInUse number = AddrInUse
fault_of errors.NetworkUnreachable number = NetUnreachable
fault_of errors.HostUnreachable number = HostUnreachable
fault_of kind number = Other number

-- the dial is to go out from a given address, or from a range of ports
abbrev pub is_bound : Option BindTo → Bool
is_bound None = false
is_bound (Some from) = is_some from.addr || is_some from.port_range

-- the kind of an error, by the fault
abbrev pub kind_of : DialFault → ConnectKind
kind_of Socket = SocketError
kind_of Bind = BindError
kind_of (Os Refused) = ConnectRefused
kind_of (Os TimedOut) = ConnectTimedout
kind_of (Os AddrNotAvailable) = BindError
kind_of (Os PermissionDenied) = InternalError
kind_of (Os AddrInUse) = InternalError
kind_of (Os NetUnreachable) = ConnectNoRoute
kind_of (Os HostUnreachable) = ConnectNoRoute
kind_of (Os (Other number)) = ConnectError

-- the error of a dial that failed
abbrev pub error_of : DialFault → Option PeerAddr → Error
error_of fault local = record { kind = kind_of fault; details = record { source = Some fault; local_addr = local } }

-- what a connect answers, by its last dial
abbrev pub outcome : DialAnswer → Result (Option PeerAddr) Error
outcome (Connected local) = Ok local
outcome (Failed fault local) = Err (error_of fault local)

-- the same of a connect that tells no local address
abbrev pub outcome_uds : DialAnswer → Result (Unit {0}) Error
outcome_uds (Connected local) = Ok tt
outcome_uds (Failed fault local) = Err (error_of fault local)

-- the dial couldn't bind
abbrev pub is_bind_error : ConnectKind → Bool
is_bind_error BindError = true
is_bind_error kind = false

-- the dial failed, and couldn't bind
abbrev pub is_unbound : DialAnswer → Bool
is_unbound (Connected local) = false
is_unbound (Failed fault local) = is_bind_error (kind_of fault)

-- the binding without range and fallback
abbrev pub without_range : BindTo → BindTo
without_range from = record { addr = from.addr; port_range = None; fallback = false }

-- from where it is dialed once more after this answer, if it is: a range that may be left out couldn't be bound
abbrev pub second_from : Option BindTo → DialAnswer → Option BindTo
second_from None answer = None
second_from (Some from) answer = if is_unbound answer && (from.fallback && is_some from.port_range) then Some (without_range from) else None

-- these dials were asked; what was told stays told as long as there is room
pub record Dials (before now : DialerData) (calls : List DialCall) : Type 0 where
  pub called : Adds before.called now.called calls
  pub stays : Stays before.called now.called before.room now.room

-- one dial, and a second one where the first falls back; the last one's answer decides
abbrev pub Connects : DialerData → DialerData → Target → Option BindTo → Result (Option PeerAddr) Error → Type 0
Connects before now target from result =
    (first : DialAnswer) × MatchOption (second_from from first)
    (Dials before now (record { target = target; from = from; answer = first } ∷ []) × (result ≡ outcome first))
    (λ again. (second : DialAnswer) × (
    Dials before now (record { target = target; from = from; answer = first } ∷ record { target = target; from = Some again; answer = second } ∷ [])
    × (result ≡ outcome second)))

-- one dial, whose answer decides
abbrev pub ConnectsOnce : DialerData → DialerData → Target → Result (Unit {0}) Error → Type 0
ConnectsOnce before now target result =
    (answer : DialAnswer) × (Dials before now (record { target = target; from = None; answer = answer } ∷ []) × (result ≡ outcome_uds answer))

-- the error that there is no memory
abbrev pub no_memory : Error
no_memory = record { kind = NoMemory; details = record { source = None; local_addr = None } }
