-- What comes of listening.
use Rattle.std.specs.Prelude.{◌≡◌, ℕ, not, List, Option, Some, None, Result, Ok, Err, IfSome, is_some}
use Rattle.svc_base.specs.Streams.{Rose}
use Rattle.svc_fds.specs.Tables.{Entry}
use Rattle.svc_listen.specs.Sockets.{number_of, listener_of}
use Rattle.svc_listen.specs.BinderData.{BinderData}
use Rattle.svc_listen.specs.Binding.{Reaches}
use Rattle.svc_listen.specs.ListeningData.{BuilderData, ListeningData}
use Rattle.svc_listen.specs.declared.listeners.l4.ServerAddress.{ServerAddress}
use Rattle.svc_listen.specs.declared.protocols.l4.listener.Listener.{Listener}
use Rattle.svc_listen.specs.declared.listeners.l4.binding.ListenError.{ListenError}
use Rattle.svc_listen.specs.declared.listeners.l4.binding.ListenError.TheVariants.{NoAddress, BindError, NoMemory}
use Rattle.svc_listen.specs.declared.listeners.l4.binding.BindErrorKind.TheVariants.{AdoptFailed, Failed, StillInUse}
use Rattle.svc_listen.specs.declared.listeners.l4.endpoint.ListenRefused.{ListenRefused}

-- the socket is that of the address, and what is owned is its descriptor
pub record IsKept (address : ServerAddress) (listener : Listener) (owned : Option ℕ) : Type 0 where
  pub kind : listener ≡ listener_of address (number_of listener)
  pub number : IfSome owned (λ fd. fd ≡ number_of listener)

-- the endpoint of an address that came to its descriptor: it owns that where there is no table
abbrev pub listening : BuilderData → ServerAddress → Option (List Entry) → Result ℕ ListenError → Result ListeningData ListenError
listening builder address table (Ok fd) = Ok (record { address = address; fd = fd; owned = not (is_some table); filter = builder.filter })
listening builder address table (Err reason) = Err reason

-- an endpoint that listens is made, or the reason is given why not: exactly without an address that is that
-- none was given, and then nothing was asked and the table is as before
pub data Listens {S : Type 0} (seen : S → BinderData) (builder : BuilderData) (table : Option (List Entry)) (before now : S) : Option (List Entry)
    → Result ListeningData ListenError → Type 0 where
  no_address : builder.address ≡ None → now ≡ before → Listens seen builder table before now table (Err NoAddress)
  reaches : (address : ServerAddress) (after : Option (List Entry)) (reached : Result ℕ ListenError) → builder.address ≡ Some address
      → Reaches seen address table before now after reached
      → Listens seen builder table before now after (listening builder address table reached)

-- what was answered: the endpoint or the reason
abbrev pub end_of : Result ListeningData ListenRefused → Result ListeningData ListenError
end_of (Ok endpoint) = Ok endpoint
end_of (Err refused) = Err refused.reason

-- the endpoint has the address and the filter that were given
pub record IsMadeOf (builder : BuilderData) (endpoint : ListeningData) : Type 0 where
  pub address : builder.address ≡ Some endpoint.address
  pub filter : endpoint.filter ≡ builder.filter

-- which count tells why there is no endpoint: that of the faults, or that of the addresses in use
abbrev pub ListenCause : Result ListeningData ListenError → BinderData → BinderData → Type 0
ListenCause (Ok endpoint) before now = Unit {0}
ListenCause (Err NoAddress) before now = Unit {0}
ListenCause (Err (BindError AdoptFailed)) before now = Rose before.faults now.faults
ListenCause (Err (BindError Failed)) before now = Rose before.faults now.faults
ListenCause (Err (BindError StillInUse)) before now = Rose before.waits now.waits
ListenCause (Err NoMemory) before now = Unit {0}
