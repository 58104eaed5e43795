-- What contracts see of endpoints and of listeners.
use Rattle.std.specs.Prelude.{ℕ, List, Option}
use Rattle.svc_socket.specs.declared.protocols.tls.noop_tls.listeners.TlsSettings.{TlsSettings}
use Rattle.svc_streams.specs.declared.protocols.l4.stream.L4BufferSettings.{L4BufferSettings}
use Rattle.svc_listen.specs.declared.listeners.l4.ServerAddress.{ServerAddress}

-- an endpoint as it is configured: its address, its TLS, if it has any, and the buffers of its connections
pub record ConfigData : Type 0 where
  pub address : ServerAddress
  pub tls : Option TlsSettings
  pub buffer : L4BufferSettings

-- an endpoint of some listeners: with the number of the filter that judges its peers, and of the callback before its TLS
pub record EndpointData : Type 0 where
  pub address : ServerAddress
  pub tls : Option TlsSettings
  pub buffer : L4BufferSettings
  pub filter : Option ℕ
  pub callback : Option ℕ

-- listeners: their endpoints in order, and the filter and the callback that were set last
pub record ListenersData : Type 0 where
  pub endpoints : List EndpointData
  pub filter : Option ℕ
  pub callback : Option ℕ
