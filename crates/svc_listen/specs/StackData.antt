-- What contracts see of an endpoint with what its connections get.
use Rattle.std.specs.Prelude.{ℕ, Option}
use Rattle.svc_socket.specs.declared.protocols.tls.noop_tls.listeners.TlsSettings.{TlsSettings}
use Rattle.svc_streams.specs.declared.protocols.l4.stream.L4BufferSettings.{L4BufferSettings}
use Rattle.svc_listen.specs.ListeningData.{ListeningData}

-- the endpoint; the TLS, if there is any, the buffers, and the number of the callback that its connections get
pub record StackData : Type 0 where
  pub endpoint : ListeningData
  pub tls : Option TlsSettings
  pub buffer : L4BufferSettings
  pub callback : Option ℕ
