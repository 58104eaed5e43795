-- What contracts see of a connection before its handshake is done.
use Rattle.std.specs.Prelude.{ℕ, Bool, Option}
use Rattle.svc_streams.specs.declared.protocols.l4.stream.L4Stream.{L4Stream}
use Rattle.svc_streams.specs.declared.protocols.l4.stream.L4BufferSettings.{L4BufferSettings}
use Rattle.svc_streams.specs.declared.listeners.handshake.HandshakePoll.{HandshakePoll}

-- the connection; whether TLS is set, the buffer that it gets, the number of its callback; the moment of the first poll, whether the callback is
-- done, and the last answer, Pending at first
pub record HandshakeData : Type 0 where
  pub stream : L4Stream
  pub tls : Bool
  pub buffer : L4BufferSettings
  pub callback : Option ℕ
  pub first : Option ℕ
  pub past : Bool
  pub answer : HandshakePoll
