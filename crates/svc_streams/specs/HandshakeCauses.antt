-- Why a poll of a handshake answers as it does.
use Rattle.std.specs.Prelude.{◌≡◌, ℕ, ◌<◌, ◌≤◌, true, false, Option, None, IsSome, ◌⊎◌}
use Rattle.svc_streams.specs.declared.listeners.handshake.HandshakePoll.{HandshakePoll}
use Rattle.svc_streams.specs.declared.listeners.handshake.HandshakePoll.TheVariants as polls
use Rattle.svc_streams.specs.HandshakeData.{HandshakeData}
use Rattle.svc_streams.specs.Handshakes.{answered, due, passed_of}

-- an answer stays from an earlier poll, or it has this cause: Pending under 60,000 ms with TLS alone; Done without TLS, or with a backend; no
-- backend; a callback that is due; a backend; 60,000 ms
abbrev pub IsCaused : {T : Type 0} → HandshakeData → ℕ → Option T → HandshakePoll → Type 0
IsCaused state moment backend polls.Pending = (answered state.answer ≡ None) × (state.tls ≡ true) × (passed_of state moment < 60000)
IsCaused state moment backend polls.Done = (state.answer ≡ polls.Done) ⊎ ((state.tls ≡ false) ⊎ IsSome backend)
IsCaused state moment backend polls.NoTls = (state.answer ≡ polls.NoTls) ⊎ ((state.tls ≡ true) × (backend ≡ None))
IsCaused state moment backend polls.PreTls = (state.answer ≡ polls.PreTls) ⊎ ((state.tls ≡ true) × IsSome (due state))
IsCaused state moment backend polls.Tls = (state.answer ≡ polls.Tls) ⊎ ((state.tls ≡ true) × IsSome backend)
IsCaused state moment backend polls.TimedOut = (state.answer ≡ polls.TimedOut) ⊎ ((state.tls ≡ true) × (60000 ≤ passed_of state moment))
