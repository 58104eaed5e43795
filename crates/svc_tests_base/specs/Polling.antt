-- When what was accepted may be polled.
use Rattle.std.specs.Prelude.{ℕ, ◌<◌, IfSome}
use Rattle.svc_listen.specs.declared.listeners.l4.arrivals.AcceptAnswer.{AcceptAnswer}
use Rattle.svc_listen.specs.declared.listeners.l4.arrivals.AcceptAnswer.TheVariants.{Stream, Refused, NotYet, AcceptFailed, SettingsFailed}

-- a connection that is taken may be polled with so many callbacks
abbrev pub MayBePolled : AcceptAnswer → ℕ → Type 0
MayBePolled (Stream stream) count = IfSome stream.callback (λ number. number < count)
MayBePolled (Refused c) count = Unit {0}
MayBePolled NotYet count = Unit {0}
MayBePolled (AcceptFailed n) count = Unit {0}
MayBePolled (SettingsFailed c) count = Unit {0}
