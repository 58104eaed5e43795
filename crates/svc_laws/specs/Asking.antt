-- Asks that come one after the other.
use Rattle.std.specs.Prelude.{Bool, true, not}
use Rattle.svc_record.specs.declared.entry.Entry.{Entry}
use Rattle.svc_record.specs.declared.entry.Entry.TheVariants.{Told}
use Rattle.svc_record.specs.declared.action.Action.TheVariants.{Bind, Adopt, TryReceive, Connect, Send, Handshake, Settings as TellSettings, Daemonize}
use Rattle.svc_record.specs.Record.{Record}
use Rattle.svc_record.specs.Asks.{is_bind_open, is_adopt_open, is_try_open, is_connect_open, is_send_open, is_settings_open, is_handshake_open, is_daemonize_open}

-- where the entry asks, no ask of its kind is open before it
abbrev pub is_single : Entry → Record → Bool
is_single (Told (Bind s i)) before = not (is_bind_open before s i)
is_single (Told (Adopt s i fd)) before = not (is_adopt_open before s i)
is_single (Told TryReceive) before = not (is_try_open before)
is_single (Told Connect) before = not (is_connect_open before)
is_single (Told (Send bytes fds)) before = not (is_send_open before)
is_single (Told Daemonize) before = not (is_daemonize_open before)
is_single (Told (TellSettings c list)) before = not (is_settings_open before c)
is_single (Told (Handshake c)) before = not (is_handshake_open before c)
is_single _ before = true
