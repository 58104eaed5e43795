-- Signals after the first one.
use Rattle.std.specs.Prelude.{Bool, not, ◌&&◌}
use Rattle.svc_record.specs.declared.entry.Entry.TheVariants.{Got}
use Rattle.svc_record.specs.declared.event.Event.TheVariants.{Signal}
use Rattle.svc_record.specs.declared.event.ShutdownSignal.{ShutdownSignal}
use Rattle.svc_record.specs.Record.{Record, has, is_signal, is_fast_signal, is_graceful, signal_of}

-- after this record a signal of the kind isn't the first one, and isn't a fast one after a first one that is graceful
abbrev pub is_further : ShutdownSignal → Record → Bool
is_further kind before = has is_signal before && not (is_fast_signal (Got (Signal kind)) && is_graceful (signal_of before))
