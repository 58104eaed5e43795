-- The signals that end a server.
use Rattle.std.specs.Prelude.{ℤ, pos, negsuc, ◌==◌, if◌then◌else◌, Option, Some, None}
use Rattle.svc_proc.specs.declared.server.ShutdownSignal.{ShutdownSignal}
use Rattle.svc_proc.specs.declared.server.ShutdownSignal.TheVariants.{GracefulUpgrade, GracefulTerminate, FastShutdown}

-- the signal that a number of the system means, where it means one: 3 quit, 15 terminate, 2 interrupt
abbrev pub signal_of : ℤ → Option ShutdownSignal
signal_of (pos n) = if n == 3 then Some GracefulUpgrade else (if n == 15 then Some GracefulTerminate else (if n == 2 then Some FastShutdown else None))
signal_of (negsuc n) = None

-- what is kept after one more number came: the first signal
abbrev pub kept : Option ShutdownSignal → ℤ → Option ShutdownSignal
kept (Some signal) number = Some signal
kept None number = signal_of number
