-- The record of a run: what was got and told, the newest entry first. So what stands before an entry is the rest of the list behind it.
use Rattle.std.specs.Prelude.{ℕ, Bool, true, false, ◌||◌, ◌&&◌, ◌+◌, ◌==◌, List, [], ◌∷◌, if◌then◌else◌, Option, Some, None}
use Rattle.svc_record.specs.declared.entry.Entry.{Entry}
use Rattle.svc_record.specs.declared.entry.Entry.TheVariants.{Got, Told}
use Rattle.svc_record.specs.declared.action.Action.{Action}
use Rattle.svc_record.specs.declared.action.Action.TheVariants.{Phase}
use Rattle.svc_record.specs.declared.action.ExecutionPhase.TheVariants.{Running, Bootstrap, BootstrapComplete, ShutdownRuntimes}
use Rattle.svc_record.specs.declared.event.Event.TheVariants.{Moment, Signal}
use Rattle.svc_record.specs.declared.event.ShutdownSignal.{ShutdownSignal}
use Rattle.svc_record.specs.declared.event.ShutdownSignal.TheVariants.{FastShutdown, GracefulTerminate, GracefulUpgrade}

-- a record, the newest entry first
abbrev pub Record : Type 0
Record = List Entry

-- among the entries is one that passes the test
abbrev pub has : (Entry → Bool) → Record → Bool
has test [] = false
has test (e ∷ before) = test e || has test before

-- how many entries pass the test
abbrev pub times : (Entry → Bool) → Record → ℕ
times test [] = 0
times test (e ∷ before) = if test e then times test before + 1 else times test before

-- entries that pass the test stand in q once if this holds, else not at all
abbrev pub once_if : Bool → (Entry → Bool) → Record → Bool
once_if holds test q = times test q == (if holds then 1 else 0)

-- the record after these actions were told, in this order
abbrev pub tell : Record → List Action → Record
tell q [] = q
tell q (a ∷ more) = tell (Told a ∷ q) more

-- each entry meets P, with what stands before it
abbrev pub EachEntry : (Entry → Record → Type 0) → Record → Type 0
EachEntry P [] = Unit {0}
EachEntry P (e ∷ before) = P e before × EachEntry P before

-- each entry passes the test, with what stands before it
abbrev pub each_entry : (Entry → Record → Bool) → Record → Bool
each_entry test [] = true
each_entry test (e ∷ before) = test e before && each_entry test before

-- each settled prefix but the whole meets P: what stands before an event
abbrev pub EachEarlier : (Record → Type 0) → Record → Type 0
EachEarlier P [] = Unit {0}
EachEarlier P (Got e ∷ before) = P before × EachEarlier P before
EachEarlier P (Told a ∷ before) = EachEarlier P before

-- what stands before each event passes the test
abbrev pub each_earlier : (Record → Bool) → Record → Bool
each_earlier test [] = true
each_earlier test (Got e ∷ before) = test before && each_earlier test before
each_earlier test (Told a ∷ before) = each_earlier test before

-- each settled prefix meets P
abbrev pub EachSettled : (Record → Type 0) → Record → Type 0
EachSettled P q = P q × EachEarlier P q

-- each settled prefix passes the test
abbrev pub each_settled : (Record → Bool) → Record → Bool
each_settled test q = test q && each_earlier test q

-- what was told since the last event, the newest first
abbrev pub last_step : Record → List Action
last_step [] = []
last_step (Got e ∷ before) = []
last_step (Told a ∷ before) = a ∷ last_step before

-- the last moment that came, else 0. The moment of an entry e is `now (e ∷ before)`.
abbrev pub now : Record → ℕ
now [] = 0
now (Got (Moment ms) ∷ before) = ms
now (e ∷ before) = now before

-- the entry tells the phase `Running`
abbrev pub is_running : Entry → Bool
is_running (Told (Phase Running ms)) = true
is_running _ = false

-- the entry tells the phase `BootstrapComplete`
abbrev pub is_bootstrap_complete : Entry → Bool
is_bootstrap_complete (Told (Phase BootstrapComplete ms)) = true
is_bootstrap_complete _ = false

-- the entry tells the phase `ShutdownRuntimes`
abbrev pub is_runtimes : Entry → Bool
is_runtimes (Told (Phase ShutdownRuntimes ms)) = true
is_runtimes _ = false

-- the event is `Signal`
abbrev pub is_signal : Entry → Bool
is_signal (Got (Signal kind)) = true
is_signal _ = false

-- the entry tells the phase `Bootstrap`
abbrev pub is_bootstrap : Entry → Bool
is_bootstrap (Told (Phase Bootstrap ms)) = true
is_bootstrap _ = false

-- the run runs
abbrev pub from_the_start : Record → Bool
from_the_start q = has is_running q

-- the first if there is one, else this
abbrev pub first_or : Option ShutdownSignal → ShutdownSignal → Option ShutdownSignal
first_or (Some earlier) kind = Some earlier
first_or None kind = Some kind

-- the kind of the first signal
abbrev pub signal_of : Record → Option ShutdownSignal
signal_of [] = None
signal_of (Got (Signal kind) ∷ before) = first_or (signal_of before) kind
signal_of (e ∷ before) = signal_of before

-- the signal lets the server end gracefully
abbrev pub is_graceful : Option ShutdownSignal → Bool
is_graceful (Some GracefulTerminate) = true
is_graceful (Some GracefulUpgrade) = true
is_graceful _ = false

-- the event is a fast signal
abbrev pub is_fast_signal : Entry → Bool
is_fast_signal (Got (Signal FastShutdown)) = true
is_fast_signal _ = false

-- a cut came: a fast signal after a first signal that isn't fast
abbrev pub has_cut : Record → Bool
has_cut [] = false
has_cut (e ∷ before) = (is_fast_signal e && is_graceful (signal_of before)) || has_cut before

-- what stands before the first cut, where one came
abbrev pub before_cut : Record → Record
before_cut [] = []
before_cut (Got (Signal FastShutdown) ∷ before) = if has_cut before then before_cut before else before
before_cut (e ∷ before) = before_cut before

-- what stands before the first signal; nothing where none came
abbrev pub before_signal : Record → Record
before_signal [] = []
before_signal (Got (Signal kind) ∷ before) = if has is_signal before then before_signal before else before
before_signal (e ∷ before) = before_signal before

-- what stands before `ShutdownRuntimes`; nothing where it wasn't told
abbrev pub before_runtimes : Record → Record
before_runtimes [] = []
before_runtimes (Told (Phase ShutdownRuntimes ms) ∷ before) = before
before_runtimes (e ∷ before) = before_runtimes before
