-- Which signals and answers do what.
use Rattle.std.specs.Prelude.{Bool, true, false, not, ◌&&◌, ◌≡◌, List, Some, Result, OnOk, is_some}
use Rattle.svc_base.specs.declared.memory.NoMemory.{NoMemory}
use Rattle.svc_fds.specs.declared.retry.SendAnswer.{SendAnswer}
use Rattle.svc_fds.specs.declared.retry.SendAnswer.TheVariants.{Connected}
use Rattle.svc_record.specs.declared.action.Action.{Action}
use Rattle.svc_record.specs.declared.action.StepEnd.{StepEnd}
use Rattle.svc_record.specs.declared.event.Event.{Event}
use Rattle.svc_record.specs.declared.event.Event.TheVariants.{Signal}
use Rattle.svc_record.specs.declared.event.ShutdownSignal.{ShutdownSignal}
use Rattle.svc_record.specs.Record.{Record}
use Rattle.svc_record.specs.Descriptors.{live_table}
use Rattle.svc_record.specs.Offer.{is_upgrade, is_empty_table}
use Rattle.svc_endpoints.specs.EndpointsState.{EndpointsStand}
use Rattle.svc_drain.specs.DrainEffects.{cuts}
use Rattle.svc_core.specs.CoreData.{CoreData}

-- the signal asks for an upgrade, and the table isn't empty
abbrev pub offers_by : ShutdownSignal → Bool → Bool
offers_by kind none = is_upgrade (Some kind) && not none

-- it is so for each record that the endpoints stand for
abbrev pub OffersBy : CoreData → ShutdownSignal → Bool → Type 0
OffersBy core kind offers = (q : Record) → EndpointsStand core.plan core.endpoints q → offers ≡ offers_by kind (is_empty_table (live_table core.plan q))

-- a connect reached the successor
abbrev pub is_reached : SendAnswer → Bool
is_reached Connected = true
is_reached _ = false

-- a signal after the first that doesn't cut its waits short changes nothing, in the core and of what was told
abbrev pub IgnoresLater : CoreData → CoreData → Event → List Action → List Action → Result StepEnd NoMemory → Type 0
IgnoresLater old new e before after result =
    (kind : ShutdownSignal) → e ≡ Signal kind → is_some old.drain.signal ≡ true → cuts old.drain.signal kind ≡ false
    → OnOk result (new ≡ old) × OnOk result (after ≡ before)
