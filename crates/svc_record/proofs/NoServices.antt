-- A run without services.
use Rattle.std.proofs.Common.{true, false, [], ◌∷◌, ◌≡◌, refl}
use Rattle.svc_record.specs.declared.plan.Plan.{Plan}
use Rattle.svc_record.specs.declared.entry.Entry.TheVariants.{Got, Told}
use Rattle.svc_record.specs.declared.event.Event.TheVariants.{Signal}
use Rattle.svc_record.specs.declared.event.ShutdownSignal.TheVariants.{FastShutdown}
use Rattle.svc_record.specs.declared.action.Action.TheVariants.{Phase, Stop}
use Rattle.svc_record.specs.declared.action.ExecutionPhase.TheVariants.{Running, ShutdownStarted, ShutdownRuntimes, Terminated}
use Rattle.svc_record.specs.Record.{Record}
use Rattle.svc_record.specs.Right.{Right, Served}
use Rattle.svc_record.proofs.Sound.{right_from_test, served_from_test}
use Rattle.svc_record.proofs.Variants.{shortened, doubled, swapped, beginnings, right_ones}
use Rattle.svc_record.proofs.TwoServices.{plan_of}

abbrev plan : Plan
plan = plan_of []

abbrev run : Record
run = Told (Phase Terminated 0) ∷ Told (Stop 0) ∷ Told (Phase ShutdownRuntimes 0) ∷ Told (Phase ShutdownStarted 0) ∷ Got (Signal FastShutdown)
    ∷ Told (Phase Running 0) ∷ []

right : Right plan run
right = right_from_test plan run refl

served : Served plan run
served = served_from_test plan run refl

beginnings-right : right_ones plan (beginnings run) ≡ true ∷ false ∷ false ∷ false ∷ false ∷ true ∷ false ∷ []
beginnings-right = refl

shortened-right : right_ones plan (shortened run) ≡ false ∷ false ∷ false ∷ false ∷ false ∷ false ∷ []
shortened-right = refl

doubled-right : right_ones plan (doubled run) ≡ false ∷ false ∷ false ∷ false ∷ false ∷ false ∷ []
doubled-right = refl

swapped-right : right_ones plan (swapped run) ≡ false ∷ false ∷ false ∷ false ∷ false ∷ []
swapped-right = refl
