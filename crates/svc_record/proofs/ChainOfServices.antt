-- A run of three services that start one after the other, all at once.
use Rattle.std.proofs.Common.{ℕ, true, false, List, [], ◌∷◌, Some, codes, ◌≡◌, refl}
use Rattle.svc_graph.specs.declared.plan.Kind.TheVariants.{Plain}
use Rattle.svc_record.specs.declared.plan.Plan.{Plan}
use Rattle.svc_record.specs.declared.plan.ServicePlan.{ServicePlan}
use Rattle.svc_record.specs.declared.entry.Entry.TheVariants.{Got, Told}
use Rattle.svc_record.specs.declared.event.Event.TheVariants.{Signal}
use Rattle.svc_record.specs.declared.event.ShutdownSignal.TheVariants.{FastShutdown}
use Rattle.svc_record.specs.declared.action.Action.TheVariants.{Start, Phase, Stop}
use Rattle.svc_record.specs.declared.action.ExecutionPhase.TheVariants.{Running, ShutdownStarted, ShutdownRuntimes, Terminated}
use Rattle.svc_record.specs.Record.{Record}
use Rattle.svc_record.specs.Right.{Right, Served}
use Rattle.svc_record.proofs.Sound.{right_from_test, served_from_test}
use Rattle.svc_record.proofs.Variants.{shortened, doubled, swapped, beginnings, right_ones}
use Rattle.svc_record.proofs.TwoServices.{plan_of}

abbrev pub service : List ℕ → List ℕ → ServicePlan
service name depends = record { name = name; kind = Plain; depends = depends; declared = Some []; endpoints = [] }

abbrev plan : Plan
plan = plan_of (service (codes "a") [] ∷ service (codes "b") (0 ∷ []) ∷ service (codes "c") (1 ∷ []) ∷ [])

abbrev run : Record
run = Told (Phase Terminated 0) ∷ Told (Stop 0) ∷ Told (Phase ShutdownRuntimes 0) ∷ Told (Phase ShutdownStarted 0) ∷ Got (Signal FastShutdown)
    ∷ Told (Phase Running 0)
    ∷ Told (Start 2) ∷ Told (Start 1) ∷ Told (Start 0) ∷ []

right : Right plan run
right = right_from_test plan run refl

served : Served plan run
served = served_from_test plan run refl

beginnings-right : right_ones plan (beginnings run) ≡ true ∷ false ∷ false ∷ false ∷ false ∷ true ∷ false ∷ false ∷ false ∷ false ∷ []
beginnings-right = refl

shortened-right : right_ones plan (shortened run) ≡ false ∷ false ∷ false ∷ false ∷ false ∷ false ∷ false ∷ false ∷ false ∷ []
shortened-right = refl

doubled-right : right_ones plan (doubled run) ≡ false ∷ false ∷ false ∷ false ∷ false ∷ false ∷ false ∷ false ∷ false ∷ []
doubled-right = refl

swapped-right : right_ones plan (swapped run) ≡ false ∷ false ∷ false ∷ false ∷ false ∷ true ∷ false ∷ false ∷ []
swapped-right = refl
