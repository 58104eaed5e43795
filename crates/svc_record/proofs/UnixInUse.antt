-- A Unix endpoint is tried once: an address in use fails its service, and the next with the address is bound.
use Rattle.std.proofs.Common.{ℕ, true, false, List, [], ◌∷◌, None, codes, ◌≡◌, refl}
use Rattle.svc_graph.specs.declared.plan.EndpointPlan.{EndpointPlan}
use Rattle.svc_record.specs.declared.plan.Plan.{Plan}
use Rattle.svc_record.specs.declared.plan.ServicePlan.{ServicePlan}
use Rattle.svc_record.specs.declared.entry.Entry.TheVariants.{Got, Told}
use Rattle.svc_record.specs.declared.event.Event.TheVariants.{Bound, InUse, Signal}
use Rattle.svc_record.specs.declared.event.ShutdownSignal.TheVariants.{FastShutdown}
use Rattle.svc_record.specs.declared.action.Action.TheVariants.{Start, Fail, Bind, Close, Phase, Stop}
use Rattle.svc_record.specs.declared.action.ExecutionPhase.TheVariants.{Running, ShutdownStarted, ShutdownRuntimes, Terminated}
use Rattle.svc_record.specs.Record.{Record}
use Rattle.svc_record.specs.Right.{Right, Served}
use Rattle.svc_record.proofs.Sound.{right_from_test, served_from_test}
use Rattle.svc_record.proofs.TwoServices.{plan_of, listening}
use Rattle.svc_record.proofs.Variants.{shortened, right_ones}

-- a Unix endpoint at this path
abbrev unix : List ℕ → EndpointPlan
unix path = record { address = path; unix = true; options = []; filter = None }

abbrev local : ServicePlan
local = record (listening [] (codes "/run/u")) { endpoints = unix (codes "/run/u") ∷ [] }

-- two services with one Unix endpoint
abbrev pub plan : Plan
plan = plan_of (local ∷ local ∷ [])

-- the first asked for it in vain, and is given up
abbrev pub given_up : Record
given_up = Told (Bind 1 0) ∷ Told (Fail 0) ∷ Got (InUse 0 0) ∷ Told (Phase Running 0) ∷ Told (Start 1) ∷ Told (Bind 0 0) ∷ Told (Start 0) ∷ []

-- the whole run
abbrev pub run : Record
run = Told (Phase Terminated 0) ∷ Told (Stop 0) ∷ Told (Close 4) ∷ Told (Phase ShutdownRuntimes 0) ∷ Told (Phase ShutdownStarted 0) ∷ Got (Signal FastShutdown)
    ∷ Got (Bound 1 0 4) ∷ given_up

right : Right plan run
right = right_from_test plan run refl

served : Served plan run
served = served_from_test plan run refl

-- no record that lacks an entry of it is right
shortened-wrong : right_ones plan (shortened run)
    ≡ false ∷ false ∷ false ∷ false ∷ false ∷ false ∷ false ∷ false ∷ false ∷ false ∷ false ∷ false ∷ false ∷ false ∷ []
shortened-wrong = refl
