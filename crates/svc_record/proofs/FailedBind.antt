-- A run of one service with two endpoints: the bind of the second fails, so the service is given up and what the first has is closed.
use Rattle.std.proofs.Common.{ℕ, true, false, List, [], ◌∷◌, Some, None, codes, ◌≡◌, refl}
use Rattle.svc_graph.specs.declared.plan.EndpointPlan.{EndpointPlan}
use Rattle.svc_graph.specs.declared.plan.Kind.TheVariants.{Plain}
use Rattle.svc_record.specs.declared.plan.Plan.{Plan}
use Rattle.svc_record.specs.declared.plan.ServicePlan.{ServicePlan}
use Rattle.svc_record.specs.declared.entry.Entry.TheVariants.{Got, Told}
use Rattle.svc_record.specs.declared.event.Event.TheVariants.{Bound, BindFailed, Signal}
use Rattle.svc_record.specs.declared.event.ShutdownSignal.TheVariants.{FastShutdown}
use Rattle.svc_record.specs.declared.action.Action.TheVariants.{Start, Fail, Bind, Close, Phase, Stop}
use Rattle.svc_record.specs.declared.action.ExecutionPhase.TheVariants.{Running, ShutdownStarted, ShutdownRuntimes, Terminated}
use Rattle.svc_record.specs.Record.{Record}
use Rattle.svc_record.specs.Right.{Right, Served}
use Rattle.svc_record.proofs.Sound.{right_from_test, served_from_test}
use Rattle.svc_record.proofs.TwoServices.{plan_of}
use Rattle.svc_record.proofs.Variants.{shortened, beginnings, right_ones}

-- an endpoint with this address
abbrev pub tcp : List ℕ → EndpointPlan
tcp address = record { address = address; unix = false; options = []; filter = None }

-- a service with these two addresses
abbrev pub web : List ℕ → List ℕ → ServicePlan
web one other = record { name = codes "w"; kind = Plain; depends = []; declared = Some (one ∷ other ∷ []); endpoints = tcp one ∷ tcp other ∷ [] }

abbrev pub plan : Plan
plan = plan_of (web (codes "a:1") (codes "b:2") ∷ [])

-- the first endpoint is held, and the second asked for
abbrev pub half_held : Record
half_held = Told (Bind 0 1) ∷ Got (Bound 0 0 7) ∷ Told (Phase Running 0) ∷ Told (Bind 0 0) ∷ Told (Start 0) ∷ []

-- its bind failed
abbrev pub given_up : Record
given_up = Told (Close 7) ∷ Told (Fail 0) ∷ Got (BindFailed 0 1) ∷ half_held

-- the whole run
abbrev pub run : Record
run = Told (Phase Terminated 0) ∷ Told (Stop 0) ∷ Told (Phase ShutdownRuntimes 0) ∷ Told (Phase ShutdownStarted 0) ∷ Got (Signal FastShutdown) ∷ given_up

right : Right plan run
right = right_from_test plan run refl

served : Served plan run
served = served_from_test plan run refl

-- what stands before each event is right, what ends within a step isn't
beginnings-right : right_ones plan (beginnings run)
    ≡ true ∷ false ∷ false ∷ false ∷ false ∷ true ∷ false ∷ false ∷ true ∷ false ∷ true ∷ false ∷ false ∷ false ∷ []
beginnings-right = refl

-- no record that lacks an entry of it is right
shortened-wrong : right_ones plan (shortened run) ≡ false ∷ false ∷ false ∷ false ∷ false ∷ false ∷ false ∷ false ∷ false ∷ false ∷ false ∷ false ∷ false ∷ []
shortened-wrong = refl
