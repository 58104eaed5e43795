-- A run of two services, one of which waits for the other and then listens.
use Rattle.std.proofs.Common.{ℕ, true, false, List, [], ◌∷◌, Some, None, codes, ◌≡◌, refl}
use Rattle.svc_graph.specs.declared.plan.EndpointPlan.{EndpointPlan}
use Rattle.svc_graph.specs.declared.plan.Kind.TheVariants.{Notifying, Plain}
use Rattle.svc_record.specs.declared.plan.Plan.{Plan}
use Rattle.svc_record.specs.declared.plan.ServicePlan.{ServicePlan}
use Rattle.svc_record.specs.declared.entry.Entry.TheVariants.{Got, Told}
use Rattle.svc_record.specs.declared.event.Event.TheVariants.{Ready, Bound, Signal}
use Rattle.svc_record.specs.declared.event.ShutdownSignal.TheVariants.{FastShutdown}
use Rattle.svc_record.specs.declared.action.Action.TheVariants.{Start, Bind, Close, Phase, Stop}
use Rattle.svc_record.specs.declared.action.ExecutionPhase.TheVariants.{Running, ShutdownStarted, ShutdownRuntimes, Terminated}
use Rattle.svc_record.specs.declared.action.StepEnd.TheVariants.{Served as HasServed}
use Rattle.svc_record.specs.Record.{Record}
use Rattle.svc_record.specs.Ends.{step_end}
use Rattle.svc_record.specs.Right.{Right, Served}
use Rattle.svc_record.proofs.Sound.{right_from_test, served_from_test}
use Rattle.svc_record.proofs.Variants.{shortened, doubled, swapped, beginnings, right_ones}

-- a service that says when it is ready
abbrev pub database : ServicePlan
database = record { name = codes "db"; kind = Notifying; depends = []; declared = Some []; endpoints = [] }

-- a service with one address
abbrev pub listening : List ℕ → List ℕ → ServicePlan
listening depends address = record { name = codes "api"; kind = Plain; depends = depends; declared = Some (address ∷ []); endpoints = endpoint ∷ [] }
  where
    endpoint : EndpointPlan
    endpoint = record { address = address; unix = false; options = []; filter = None }

-- a plan of these services, and otherwise as by default
abbrev pub plan_of : List ServicePlan → Plan
plan_of services =
    record {
      services = services;
      grace = 300;
      stop = 5;
      tasks = 1;
      limit = 5;
      upgrade = false;
      test = false;
      eager = false;
      daemon = false;
      wait = false;
      ready_timeout = 600;
    }

abbrev pub plan : Plan
plan = plan_of (database ∷ listening (0 ∷ []) (codes "127.0.0.1:80") ∷ [])

-- the first is ready, and the second asks for its address
abbrev pub asked : Record
asked = Told (Bind 1 0) ∷ Told (Start 1) ∷ Got (Ready 0) ∷ Told (Phase Running 0) ∷ Told (Start 0) ∷ []

-- and has it
abbrev pub bound : Record
bound = Got (Bound 1 0 7) ∷ asked

-- the whole run
abbrev pub run : Record
run = Told (Phase Terminated 0) ∷ Told (Stop 0) ∷ Told (Close 7) ∷ Told (Phase ShutdownRuntimes 0) ∷ Told (Phase ShutdownStarted 0) ∷ Got (Signal FastShutdown)
    ∷ bound

right : Right plan run
right = right_from_test plan run refl

served : Served plan run
served = served_from_test plan run refl

ends : step_end plan run ≡ HasServed
ends = refl

-- what stands before each event is right, what ends within a step isn't
beginnings-right : right_ones plan (beginnings run) ≡ true ∷ false ∷ false ∷ false ∷ false ∷ false ∷ true ∷ true ∷ false ∷ false ∷ true ∷ false ∷ false ∷ []
beginnings-right = refl

-- it needs each entry
shortened-right : right_ones plan (shortened run) ≡ false ∷ false ∷ false ∷ false ∷ false ∷ false ∷ false ∷ false ∷ false ∷ false ∷ false ∷ false ∷ []
shortened-right = refl

-- and each once
doubled-right : right_ones plan (doubled run) ≡ false ∷ false ∷ false ∷ false ∷ false ∷ false ∷ false ∷ false ∷ false ∷ false ∷ false ∷ false ∷ []
doubled-right = refl

-- `Running` may stand before the first start too; all else has its place
swapped-right : right_ones plan (swapped run) ≡ false ∷ false ∷ false ∷ false ∷ false ∷ false ∷ false ∷ false ∷ false ∷ false ∷ true ∷ []
swapped-right = refl
