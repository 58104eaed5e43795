-- Runs that only test that the server can start: they end as bootstrapping begins.
use Rattle.std.proofs.Common.{true, false, [], ◌∷◌, codes, ◌≡◌, refl}
use Rattle.svc_record.specs.declared.plan.Plan.{Plan}
use Rattle.svc_record.specs.declared.entry.Entry.TheVariants.{Got, Told}
use Rattle.svc_record.specs.declared.event.Event.TheVariants.{Bound, Moment, Ready}
use Rattle.svc_record.specs.declared.action.Action.TheVariants.{Start, Bind, Phase}
use Rattle.svc_record.specs.declared.action.ExecutionPhase.TheVariants.{Bootstrap, Running}
use Rattle.svc_record.specs.declared.action.StepEnd.TheVariants.{On, Tested}
use Rattle.svc_record.specs.Record.{Record}
use Rattle.svc_record.specs.Ends.{step_end}
use Rattle.svc_record.specs.Fits.{fits}
use Rattle.svc_record.specs.Right.{Right, is_served}
use Rattle.svc_record.proofs.Sound.{right_from_test}
use Rattle.svc_record.proofs.TwoServices.{plan_of, listening, database}
use Rattle.svc_record.proofs.BootstrapService.{bootstrapping}
use Rattle.svc_record.proofs.Variants.{shortened, beginnings, right_ones}

-- bootstrapping comes first
abbrev pub eager : Plan
eager = record (plan_of []) { test = true; eager = true }

abbrev pub eager_run : Record
eager_run = Told (Phase Bootstrap 0) ∷ []

eager-right : Right eager eager_run
eager-right = right_from_test eager eager_run refl

eager-ends : step_end eager eager_run ≡ Tested
eager-ends = refl

eager-served : is_served eager eager_run ≡ false
eager-served = refl

-- nothing comes after it
eager-ended : fits eager eager_run (Moment 0) ≡ false
eager-ended = refl

-- a service bootstraps, after what it depends on is ready
abbrev pub plan : Plan
plan = record (plan_of (database ∷ listening [] (codes "127.0.0.1:80") ∷ record bootstrapping { depends = 0 ∷ [] } ∷ [])) { test = true }

-- the others run
abbrev pub waiting : Record
waiting = Got (Bound 1 0 7) ∷ Told (Phase Running 0) ∷ Told (Bind 1 0) ∷ Told (Start 1) ∷ Told (Start 0) ∷ []

-- the whole run
abbrev pub run : Record
run = Told (Phase Bootstrap 0) ∷ Told (Start 2) ∷ Got (Ready 0) ∷ waiting

goes_on : step_end plan waiting ≡ On
goes_on = refl

right : Right plan run
right = right_from_test plan run refl

ends : step_end plan run ≡ Tested
ends = refl

beginnings-right : right_ones plan (beginnings run) ≡ true ∷ false ∷ false ∷ true ∷ true ∷ false ∷ false ∷ false ∷ false ∷ []
beginnings-right = refl

-- the address need not be held yet
shortened-right : right_ones plan (shortened run) ≡ false ∷ false ∷ false ∷ true ∷ false ∷ false ∷ false ∷ false ∷ []
shortened-right = refl
