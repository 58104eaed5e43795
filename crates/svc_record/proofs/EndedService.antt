-- A run in which time passes, and a service's work is done before it said that it is ready: the service that waits for it starts then.
use Rattle.std.proofs.Common.{true, false, [], ◌∷◌, codes, ◌≡◌, refl}
use Rattle.svc_record.specs.declared.plan.Plan.{Plan}
use Rattle.svc_record.specs.declared.entry.Entry.TheVariants.{Got, Told}
use Rattle.svc_record.specs.declared.event.Event.TheVariants.{Moment, Ended, Signal}
use Rattle.svc_record.specs.declared.event.ShutdownSignal.TheVariants.{FastShutdown}
use Rattle.svc_record.specs.declared.action.Action.TheVariants.{Start, Phase, Stop}
use Rattle.svc_record.specs.declared.action.ExecutionPhase.TheVariants.{Running, ShutdownStarted, ShutdownRuntimes, Terminated}
use Rattle.svc_record.specs.declared.action.StepEnd.TheVariants.{Served as HasServed}
use Rattle.svc_record.specs.Record.{Record}
use Rattle.svc_record.specs.Ends.{step_end}
use Rattle.svc_record.specs.Fits.{fits}
use Rattle.svc_record.specs.Right.{Right, Served}
use Rattle.svc_record.proofs.Sound.{right_from_test, served_from_test}
use Rattle.svc_record.proofs.Variants.{shortened, doubled, swapped, beginnings, right_ones}
use Rattle.svc_record.proofs.TwoServices.{plan_of, database}
use Rattle.svc_record.proofs.ChainOfServices.{service}

abbrev pub plan : Plan
plan = plan_of (database ∷ service (codes "b") (0 ∷ []) ∷ [])

-- five milliseconds have passed
abbrev pub waiting : Record
waiting = Got (Moment 5) ∷ Told (Phase Running 0) ∷ Told (Start 0) ∷ []

-- the first is done, and the second starts
abbrev pub done : Record
done = Told (Start 1) ∷ Got (Ended 0) ∷ waiting

-- the whole run
abbrev pub run : Record
run = Told (Phase Terminated 5) ∷ Told (Stop 0) ∷ Told (Phase ShutdownRuntimes 5) ∷ Told (Phase ShutdownStarted 5) ∷ Got (Signal FastShutdown) ∷ done

right : Right plan run
right = right_from_test plan run refl

served : Served plan run
served = served_from_test plan run refl

ends : step_end plan run ≡ HasServed
ends = refl

beginnings-right : right_ones plan (beginnings run) ≡ true ∷ false ∷ false ∷ false ∷ false ∷ true ∷ false ∷ true ∷ true ∷ false ∷ false ∷ []
beginnings-right = refl

shortened-right : right_ones plan (shortened run) ≡ false ∷ false ∷ false ∷ false ∷ false ∷ false ∷ false ∷ false ∷ false ∷ false ∷ []
shortened-right = refl

-- a moment may come twice
doubled-right : right_ones plan (doubled run) ≡ false ∷ false ∷ false ∷ false ∷ false ∷ false ∷ false ∷ true ∷ false ∷ false ∷ []
doubled-right = refl

swapped-right : right_ones plan (swapped run) ≡ false ∷ false ∷ false ∷ false ∷ false ∷ false ∷ false ∷ false ∷ true ∷ []
swapped-right = refl

-- time doesn't go back
same_moment : fits plan done (Moment 5) ≡ true
same_moment = refl

earlier_moment : fits plan done (Moment 4) ≡ false
earlier_moment = refl

-- work is done once, and after it has begun
first_ended : fits plan waiting (Ended 0) ≡ true
first_ended = refl

second_ended : fits plan done (Ended 0) ≡ false
second_ended = refl

ended_unstarted : fits plan waiting (Ended 1) ≡ false
ended_unstarted = refl

ended_of_none : fits plan done (Ended 2) ≡ false
ended_of_none = refl
