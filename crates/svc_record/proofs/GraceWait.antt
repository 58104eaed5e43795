-- A run that is told to terminate: it ends once the grace period is over.
use Rattle.std.proofs.Common.{ℕ, true, false, [], ◌∷◌, ◌++◌, codes, ◌≡◌, refl}
use Rattle.svc_record.specs.declared.plan.Plan.{Plan}
use Rattle.svc_record.specs.declared.entry.Entry.TheVariants.{Got, Told}
use Rattle.svc_record.specs.declared.event.Event.TheVariants.{Moment, Bound, LoopEnded, Signal}
use Rattle.svc_record.specs.declared.event.ShutdownSignal.TheVariants.{GracefulTerminate as TerminateSignal}
use Rattle.svc_record.specs.declared.action.Action.TheVariants.{Start, Bind, Broadcast, Close, Phase, Stop}
use Rattle.svc_record.specs.declared.action.ExecutionPhase.TheVariants.{Running, GracefulTerminate, ShutdownStarted, ShutdownGracePeriod, ShutdownRuntimes, Terminated}
use Rattle.svc_record.specs.declared.action.StepEnd.TheVariants.{On, Served as HasServed}
use Rattle.svc_record.specs.Record.{Record}
use Rattle.svc_record.specs.Ends.{step_end}
use Rattle.svc_record.specs.Right.{Right, Served}
use Rattle.svc_record.proofs.Sound.{right_from_test, served_from_test}
use Rattle.svc_record.proofs.TwoServices.{plan_of, listening}
use Rattle.svc_record.proofs.Variants.{shortened, right_ones}

-- no services, and two seconds of grace
abbrev pub plan : Plan
plan = record (plan_of []) { grace = 2 }

-- the end at this moment, with these closes, where `Stop` waits so many seconds
abbrev pub ended : ℕ → Record → ℕ → Record → Record
ended ms closes seconds before = Told (Phase Terminated ms) ∷ Told (Stop seconds) ∷ closes ++ Told (Phase ShutdownRuntimes ms) ∷ before

-- the signal came at once, and the grace period has begun
abbrev pub told_to_end : Record → Record
told_to_end before =
    Told (Phase ShutdownGracePeriod 0) ∷ Told (Phase ShutdownStarted 0) ∷ Told (Phase GracefulTerminate 0) ∷ Told Broadcast ∷ Got (Signal TerminateSignal)
    ∷ before

abbrev pub waiting : Record
waiting = told_to_end (Told (Phase Running 0) ∷ [])

-- a millisecond before the grace period is over
abbrev pub almost : Record
almost = Got (Moment 1999) ∷ waiting

-- the whole run
abbrev pub run : Record
run = ended 2000 [] 5 (Got (Moment 2000) ∷ almost)

right : Right plan run
right = right_from_test plan run refl

served : Served plan run
served = served_from_test plan run refl

waits : step_end plan almost ≡ On
waits = refl

ends : step_end plan run ≡ HasServed
ends = refl

-- it needs each entry but for the moment at which nothing is due
shortened-right : right_ones plan (shortened run) ≡ false ∷ false ∷ false ∷ false ∷ true ∷ false ∷ false ∷ false ∷ false ∷ false ∷ false ∷ []
shortened-right = refl

-- one service whose endpoint has two loops, and one second of grace
abbrev pub looping : Plan
looping = record (plan_of (listening [] (codes "127.0.0.1:80") ∷ [])) { grace = 1; tasks = 2 }

-- the signal came while its endpoint was held
abbrev pub draining : Record
draining = told_to_end (Got (Bound 0 0 7) ∷ Told (Phase Running 0) ∷ Told (Bind 0 0) ∷ Told (Start 0) ∷ [])

-- both loops have ended
abbrev pub drained : Record
drained = Told (Close 7) ∷ Got (LoopEnded 0 0 1) ∷ Got (LoopEnded 0 0 0) ∷ draining

-- and the grace period is over
abbrev pub drained_run : Record
drained_run = ended 1000 [] 5 (Got (Moment 1000) ∷ drained)

drained-right : Right looping drained_run
drained-right = right_from_test looping drained_run refl

drained-served : Served looping drained_run
drained-served = served_from_test looping drained_run refl
