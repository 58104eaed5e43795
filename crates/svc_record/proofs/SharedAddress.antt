-- A run of two services with one address, which is in use at first: the second is offered what the first bound.
use Rattle.std.proofs.Common.{true, false, [], ◌∷◌, codes, ◌≡◌, refl}
use Rattle.svc_record.specs.declared.plan.Plan.{Plan}
use Rattle.svc_record.specs.declared.entry.Entry.TheVariants.{Got, Told}
use Rattle.svc_record.specs.declared.event.Event.TheVariants.{Moment, Bound, InUse, Adopted, Signal}
use Rattle.svc_record.specs.declared.event.ShutdownSignal.TheVariants.{FastShutdown}
use Rattle.svc_record.specs.declared.action.Action.TheVariants.{Start, Bind, Adopt, Close, Phase, Stop}
use Rattle.svc_record.specs.declared.action.ExecutionPhase.TheVariants.{Running, ShutdownStarted, ShutdownRuntimes, Terminated}
use Rattle.svc_record.specs.Record.{Record}
use Rattle.svc_record.specs.Right.{Right, Served}
use Rattle.svc_record.proofs.Sound.{right_from_test, served_from_test}
use Rattle.svc_record.proofs.TwoServices.{plan_of, listening}
use Rattle.svc_record.proofs.Variants.{shortened, beginnings, right_ones}

-- both services have this address
abbrev pub plan : Plan
plan = plan_of (listening [] (codes "127.0.0.1:80") ∷ listening [] (codes "127.0.0.1:80") ∷ [])

-- the first asked for it, and it was in use
abbrev pub refused : Record
refused = Got (InUse 0 0) ∷ Told (Phase Running 0) ∷ Told (Start 1) ∷ Told (Bind 0 0) ∷ Told (Start 0) ∷ []

-- it asked again after its rest
abbrev pub retried : Record
retried = Told (Bind 0 0) ∷ Got (Moment 1000) ∷ refused

-- it has it, and the second is offered it
abbrev pub offered : Record
offered = Told (Adopt 1 0 5) ∷ Got (Bound 0 0 5) ∷ retried

-- the whole run
abbrev pub run : Record
run = Told (Phase Terminated 1000) ∷ Told (Stop 0) ∷ Told (Close 5) ∷ Told (Phase ShutdownRuntimes 1000) ∷ Told (Phase ShutdownStarted 1000)
    ∷ Got (Signal FastShutdown) ∷ Got (Adopted 1 0) ∷ offered

right : Right plan run
right = right_from_test plan run refl

served : Served plan run
served = served_from_test plan run refl

-- what stands before each event is right, what ends within a step isn't
beginnings-right : right_ones plan (beginnings run)
    ≡ true ∷ false ∷ false ∷ false ∷ false ∷ false ∷ true ∷ true ∷ false ∷ true ∷ false ∷ true ∷ true ∷ false ∷ false ∷ false ∷ false ∷ []
beginnings-right = refl

-- of the records that lack an entry of it one is right: the adoption's answer may be missing
shortened-right : right_ones plan (shortened run)
    ≡ false ∷ false ∷ false ∷ false ∷ false ∷ false ∷ true ∷ false ∷ false ∷ false ∷ false ∷ false ∷ false ∷ false ∷ false ∷ false ∷ []
shortened-right = refl
