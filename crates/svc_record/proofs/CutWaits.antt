-- Runs that a fast signal after a graceful one cuts short: they end at once, whatever is waited for.
use Rattle.std.proofs.Common.{[], ◌∷◌, ◌≡◌, refl}
use Rattle.svc_fds.specs.Messages.{is_sayable, message_bytes}
use Rattle.svc_record.specs.declared.entry.Entry.TheVariants.{Got, Told}
use Rattle.svc_record.specs.declared.event.Event.TheVariants.{Moment as Time, Signal}
use Rattle.svc_record.specs.declared.event.ShutdownSignal.TheVariants.{FastShutdown, GracefulTerminate as TerminateSignal}
use Rattle.svc_record.specs.declared.action.Action.TheVariants.{Close, Phase}
use Rattle.svc_record.specs.declared.action.ExecutionPhase.TheVariants.{GracefulUpgradeCloseTimeout, ShutdownStarted}
use Rattle.svc_record.specs.declared.action.StepEnd.TheVariants.{Served as HasServed}
use Rattle.svc_record.specs.Record.{Record}
use Rattle.svc_record.specs.Ends.{step_end}
use Rattle.svc_record.specs.Right.{Right, Served}
use Rattle.svc_record.proofs.Sound.{right_from_test, served_from_test}
use Rattle.svc_record.proofs.Clauses.{AllPhases, LastActions, AllClosed, LastStep, Phases, NoEnd, IsRefusedBy}
use Rattle.svc_record.proofs.GraceWait.{plan as waiting_plan, waiting, ended}
use Rattle.svc_record.proofs.OfferedSockets.{plan, held, offered, failed, graced, half_plan, held_back}

-- a fast signal came
abbrev cut : Record → Record
cut before = Got (Signal FastShutdown) ∷ before

-- and the shutdown starts
abbrev started : Record → Record
started before = Told (Phase ShutdownStarted 0) ∷ cut before

-- in the grace period: the start of the shutdown was told before
abbrev late : Record
late = Got (Time 100) ∷ waiting

abbrev in_grace : Record
in_grace = ended 100 [] 0 (cut late)

in_grace-right : Right waiting_plan in_grace
in_grace-right = right_from_test waiting_plan in_grace refl

in_grace-served : Served waiting_plan in_grace
in_grace-served = served_from_test waiting_plan in_grace refl

in_grace-ends : step_end waiting_plan in_grace ≡ HasServed
in_grace-ends = refl

-- while a successor is looked for
abbrev in_offer : Record
in_offer = ended 0 (Told (Close 7) ∷ []) 0 (started (offered held))

in_offer-right : Right plan in_offer
unfolding is_sayable message_bytes
in_offer-right = right_from_test plan in_offer refl

in_offer-served : Served plan in_offer
unfolding is_sayable message_bytes
in_offer-served = served_from_test plan in_offer refl

-- in the five seconds after the offer
abbrev in_rest : Record
in_rest = ended 0 (Told (Close 7) ∷ []) 0 (started failed)

in_rest-right : Right plan in_rest
unfolding is_sayable message_bytes
in_rest-right = right_from_test plan in_rest refl

-- an abandoned descriptor is on offer: it closes with the step, before the end
abbrev let_go : Record
let_go = ended 0 [] 0 (Told (Phase ShutdownStarted 0) ∷ Told (Close 7) ∷ cut held_back)

let_go-right : Right half_plan let_go
unfolding is_sayable message_bytes
let_go-right = right_from_test half_plan let_go refl

let_go-served : Served half_plan let_go
unfolding is_sayable message_bytes
let_go-served = served_from_test half_plan let_go refl

-- a cut waits for the offer
offer_waits : IsRefusedBy plan (cut (offered held)) (AllPhases ∷ LastActions ∷ AllClosed ∷ LastStep ∷ [])
unfolding is_sayable message_bytes
offer_waits = (refl, refl)

-- it leaves out the start of the shutdown
start_left_out : IsRefusedBy plan (ended 0 (Told (Close 7) ∷ []) 0 (cut (offered held))) (AllPhases ∷ [])
unfolding is_sayable message_bytes
start_left_out = (refl, refl)

-- it tells it twice
start_twice : IsRefusedBy waiting_plan (ended 100 [] 0 (Told (Phase ShutdownStarted 100) ∷ cut late)) (AllPhases ∷ [])
start_twice = (refl, refl)

-- `Stop` waits for the workers
stop_waits : IsRefusedBy waiting_plan (ended 100 [] 5 (cut late)) (LastActions ∷ [])
stop_waits = (refl, refl)

-- the offer's end is told as without a cut
timeout_told : IsRefusedBy plan
    (ended 0 (Told (Close 7) ∷ []) 0 (Told (Phase ShutdownStarted 0) ∷ Told (Phase GracefulUpgradeCloseTimeout 0) ∷ cut (offered held))) (AllPhases ∷ [])
unfolding is_sayable message_bytes
timeout_told = (refl, refl)

-- the grace period begins with the cut
grace_told : IsRefusedBy plan (ended 0 (Told (Close 7) ∷ []) 0 (graced 0 (cut failed))) (AllPhases ∷ [])
unfolding is_sayable message_bytes
grace_told = (refl, refl)

-- a second graceful signal cuts
graceful_cuts : IsRefusedBy waiting_plan (ended 100 [] 0 (Got (Signal TerminateSignal) ∷ late)) (Phases ∷ NoEnd ∷ [])
graceful_cuts = (refl, refl)

-- an abandoned descriptor that was on offer is left to the end
left_to_end : IsRefusedBy half_plan (ended 0 (Told (Close 7) ∷ []) 0 (started held_back)) (LastStep ∷ [])
unfolding is_sayable message_bytes
left_to_end = (refl, refl)
