-- Runs of daemons: the parent waits for its child, or ends at once, and the child goes on.
use Rattle.std.proofs.Common.{true, [], ◌∷◌, ◌≡◌, refl}
use Rattle.svc_record.specs.declared.plan.Plan.{Plan}
use Rattle.svc_record.specs.declared.entry.Entry.TheVariants.{Got, Told}
use Rattle.svc_record.specs.declared.event.Event.TheVariants.{Moment, Signal, Side as Forked, ChildReady, ChildGone, DropFailed}
use Rattle.svc_record.specs.declared.event.ShutdownSignal.TheVariants.{FastShutdown}
use Rattle.svc_record.specs.declared.event.Side.TheVariants.{Child, Parent}
use Rattle.svc_record.specs.declared.action.Action.TheVariants.{NotifyParent, Phase, Stop, Daemonize}
use Rattle.svc_record.specs.declared.action.ExecutionPhase.TheVariants.{Bootstrap, BootstrapComplete, Running, ShutdownStarted, ShutdownRuntimes, Terminated}
use Rattle.svc_record.specs.declared.action.StepEnd.TheVariants as ends
use Rattle.svc_record.specs.Record.{Record}
use Rattle.svc_record.specs.Ends.{step_end}
use Rattle.svc_record.specs.Right.{Right, Served}
use Rattle.svc_record.proofs.Sound.{right_from_test, served_from_test}
use Rattle.svc_record.proofs.Clauses.{EventFits, Beginning, ForkBeforeAll, SilentEnd, IsRefusedBy}
use Rattle.svc_record.proofs.TwoServices.{plan_of}

-- a daemon without services
abbrev daemon : Plan
daemon = record (plan_of []) { daemon = true }

-- one whose parent waits two seconds
abbrev waiting : Plan
waiting = record (plan_of []) { daemon = true; wait = true; ready_timeout = 2 }

-- one whose child bootstraps first
abbrev bootstrapping : Plan
bootstrapping = record (plan_of []) { daemon = true; wait = true; eager = true }

-- the process is the parent
abbrev parent : Record
parent = Got (Forked Parent) ∷ Told Daemonize ∷ []

-- after half a second
abbrev late_parent : Record
late_parent = Got (Forked Parent) ∷ Got (Moment 500) ∷ Told Daemonize ∷ []

-- it waits still
abbrev almost : Record
almost = Got (Moment 2499) ∷ late_parent

-- the process is the child, which bootstraps
abbrev child : Record
child = Told (Phase Running 0) ∷ Told (Phase BootstrapComplete 0) ∷ Told NotifyParent ∷ Told (Phase Bootstrap 0) ∷ Got (Forked Child) ∷ Told Daemonize ∷ []

-- and runs to its end
abbrev child_run : Record
child_run = Told (Phase Terminated 0) ∷ Told (Stop 0) ∷ Told (Phase ShutdownRuntimes 0) ∷ Told (Phase ShutdownStarted 0) ∷ Got (Signal FastShutdown) ∷ child

child-right : Right bootstrapping child_run
child-right = right_from_test bootstrapping child_run refl

child-served : Served bootstrapping child_run
child-served = served_from_test bootstrapping child_run refl

-- a parent that doesn't wait ends well
parent-right : Right daemon parent
parent-right = right_from_test daemon parent refl

parent-ends : step_end daemon parent ≡ ends.Parent 0
parent-ends = refl

-- one that waits ends by what becomes of its child
ready-right : Right waiting (Got ChildReady ∷ parent)
ready-right = right_from_test waiting (Got ChildReady ∷ parent) refl

ready-ends : step_end waiting (Got ChildReady ∷ parent) ≡ ends.Parent 0
ready-ends = refl

gone-right : Right waiting (Got ChildGone ∷ parent)
gone-right = right_from_test waiting (Got ChildGone ∷ parent) refl

gone-ends : step_end waiting (Got ChildGone ∷ parent) ≡ ends.Parent 1
gone-ends = refl

dropped-ends : step_end waiting (Got DropFailed ∷ parent) ≡ ends.Parent 1
dropped-ends = refl

-- or once it has waited two seconds, and not before
almost-waits : step_end waiting almost ≡ ends.On
almost-waits = refl

late-right : Right waiting (Got (Moment 2500) ∷ almost)
late-right = right_from_test waiting (Got (Moment 2500) ∷ almost) refl

late-ends : step_end waiting (Got (Moment 2500) ∷ almost) ≡ ends.Parent 1
late-ends = refl

-- a parent that has ended tells something
told_by_parent : IsRefusedBy daemon (Told (Phase Running 0) ∷ parent) (SilentEnd ∷ [])
told_by_parent = (refl, refl)

-- a waiting parent tells something
told_while_waiting : IsRefusedBy waiting (Told (Phase Running 0) ∷ parent) (Beginning ∷ ForkBeforeAll ∷ [])
told_while_waiting = (refl, refl)

-- an event comes after the parent has ended
event_after_parent : IsRefusedBy daemon (Got (Moment 1) ∷ parent) (EventFits ∷ [])
event_after_parent = (refl, refl)

-- the fork is answered twice
forked_twice : IsRefusedBy waiting (Got (Forked Child) ∷ parent) (EventFits ∷ Beginning ∷ [])
forked_twice = (refl, refl)

-- a child is told of that wasn't forked
ready_unforked : IsRefusedBy waiting (Got ChildReady ∷ Told Daemonize ∷ []) (EventFits ∷ [])
ready_unforked = (refl, refl)

-- the child doesn't notify the parent that waits
notify_left_out : IsRefusedBy bootstrapping
    (Told (Phase Running 0) ∷ Told (Phase BootstrapComplete 0) ∷ Told (Phase Bootstrap 0) ∷ Got (Forked Child) ∷ Told Daemonize ∷ []) (Beginning ∷ [])
notify_left_out = (refl, refl)
