-- Runs that wait for an older server: they try again after a second, and end if none comes or receiving fails.
use Rattle.std.proofs.Common.{false, [], ◌∷◌, ◌≡◌, refl}
use Rattle.std.specs.Str.{is_utf8, chars}
use lib.Utf8.{encode}
use Rattle.svc_fds.specs.Messages.{is_well_formed, words}
use Rattle.svc_record.specs.declared.plan.Plan.{Plan}
use Rattle.svc_record.specs.declared.entry.Entry.TheVariants.{Got, Told}
use Rattle.svc_record.specs.declared.event.Event.TheVariants.{Moment, Received, NoSenderYet, ReceiveFailed, Signal}
use Rattle.svc_record.specs.declared.event.ShutdownSignal.TheVariants.{FastShutdown}
use Rattle.svc_record.specs.declared.action.Action.TheVariants.{TryReceive, Phase, Stop}
use Rattle.svc_record.specs.declared.action.ExecutionPhase.TheVariants.{BootstrapComplete, Running, ShutdownStarted, ShutdownRuntimes, Terminated}
use Rattle.svc_record.specs.declared.action.StepEnd.TheVariants.{On, Ended}
use Rattle.svc_record.specs.declared.action.BootstrapError.TheVariants.{Transfer, NoSender}
use Rattle.svc_record.specs.Record.{Record}
use Rattle.svc_record.specs.Ends.{step_end}
use Rattle.svc_record.specs.Fits.{fits}
use Rattle.svc_record.specs.Right.{Right, Served}
use Rattle.svc_record.proofs.Sound.{right_from_test, served_from_test}
use Rattle.svc_record.proofs.InheritedSockets.{inheriting, begun}
use Rattle.svc_record.proofs.Variants.{shortened, right_ones}

-- a server without services, which tries again as often as by default
abbrev pub plan : Plan
plan = inheriting []

-- nobody was there, and it tried again
abbrev pub tried_again : Record
tried_again = Told TryReceive ∷ Got (Moment 1000) ∷ Got NoSenderYet ∷ begun

-- the whole run
abbrev pub run : Record
run = Told (Phase Terminated 1000) ∷ Told (Stop 0) ∷ Told (Phase ShutdownRuntimes 1000) ∷ Told (Phase ShutdownStarted 1000) ∷ Got (Signal FastShutdown)
    ∷ Told (Phase Running 1000) ∷ Told (Phase BootstrapComplete 1000) ∷ Got (Received [] []) ∷ tried_again

right : Right plan run
unfolding is_utf8 chars encode is_well_formed words
right = right_from_test plan run refl

served : Served plan run
unfolding is_utf8 chars encode is_well_formed words
served = served_from_test plan run refl

shortened-wrong : right_ones plan (shortened run)
    ≡ false ∷ false ∷ false ∷ false ∷ false ∷ false ∷ false ∷ false ∷ false ∷ false ∷ false ∷ false ∷ false ∷ false ∷ []
unfolding is_utf8 chars encode is_well_formed words
shortened-wrong = refl

goes_on : step_end plan tried_again ≡ On
goes_on = refl

-- while it bootstraps, it can't be told to end
signal_early : fits plan tried_again (Signal FastShutdown) ≡ false
signal_early = refl

-- a server that doesn't try again
abbrev pub once : Plan
once = record plan { limit = 0 }

nobody : Right once (Got NoSenderYet ∷ begun)
nobody = right_from_test once (Got NoSenderYet ∷ begun) refl

nobody-ends : step_end once (Got NoSenderYet ∷ begun) ≡ Ended NoSender
nobody-ends = refl

-- receiving failed
failed : Right once (Got ReceiveFailed ∷ begun)
failed = right_from_test once (Got ReceiveFailed ∷ begun) refl

failed-ends : step_end once (Got ReceiveFailed ∷ begun) ≡ Ended Transfer
failed-ends = refl
