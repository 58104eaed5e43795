-- Runs that receive a descriptor which no service names: it is closed at once, but for a service that doesn't say what it declares.
use Rattle.std.proofs.Common.{true, false, [], ◌∷◌, None, codes, ◌≡◌, refl}
use Rattle.std.specs.Str.{is_utf8, chars}
use lib.Utf8.{encode}
use Rattle.svc_fds.specs.Messages.{is_well_formed, words}
use Rattle.svc_record.specs.declared.plan.Plan.{Plan}
use Rattle.svc_record.specs.declared.plan.ServicePlan.{ServicePlan}
use Rattle.svc_record.specs.declared.entry.Entry.TheVariants.{Got, Told}
use Rattle.svc_record.specs.declared.event.Event.TheVariants.{Adopted, Signal}
use Rattle.svc_record.specs.declared.event.ShutdownSignal.TheVariants.{FastShutdown}
use Rattle.svc_record.specs.declared.action.Action.TheVariants.{Start, Adopt, Close, Phase, Stop}
use Rattle.svc_record.specs.declared.action.ExecutionPhase.TheVariants.{BootstrapComplete, Running, ShutdownStarted, ShutdownRuntimes, Terminated}
use Rattle.svc_record.specs.Record.{Record}
use Rattle.svc_record.specs.Right.{Right, Served, is_right}
use Rattle.svc_record.proofs.Sound.{right_from_test, served_from_test}
use Rattle.svc_record.proofs.ChainOfServices.{service}
use Rattle.svc_record.proofs.TwoServices.{listening}
use Rattle.svc_record.proofs.InheritedSockets.{inheriting, one_address, received, run as both_claimed}
use Rattle.svc_record.proofs.Variants.{shortened, beginnings, right_ones}

-- the second descriptor is closed at once
abbrev pub run : Record
run = Told (Phase Terminated 0) ∷ Told (Stop 0) ∷ Told (Close 3) ∷ Told (Phase ShutdownRuntimes 0) ∷ Told (Phase ShutdownStarted 0) ∷ Got (Signal FastShutdown)
    ∷ Got (Adopted 0 0)
    ∷ Told (Phase Running 0) ∷ Told (Adopt 0 0 3) ∷ Told (Start 0) ∷ Told (Phase BootstrapComplete 0) ∷ Told (Close 4) ∷ received

right : Right one_address run
unfolding is_utf8 chars encode is_well_formed words
right = right_from_test one_address run refl

served : Served one_address run
unfolding is_utf8 chars encode is_well_formed words
served = served_from_test one_address run refl

beginnings-right : right_ones one_address (beginnings run)
    ≡ true ∷ false ∷ false ∷ false ∷ false ∷ false ∷ true ∷ true ∷ false ∷ false ∷ false ∷ false ∷ false ∷ true ∷ false ∷ false ∷ false ∷ []
unfolding is_utf8 chars encode is_well_formed words
beginnings-right = refl

shortened-right : right_ones one_address (shortened run)
    ≡ false ∷ false ∷ false ∷ false ∷ false ∷ false ∷ true ∷ false ∷ false ∷ false ∷ false ∷ false ∷ false ∷ false ∷ false ∷ false ∷ []
unfolding is_utf8 chars encode is_well_formed words
shortened-right = refl

-- a service that doesn't say which addresses it declares
abbrev pub undeclared : ServicePlan
undeclared = record (service (codes "odd") []) { declared = None }

abbrev pub with_undeclared : Plan
with_undeclared = inheriting (listening [] (codes "127.0.0.1:80") ∷ undeclared ∷ [])

-- beside it nothing is unclaimed, so both descriptors are kept
abbrev pub kept : Record
kept = Told (Phase Terminated 0) ∷ Told (Stop 0) ∷ Told (Close 4) ∷ Told (Close 3) ∷ Told (Phase ShutdownRuntimes 0) ∷ Told (Phase ShutdownStarted 0)
    ∷ Got (Signal FastShutdown) ∷ Got (Adopted 0 0)
    ∷ Told (Phase Running 0) ∷ Told (Start 1) ∷ Told (Adopt 0 0 3) ∷ Told (Start 0) ∷ Told (Phase BootstrapComplete 0) ∷ received

kept-right : Right with_undeclared kept
unfolding is_utf8 chars encode is_well_formed words
kept-right = right_from_test with_undeclared kept refl

kept-served : Served with_undeclared kept
unfolding is_utf8 chars encode is_well_formed words
kept-served = served_from_test with_undeclared kept refl

-- what is right by the one plan isn't by the other
kept_unclaimed : is_right one_address both_claimed ≡ false
unfolding is_utf8 chars encode is_well_formed words
kept_unclaimed = refl
