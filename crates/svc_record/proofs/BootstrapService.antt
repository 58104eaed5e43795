-- Runs in which a service bootstraps the server, beside others that have begun already.
use Rattle.std.proofs.Common.{true, false, [], ◌∷◌, codes, ◌≡◌, refl}
use Rattle.std.specs.Str.{is_utf8, chars}
use lib.Utf8.{encode}
use Rattle.svc_graph.specs.declared.plan.Kind.TheVariants.{Bootstrap as Bootstrapping}
use Rattle.svc_fds.specs.Messages.{is_well_formed, words}
use Rattle.svc_record.specs.declared.plan.Plan.{Plan}
use Rattle.svc_record.specs.declared.plan.ServicePlan.{ServicePlan}
use Rattle.svc_record.specs.declared.entry.Entry.TheVariants.{Got, Told}
use Rattle.svc_record.specs.declared.event.Event.TheVariants.{Ready, Ended, Bound, Adopted, Received, Signal}
use Rattle.svc_record.specs.declared.event.ShutdownSignal.TheVariants.{FastShutdown}
use Rattle.svc_record.specs.declared.action.Action.TheVariants.{Start, Bind, Adopt, Close, OpenReceiver, TryReceive, Phase, Stop}
use Rattle.svc_record.specs.declared.action.ExecutionPhase.TheVariants.{Bootstrap, BootstrapComplete, Running, ShutdownStarted, ShutdownRuntimes, Terminated}
use Rattle.svc_record.specs.Record.{Record}
use Rattle.svc_record.specs.Fits.{fits}
use Rattle.svc_record.specs.Right.{Right, Served}
use Rattle.svc_record.proofs.Sound.{right_from_test, served_from_test}
use Rattle.svc_record.proofs.TwoServices.{plan_of, listening}
use Rattle.svc_record.proofs.ChainOfServices.{service}
use Rattle.svc_record.proofs.Variants.{shortened, beginnings, right_ones}

-- a service that bootstraps
abbrev pub bootstrapping : ServicePlan
bootstrapping = record (service (codes "boot") []) { kind = Bootstrapping }

-- a service that listens, and one that receives an older server's sockets
abbrev pub plan : Plan
plan = record (plan_of (listening [] (codes "127.0.0.1:80") ∷ bootstrapping ∷ [])) { upgrade = true }

-- both are started, and each asks
abbrev pub begun : Record
begun = Told (Phase Running 0) ∷ Told TryReceive ∷ Told OpenReceiver ∷ Told (Phase Bootstrap 0) ∷ Told (Start 1) ∷ Told (Bind 0 0) ∷ Told (Start 0) ∷ []

-- the older server's socket comes first, so the own one is closed, and the inherited one offered
abbrev pub inherited : Record
inherited = Told (Adopt 0 0 3) ∷ Told (Close 9) ∷ Got (Bound 0 0 9) ∷ Told (Phase BootstrapComplete 0) ∷ Got (Received (codes "127.0.0.1:80") (3 ∷ [])) ∷ begun

-- the whole run
abbrev pub run : Record
run = Told (Phase Terminated 0) ∷ Told (Stop 0) ∷ Told (Close 3) ∷ Told (Phase ShutdownRuntimes 0) ∷ Told (Phase ShutdownStarted 0) ∷ Got (Signal FastShutdown)
    ∷ Got (Adopted 0 0) ∷ inherited

right : Right plan run
unfolding is_utf8 chars encode is_well_formed words
right = right_from_test plan run refl

served : Served plan run
unfolding is_utf8 chars encode is_well_formed words
served = served_from_test plan run refl

beginnings-right : right_ones plan (beginnings run)
    ≡ true ∷ false ∷ false ∷ false ∷ false ∷ false ∷ true ∷ true ∷ false ∷ false ∷ true ∷ false ∷ true ∷ false ∷ false ∷ false ∷ false ∷ false ∷ false ∷ false
    ∷ []
unfolding is_utf8 chars encode is_well_formed words
beginnings-right = refl

shortened-right : right_ones plan (shortened run)
    ≡ false ∷ false ∷ false ∷ false ∷ false ∷ false ∷ true ∷ false ∷ false ∷ false ∷ false ∷ false ∷ false ∷ false ∷ false ∷ false ∷ false ∷ false ∷ false ∷ []
unfolding is_utf8 chars encode is_well_formed words
shortened-right = refl

-- the work of a service that bootstraps isn't done, and it doesn't say that it is ready
boots_on : fits plan begun (Ended 1) ≡ false
boots_on = refl

says_nothing : fits plan begun (Ready 1) ≡ false
says_nothing = refl

-- a service that waits for it starts once bootstrapping is complete, which is at once where nothing is to be received
abbrev pub alone : Plan
alone = plan_of (bootstrapping ∷ service (codes "b") (0 ∷ []) ∷ [])

abbrev pub alone_run : Record
alone_run = Told (Phase Terminated 0) ∷ Told (Stop 0) ∷ Told (Phase ShutdownRuntimes 0) ∷ Told (Phase ShutdownStarted 0) ∷ Got (Signal FastShutdown)
    ∷ Told (Phase Running 0)
    ∷ Told (Start 1) ∷ Told (Phase BootstrapComplete 0) ∷ Told (Phase Bootstrap 0) ∷ Told (Start 0) ∷ []

alone-right : Right alone alone_run
alone-right = right_from_test alone alone_run refl

alone-served : Served alone alone_run
alone-served = served_from_test alone alone_run refl
