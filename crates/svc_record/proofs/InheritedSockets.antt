-- Runs that take over the sockets of an older server before anything starts.
use Rattle.std.proofs.Common.{true, false, List, [], ◌∷◌, Some, codes, ◌≡◌, refl}
use Rattle.std.specs.Str.{is_utf8, chars}
use lib.Utf8.{encode}
use Rattle.svc_fds.specs.Messages.{is_well_formed, words}
use Rattle.svc_record.specs.declared.plan.Plan.{Plan}
use Rattle.svc_record.specs.declared.plan.ServicePlan.{ServicePlan}
use Rattle.svc_record.specs.declared.entry.Entry.TheVariants.{Got, Told}
use Rattle.svc_record.specs.declared.event.Event.TheVariants.{Bound, Adopted, Received, Signal}
use Rattle.svc_record.specs.declared.event.ShutdownSignal.TheVariants.{FastShutdown}
use Rattle.svc_record.specs.declared.action.Action.TheVariants.{Start, Bind, Adopt, Close, OpenReceiver, TryReceive, Phase, Stop}
use Rattle.svc_record.specs.declared.action.ExecutionPhase.TheVariants.{Bootstrap, BootstrapComplete, Running, ShutdownStarted, ShutdownRuntimes, Terminated}
use Rattle.svc_record.specs.Record.{Record}
use Rattle.svc_record.specs.Right.{Right, Served}
use Rattle.svc_record.proofs.Sound.{right_from_test, served_from_test}
use Rattle.svc_record.proofs.TwoServices.{plan_of, listening}
use Rattle.svc_record.proofs.Variants.{shortened, doubled, beginnings, right_ones}

-- a plan by which the sockets of an older server are taken over first
abbrev pub inheriting : List ServicePlan → Plan
inheriting services = record (plan_of services) { upgrade = true; eager = true }

-- a service with one address, which claims another
abbrev pub claiming : ServicePlan
claiming = record (listening [] (codes "127.0.0.1:80")) { declared = Some (codes "127.0.0.1:80" ∷ codes "127.0.0.1:9090" ∷ []) }

abbrev pub plan : Plan
plan = inheriting (claiming ∷ [])

-- the first try to receive
abbrev pub begun : Record
begun = Told TryReceive ∷ Told OpenReceiver ∷ Told (Phase Bootstrap 0) ∷ []

-- a message brings both addresses
abbrev pub received : Record
received = Got (Received (codes "127.0.0.1:80 127.0.0.1:9090") (3 ∷ 4 ∷ [])) ∷ begun

-- the service is offered the descriptor of its endpoint
abbrev pub offered : Record
offered = Told (Phase Running 0) ∷ Told (Adopt 0 0 3) ∷ Told (Start 0) ∷ Told (Phase BootstrapComplete 0) ∷ received

-- the whole run
abbrev pub run : Record
run = Told (Phase Terminated 0) ∷ Told (Stop 0) ∷ Told (Close 4) ∷ Told (Close 3) ∷ Told (Phase ShutdownRuntimes 0) ∷ Told (Phase ShutdownStarted 0)
    ∷ Got (Signal FastShutdown) ∷ Got (Adopted 0 0) ∷ offered

right : Right plan run
unfolding is_utf8 chars encode is_well_formed words
right = right_from_test plan run refl

served : Served plan run
unfolding is_utf8 chars encode is_well_formed words
served = served_from_test plan run refl

-- what stands before each event is right, what ends within a step isn't
beginnings-right : right_ones plan (beginnings run)
    ≡ true ∷ false ∷ false ∷ false ∷ false ∷ false ∷ false ∷ true ∷ true ∷ false ∷ false ∷ false ∷ false ∷ true ∷ false ∷ false ∷ false ∷ []
unfolding is_utf8 chars encode is_well_formed words
beginnings-right = refl

-- of the records that lack an entry of it one is right: the adoption's answer may be missing
shortened-right : right_ones plan (shortened run)
    ≡ false ∷ false ∷ false ∷ false ∷ false ∷ false ∷ false ∷ true ∷ false ∷ false ∷ false ∷ false ∷ false ∷ false ∷ false ∷ false ∷ []
unfolding is_utf8 chars encode is_well_formed words
shortened-right = refl

-- and each entry comes once
doubled-wrong : right_ones plan (doubled run)
    ≡ false ∷ false ∷ false ∷ false ∷ false ∷ false ∷ false ∷ false ∷ false ∷ false ∷ false ∷ false ∷ false ∷ false ∷ false ∷ false ∷ []
unfolding is_utf8 chars encode is_well_formed words
doubled-wrong = refl

-- an older server that had no sockets: the address is bound
abbrev pub without_sockets : Record
without_sockets =
    Told (Phase Terminated 0) ∷ Told (Stop 0) ∷ Told (Close 9) ∷ Told (Phase ShutdownRuntimes 0) ∷ Told (Phase ShutdownStarted 0) ∷ Got (Signal FastShutdown)
    ∷ Got (Bound 0 0 9)
    ∷ Told (Phase Running 0) ∷ Told (Bind 0 0) ∷ Told (Start 0) ∷ Told (Phase BootstrapComplete 0) ∷ Got (Received [] []) ∷ begun

abbrev pub one_address : Plan
one_address = inheriting (listening [] (codes "127.0.0.1:80") ∷ [])

without_sockets-right : Right one_address without_sockets
unfolding is_utf8 chars encode is_well_formed words
without_sockets-right = right_from_test one_address without_sockets refl

without_sockets-served : Served one_address without_sockets
unfolding is_utf8 chars encode is_well_formed words
without_sockets-served = served_from_test one_address without_sockets refl
