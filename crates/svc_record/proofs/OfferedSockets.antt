-- Runs that are asked for an upgrade: what is live is offered to a successor, and five seconds after the last answer the grace period begins.
use Rattle.std.proofs.Common.{ℕ, true, false, [], ◌∷◌, codes, ◌≡◌, refl}
use Rattle.svc_fds.specs.Messages.{is_sayable, message_bytes}
use Rattle.svc_record.specs.declared.plan.Plan.{Plan}
use Rattle.svc_record.specs.declared.entry.Entry.TheVariants.{Got, Told}
use Rattle.svc_record.specs.declared.event.Event.TheVariants.{Moment, Bound, BindFailed, Connected, NotThere, Sent, SendFailed, Signal}
use Rattle.svc_record.specs.declared.event.ShutdownSignal.TheVariants.{GracefulUpgrade}
use Rattle.svc_record.specs.declared.action.Action.TheVariants.{Start, Fail, Bind, Broadcast, Connect, Send, Close, Phase}
use Rattle.svc_record.specs.declared.action.ExecutionPhase.TheVariants.{Running, GracefulUpgradeTransferringFds, GracefulUpgradeCloseTimeout, ShutdownStarted, ShutdownGracePeriod}
use Rattle.svc_record.specs.declared.action.StepEnd.TheVariants.{On, Served as HasServed}
use Rattle.svc_record.specs.Record.{Record}
use Rattle.svc_record.specs.Ends.{step_end}
use Rattle.svc_record.specs.Right.{Right, Served}
use Rattle.svc_record.proofs.Sound.{right_from_test, served_from_test}
use Rattle.svc_record.proofs.TwoServices.{plan_of, listening}
use Rattle.svc_record.proofs.FailedBind.{web, half_held}
use Rattle.svc_record.proofs.GraceWait.{ended}
use Rattle.svc_record.proofs.Variants.{shortened, right_ones}

-- a service with one address, and no grace period
abbrev pub plan : Plan
plan = record (plan_of (listening [] (codes "127.0.0.1:80") ∷ [])) { grace = 0 }

-- its address is held
abbrev pub held : Record
held = Got (Bound 0 0 7) ∷ Told (Phase Running 0) ∷ Told (Bind 0 0) ∷ Told (Start 0) ∷ []

-- an upgrade is asked for, and a successor is looked for
abbrev pub offered : Record → Record
offered before = Told Connect ∷ Told (Phase GracefulUpgradeTransferringFds 0) ∷ Got (Signal GracefulUpgrade) ∷ before

-- one is there, and the message is sent
abbrev pub sending : Record
sending = Told (Send (codes "127.0.0.1:80") (7 ∷ [])) ∷ Got Connected ∷ offered held

-- which fails
abbrev pub failed : Record
failed = Told (Phase GracefulUpgradeCloseTimeout 0) ∷ Got SendFailed ∷ sending

-- the grace period begins, at this moment
abbrev pub graced : ℕ → Record → Record
graced ms before = Told (Phase ShutdownGracePeriod ms) ∷ Told (Phase ShutdownStarted ms) ∷ Told Broadcast ∷ before

-- the whole run
abbrev pub run : Record
run = ended 5000 (Told (Close 7) ∷ []) 5 (graced 5000 (Got (Moment 5000) ∷ Got (Moment 4999) ∷ failed))

right : Right plan run
unfolding is_sayable message_bytes
right = right_from_test plan run refl

served : Served plan run
unfolding is_sayable message_bytes
served = served_from_test plan run refl

waits : step_end plan (Got (Moment 4999) ∷ failed) ≡ On
unfolding is_sayable message_bytes
waits = refl

ends : step_end plan run ≡ HasServed
unfolding is_sayable message_bytes
ends = refl

-- it needs each entry but for the moment at which nothing is due
shortened-right : right_ones plan (shortened run)
    ≡ false ∷ false ∷ false ∷ false ∷ false ∷ false ∷ false ∷ false ∷ true ∷ false ∷ false ∷ false ∷ false ∷ false ∷ false ∷ false ∷ false ∷ false ∷ false
    ∷ false ∷ []
unfolding is_sayable message_bytes
shortened-right = refl

-- a server that looks for a successor three times
abbrev pub thrice : Plan
thrice = record plan { limit = 2 }

-- nobody was there, a second later either
abbrev pub alone : Record
alone = Told Connect ∷ Got (Moment 2000) ∷ Got NotThere ∷ Told Connect ∷ Got (Moment 1000) ∷ Got NotThere ∷ offered held

-- nor another second later: the offer is over
abbrev pub given_up : Record
given_up = Told (Phase GracefulUpgradeCloseTimeout 2000) ∷ Got NotThere ∷ alone

alone-right : Right thrice given_up
unfolding is_sayable message_bytes
alone-right = right_from_test thrice given_up refl

alone-waits : step_end thrice given_up ≡ On
unfolding is_sayable message_bytes
alone-waits = refl

-- a service with two addresses, and no grace period
abbrev pub half_plan : Plan
half_plan = record (plan_of (web (codes "a:1") (codes "b:2") ∷ [])) { grace = 0 }

-- the second can't be bound while the first is on offer: it stays open
abbrev pub held_back : Record
held_back = Told (Fail 0) ∷ Got (BindFailed 0 1) ∷ offered half_held

-- the first is sent
abbrev pub half_sent : Record
half_sent = Got Sent ∷ Told (Send (codes "a:1") (7 ∷ [])) ∷ Got Connected ∷ held_back

-- and then closed
abbrev pub let_go : Record
let_go = Told (Phase GracefulUpgradeCloseTimeout 0) ∷ Told (Close 7) ∷ half_sent

-- the whole run
abbrev pub half_run : Record
half_run = ended 5000 [] 5 (graced 5000 (Got (Moment 5000) ∷ let_go))

half-right : Right half_plan half_run
unfolding is_sayable message_bytes
half-right = right_from_test half_plan half_run refl

half-served : Served half_plan half_run
unfolding is_sayable message_bytes
half-served = served_from_test half_plan half_run refl

-- both are held, and sent in the order of their addresses
abbrev pub both_held : Record
both_held = Got (Bound 0 1 8) ∷ half_held

-- the whole run
abbrev pub both_run : Record
both_run = ended 5000 (Told (Close 8) ∷ Told (Close 7) ∷ []) 5 (graced 5000 (Got (Moment 5000) ∷ Told (Phase GracefulUpgradeCloseTimeout 0) ∷ Got Sent
    ∷ Told (Send (codes "a:1 b:2") (7 ∷ 8 ∷ [])) ∷ Got Connected ∷ offered both_held))

both-right : Right half_plan both_run
unfolding is_sayable message_bytes
both-right = right_from_test half_plan both_run refl

both-served : Served half_plan both_run
unfolding is_sayable message_bytes
both-served = served_from_test half_plan both_run refl
