-- Records of a wait or an offer that no server leaves: each is refused, by the clauses that say why.
use Rattle.std.proofs.Common.{[], ◌∷◌, codes, refl}
use Rattle.svc_fds.specs.Messages.{is_sayable, message_bytes}
use Rattle.svc_record.specs.declared.entry.Entry.TheVariants.{Got, Told}
use Rattle.svc_record.specs.declared.event.Event.TheVariants.{Moment as Time, Connected, Sent, LoopEnded, Signal}
use Rattle.svc_record.specs.declared.event.ShutdownSignal.TheVariants.{GracefulUpgrade}
use Rattle.svc_record.specs.declared.action.Action.TheVariants.{Connect, Send, Close, Phase}
use Rattle.svc_record.specs.declared.action.ExecutionPhase.TheVariants.{GracefulUpgradeTransferringFds, GracefulUpgradeCloseTimeout}
use Rattle.svc_record.specs.Record.{Record}
use Rattle.svc_record.proofs.Clauses.{EventFits, OfferInTurn, Closes, Phases, NoEnd, AllPhases, LastActions, LastStep, IsRefusedBy}
use Rattle.svc_record.proofs.GraceWait.{plan as waiting_plan, waiting, almost, ended, looping, draining, drained}
use Rattle.svc_record.proofs.OfferedSockets.{plan, held, offered, sending, failed, graced, half_plan, both_held, held_back}

-- the message is sent after three seconds
abbrev sent_late : Record
sent_late = Told (Phase GracefulUpgradeCloseTimeout 3000) ∷ Got Sent ∷ Got (Time 3000) ∷ sending

-- the grace period is a second short
grace_short : IsRefusedBy waiting_plan (ended 1000 [] 5 (Got (Time 1000) ∷ waiting)) (Phases ∷ NoEnd ∷ [])
grace_short = (refl, refl)

-- it is a millisecond short
grace_almost : IsRefusedBy waiting_plan (ended 1999 [] 5 almost) (Phases ∷ NoEnd ∷ [])
grace_almost = (refl, refl)

-- it is over, and the run goes on
grace_long : IsRefusedBy waiting_plan (Got (Time 2000) ∷ almost) (AllPhases ∷ LastActions ∷ LastStep ∷ [])
grace_long = (refl, refl)

-- `Stop` waits for none of the workers
stop_at_once : IsRefusedBy waiting_plan (ended 2000 [] 0 (Got (Time 2000) ∷ almost)) (LastActions ∷ [])
stop_at_once = (refl, refl)

-- it waits too long
stop_late : IsRefusedBy waiting_plan (ended 2000 [] 6 (Got (Time 2000) ∷ almost)) (LastActions ∷ [])
stop_late = (refl, refl)

-- a loop ends twice
loop_ends_twice : IsRefusedBy looping (Got (LoopEnded 0 0 1) ∷ drained) (EventFits ∷ [])
loop_ends_twice = (refl, refl)

-- a third loop ends
third_loop : IsRefusedBy looping (Got (LoopEnded 0 0 2) ∷ drained) (EventFits ∷ [])
third_loop = (refl, refl)

-- a descriptor is closed after one of its two loops
closed_in_use : IsRefusedBy looping (Told (Close 7) ∷ Got (LoopEnded 0 0 1) ∷ draining) (Closes ∷ [])
closed_in_use = (refl, refl)

-- both have ended, and it is left open
drained_left_open : IsRefusedBy looping (Got (LoopEnded 0 0 1) ∷ Got (LoopEnded 0 0 0) ∷ draining) (Closes ∷ [])
drained_left_open = (refl, refl)

-- the five seconds are counted from the signal
five_from_signal : IsRefusedBy plan (graced 5000 (Got (Time 5000) ∷ sent_late)) (Phases ∷ [])
unfolding is_sayable message_bytes
five_from_signal = (refl, refl)

-- they are a millisecond short
five_short : IsRefusedBy plan (graced 4999 (Got (Time 4999) ∷ failed)) (Phases ∷ [])
unfolding is_sayable message_bytes
five_short = (refl, refl)

-- they begin before the last answer
five_early : IsRefusedBy plan (Told (Phase GracefulUpgradeCloseTimeout 0) ∷ sending) (Phases ∷ [])
unfolding is_sayable message_bytes
five_early = (refl, refl)

-- an abandoned descriptor is closed while it is on offer
closed_on_offer : IsRefusedBy half_plan (Told (Close 7) ∷ held_back) (Closes ∷ [])
unfolding is_sayable message_bytes
closed_on_offer = (refl, refl)

-- it is left open after the last answer
left_open_after_offer : IsRefusedBy half_plan
    (Told (Phase GracefulUpgradeCloseTimeout 0) ∷ Got Sent ∷ Told (Send (codes "a:1") (7 ∷ [])) ∷ Got Connected ∷ held_back) (Closes ∷ [])
unfolding is_sayable message_bytes
left_open_after_offer = (refl, refl)

-- a second successor is looked for while the first hasn't answered
connect_twice : IsRefusedBy plan (Told Connect ∷ offered held) (OfferInTurn ∷ [])
unfolding is_sayable message_bytes
connect_twice = (refl, refl)

-- the message is sent twice
send_twice : IsRefusedBy plan (Told (Send (codes "127.0.0.1:80") (7 ∷ [])) ∷ sending) (OfferInTurn ∷ [])
unfolding is_sayable message_bytes
send_twice = (refl, refl)

-- it is empty
send_nothing : IsRefusedBy plan (Told (Send [] []) ∷ Got Connected ∷ offered held) (OfferInTurn ∷ [])
unfolding is_sayable message_bytes
send_nothing = (refl, refl)

-- it carries another number
send_of_other : IsRefusedBy plan (Told (Send (codes "127.0.0.1:80") (8 ∷ [])) ∷ Got Connected ∷ offered held) (OfferInTurn ∷ [])
unfolding is_sayable message_bytes
send_of_other = (refl, refl)

-- it lacks the second address
send_in_part : IsRefusedBy half_plan (Told (Send (codes "a:1") (7 ∷ [])) ∷ Got Connected ∷ offered both_held) (OfferInTurn ∷ [])
unfolding is_sayable message_bytes
send_in_part = (refl, refl)

-- its numbers are in another order than its addresses
send_crossed : IsRefusedBy half_plan (Told (Send (codes "a:1 b:2") (8 ∷ 7 ∷ [])) ∷ Got Connected ∷ offered both_held) (OfferInTurn ∷ [])
unfolding is_sayable message_bytes
send_crossed = (refl, refl)

-- it is sent before a successor is there
send_early : IsRefusedBy plan
    (Told (Send (codes "127.0.0.1:80") (7 ∷ [])) ∷ Told (Phase GracefulUpgradeTransferringFds 0) ∷ Got (Signal GracefulUpgrade) ∷ held) (OfferInTurn ∷ [])
unfolding is_sayable message_bytes
send_early = (refl, refl)
