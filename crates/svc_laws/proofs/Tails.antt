-- What closes a run that didn't serve, and what doesn't.
use Rattle.std.proofs.Common.{true, false, [], ◌∷◌, Some, None, codes, ◌≡◌, refl}
use Rattle.svc_base.specs.declared.settings.Setting.TheVariants.{NoDelay}
use Rattle.svc_socket.specs.declared.peer.Peer.TheVariants.{Unix}
use Rattle.svc_record.specs.declared.entry.Entry.TheVariants.{Got, Told}
use Rattle.svc_record.specs.declared.event.Event.{Event}
use Rattle.svc_record.specs.declared.event.Event.TheVariants.{Received, Arrived, Signal}
use Rattle.svc_record.specs.declared.event.ShutdownSignal.TheVariants.{FastShutdown}
use Rattle.svc_record.specs.declared.action.Action.TheVariants.{Judged, Refuse, Settings, Close, Stop, Cut}
use Rattle.svc_record.specs.Record.{Record}
use Rattle.svc_record.specs.Tail.{closing_actions, tail_right}
use Rattle.svc_record.proofs.OfferedSockets.{held}
use Rattle.svc_laws.proofs.Verdicts.{plan}

-- two connections are live, and one was refused
abbrev live : Record
live = Told (Refuse 2) ∷ Told (Judged 2 false) ∷ Got (Arrived 0 0 2 Unix) ∷ Told (Settings 1 (NoDelay ∷ [])) ∷ Told (Judged 1 true) ∷ Got (Arrived 0 0 1 Unix)
    ∷ Told (Settings 4 (NoDelay ∷ [])) ∷ Told (Judged 4 true) ∷ Got (Arrived 0 0 4 Unix) ∷ held

-- a message that nobody waits for brings a number that is live, and a new one twice
abbrev stray : Event
stray = Received (codes "a b c") (7 ∷ 9 ∷ 9 ∷ [])

-- they are cut in ascending number, and the descriptor is closed
closes : closing_actions plan live None ≡ Cut 1 ∷ Cut 4 ∷ Close 7 ∷ []
closes = refl

closes-right : tail_right live None (closing_actions plan live None) ≡ true
closes-right = refl

-- a new number of the stray event is closed too, once
closes_stray : closing_actions plan live (Some stray) ≡ Cut 1 ∷ Cut 4 ∷ Close 7 ∷ Close 9 ∷ []
closes_stray = refl

closes_stray-right : tail_right live (Some stray) (closing_actions plan live (Some stray)) ≡ true
closes_stray-right = refl

-- an event that brings nothing leaves nothing to close
closes_nothing : closing_actions plan [] (Some (Signal FastShutdown)) ≡ []
closes_nothing = refl

-- a live descriptor is left open
left_open : tail_right live None (Cut 1 ∷ Cut 4 ∷ []) ≡ false
left_open = refl

-- a new number of the stray event is left open
stray_left_open : tail_right live (Some stray) (Cut 1 ∷ Cut 4 ∷ Close 7 ∷ []) ≡ false
stray_left_open = refl

-- a number that was live already is closed once more
closed_again : tail_right live (Some stray) (Cut 1 ∷ Cut 4 ∷ Close 7 ∷ Close 7 ∷ Close 9 ∷ []) ≡ false
closed_again = refl

-- a number that came twice is closed twice
closed_twice : tail_right live (Some stray) (Cut 1 ∷ Cut 4 ∷ Close 7 ∷ Close 9 ∷ Close 9 ∷ []) ≡ false
closed_twice = refl

-- a number is closed that never came
closed_unbrought : tail_right live None (Cut 1 ∷ Cut 4 ∷ Close 7 ∷ Close 8 ∷ []) ≡ false
closed_unbrought = refl

-- a number is closed once more that was closed before the run ended
closed_before : tail_right (Told (Close 7) ∷ held) None (Close 7 ∷ []) ≡ false
closed_before = refl

-- a live connection isn't cut
uncut : tail_right live None (Cut 1 ∷ Close 7 ∷ []) ≡ false
uncut = refl

-- one is cut twice
cut_twice : tail_right live None (Cut 1 ∷ Cut 4 ∷ Cut 4 ∷ Close 7 ∷ []) ≡ false
cut_twice = refl

-- one is cut that was refused
cut_refused : tail_right live None (Cut 1 ∷ Cut 2 ∷ Cut 4 ∷ Close 7 ∷ []) ≡ false
cut_refused = refl

-- something else is told
stops : tail_right live None (Cut 1 ∷ Cut 4 ∷ Close 7 ∷ Stop 0 ∷ []) ≡ false
stops = refl
