-- Records in which a received descriptor is closed: with a cause, and without one.
use Rattle.std.proofs.Common.{true, false, ◌∷◌, ◌≡◌, refl}
use Rattle.std.specs.Str.{is_utf8, chars}
use lib.Utf8.{encode}
use Rattle.svc_fds.specs.Messages.{is_well_formed, words}
use Rattle.svc_record.specs.declared.entry.Entry.TheVariants.{Got, Told}
use Rattle.svc_record.specs.declared.event.Event.TheVariants.{Adopted, AdoptFailed, Signal, LoopEnded}
use Rattle.svc_record.specs.declared.event.ShutdownSignal.TheVariants.{GracefulTerminate as TerminateSignal}
use Rattle.svc_record.specs.declared.action.Action.TheVariants.{Fail, Close, Phase, Broadcast}
use Rattle.svc_record.specs.declared.action.ExecutionPhase.TheVariants.{ShutdownStarted, ShutdownGracePeriod, GracefulTerminate}
use Rattle.svc_record.specs.Record.{Record}
use Rattle.svc_record.proofs.InheritedSockets.{plan, one_address, offered}
use Rattle.svc_record.proofs.UnclaimedDescriptor.{run}
use Rattle.svc_handover.specs.GivingUp.{gives_up_rightly}

-- no service names the second address, and both descriptors are closed at the end
unclaimed : gives_up_rightly one_address run ≡ true
unfolding is_utf8 chars encode is_well_formed words
unclaimed = refl

-- where a service claims it, that close has no cause
claimed : gives_up_rightly plan run ≡ false
unfolding is_utf8 chars encode is_well_formed words
claimed = refl

-- nor has one before the adoption is answered, or while the endpoint is held
early : gives_up_rightly plan (Told (Close 3) ∷ offered) ≡ false
unfolding is_utf8 chars encode is_well_formed words
early = refl

held : gives_up_rightly plan (Told (Close 3) ∷ Got (Adopted 0 0) ∷ offered) ≡ false
unfolding is_utf8 chars encode is_well_formed words
held = refl

-- the service failed, so both addresses are abandoned
abandoned : gives_up_rightly plan (Told (Close 4) ∷ Told (Close 3) ∷ Told (Fail 0) ∷ Got (AdoptFailed 0 0) ∷ offered) ≡ true
unfolding is_utf8 chars encode is_well_formed words
abandoned = refl

-- after the broadcast the endpoint's one loop ended, so what holds it is drained; the other descriptor is held by nobody
abbrev draining : Record
draining = Got (LoopEnded 0 0 0) ∷ Told (Phase ShutdownGracePeriod 0) ∷ Told (Phase ShutdownStarted 0) ∷ Told (Phase GracefulTerminate 0) ∷ Told Broadcast ∷ Got
    (Signal TerminateSignal) ∷ Got (Adopted 0 0) ∷ offered

drained : gives_up_rightly plan (Told (Close 3) ∷ draining) ≡ true
unfolding is_utf8 chars encode is_well_formed words
drained = refl

-- a cause that comes after the close doesn't serve
late : gives_up_rightly plan (Told (Fail 0) ∷ Got (AdoptFailed 0 0) ∷ Told (Close 3) ∷ offered) ≡ false
unfolding is_utf8 chars encode is_well_formed words
late = refl

undrained : gives_up_rightly plan (Told (Close 4) ∷ draining) ≡ false
unfolding is_utf8 chars encode is_well_formed words
undrained = refl
