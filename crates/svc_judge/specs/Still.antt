-- Where time alone changes nothing that is asked of a record while the run goes on.
use Rattle.std.specs.Prelude.{Bool, true, false, not, ◌&&◌, [], ◌∷◌}
use Rattle.svc_record.specs.declared.plan.Plan.{Plan}
use Rattle.svc_record.specs.declared.entry.Entry.{Entry}
use Rattle.svc_record.specs.declared.entry.Entry.TheVariants.{Got}
use Rattle.svc_record.specs.declared.event.Event.TheVariants.{Moment, InUse, Received, NoSenderYet, ReceiveFailed}
use Rattle.svc_record.specs.Record.{Record, has, signal_of}
use Rattle.svc_record.specs.Endpoints.{in_use_within}
use Rattle.svc_record.specs.Offer.{is_upgrade}
use Rattle.svc_record.specs.Ends.{has_ended}

-- the event is a moment
abbrev pub is_moment : Entry → Bool
is_moment (Got (Moment ms)) = true
is_moment _ = false

-- the newest entry is one
abbrev pub is_at_moment : Record → Bool
is_at_moment [] = false
is_at_moment (e ∷ before) = is_moment e

-- of the answers to tries the newest is that no sender is there yet
abbrev pub awaits_sender : Record → Bool
awaits_sender [] = false
awaits_sender (Got (Received bytes fds) ∷ before) = false
awaits_sender (Got NoSenderYet ∷ before) = true
awaits_sender (Got ReceiveFailed ∷ before) = false
awaits_sender (e ∷ before) = awaits_sender before

-- the event is `InUse` of an endpoint of whose binds and their answers in w the newest is `InUse`
abbrev pub is_last_in_use : Record → Entry → Bool
is_last_in_use w (Got (InUse s i)) = in_use_within 0 w s i
is_last_in_use w _ = false

-- there is such an endpoint
abbrev pub has_in_use : Record → Bool
has_in_use q = has (is_last_in_use q) q

-- neither a bind nor a try nor an offer rests
abbrev pub is_still : Record → Bool
is_still q = (not (is_upgrade (signal_of q)) && not (awaits_sender q)) && not (has_in_use q)

-- a moment came last, nothing rests, and the run goes on
abbrev pub is_idle : Plan → Record → Bool
is_idle p q = (is_at_moment q && is_still q) && not (has_ended p q)
