-- Events and actions that are none of this part's.
use Rattle.std.specs.Prelude.{Bool, true, false}
use Rattle.svc_record.specs.declared.action.Action.{Action}
use Rattle.svc_record.specs.declared.action.Action.TheVariants.{Start, Fail, Bind, Adopt, Close}
use Rattle.svc_record.specs.declared.event.Event.{Event}
use Rattle.svc_record.specs.declared.event.Event.TheVariants.{Bound, InUse, BindFailed, Adopted, AdoptFailed, Received, LoopEnded}

-- the event answers an ask of an endpoint, or brings descriptors, or ends a loop
abbrev pub is_endpoints_event : Event → Bool
is_endpoints_event (Bound s i fd) = true
is_endpoints_event (InUse s i) = true
is_endpoints_event (BindFailed s i) = true
is_endpoints_event (Adopted s i) = true
is_endpoints_event (AdoptFailed s i) = true
is_endpoints_event (Received bytes fds) = true
is_endpoints_event (LoopEnded s i j) = true
is_endpoints_event _ = false

-- the action is about a service's endpoints or a descriptor
abbrev pub is_endpoints_action : Action → Bool
is_endpoints_action (Start s) = true
is_endpoints_action (Fail s) = true
is_endpoints_action (Bind s i) = true
is_endpoints_action (Adopt s i fd) = true
is_endpoints_action (Close fd) = true
is_endpoints_action _ = false
