-- What the joined core is told of the offer.
use Rattle.std.specs.Prelude.{Bool, true, false, not, List}
use Rattle.std.specs.List.{list_all}
use Rattle.svc_record.specs.declared.action.Action.{Action}
use Rattle.svc_record.specs.declared.action.Action.TheVariants.{Connect, Send}
use Rattle.svc_record.specs.declared.event.Event.{Event}
use Rattle.svc_record.specs.declared.event.Event.TheVariants.{Connected, NotThere, StillConnecting, ConnectFailed, Sent, SendBusy, SendFailed, Signal}

-- the event is an answer to an ask of the offer, or a signal
abbrev pub is_offer_event : Event → Bool
is_offer_event Connected = true
is_offer_event NotThere = true
is_offer_event StillConnecting = true
is_offer_event ConnectFailed = true
is_offer_event Sent = true
is_offer_event SendBusy = true
is_offer_event SendFailed = true
is_offer_event (Signal kind) = true
is_offer_event _ = false

-- the action is an ask of the offer
abbrev pub is_offer_action : Action → Bool
is_offer_action Connect = true
is_offer_action (Send bytes fds) = true
is_offer_action _ = false

-- none of them is one
abbrev pub has_no_offer_action : List Action → Bool
has_no_offer_action told = list_all (λ a. not (is_offer_action a)) told
