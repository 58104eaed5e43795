-- What each call makes of the part on the offer, and what it tells.
use Rattle.std.specs.Prelude.{ℕ, Bool, true, false, ◌-◌, List, [], ◌∷◌, Option, Some, None, nat_lt, if◌then◌else◌}
use Rattle.svc_fds.specs.declared.encoding.Message.{Message}
use Rattle.svc_fds.specs.declared.retry.SendAnswer.{SendAnswer}
use Rattle.svc_fds.specs.declared.retry.SendAnswer.TheVariants as answers
use Rattle.svc_fds.specs.RetriesLeft.{RetriesLeft}
use Rattle.svc_record.specs.declared.action.Action.{Action}
use Rattle.svc_record.specs.declared.action.Action.TheVariants.{Connect, Send}
use Rattle.svc_record.specs.declared.event.Event.{Event}
use Rattle.svc_record.specs.declared.event.Event.TheVariants as events
use Rattle.svc_offer.specs.declared.offering.Offering.{Offering}
use Rattle.svc_offer.specs.declared.offering.Offering.TheVariants.{Nothing, Unasked, Connecting, Connected, Sending, Absent, Delayed, Stalled, Over}
use Rattle.svc_offer.specs.OfferData.{OfferData}
use Rattle.svc_offer.specs.OfferState.{is_connect_due, is_send_due, is_stall_over, is_connecting, is_sending}

-- nothing is offered, and so many absences are borne
abbrev pub nothing : ℕ → OfferData
nothing limit = record { state = Nothing; message = None; retries = record { absences = limit; delays = 19 } }

-- the event of an answer
abbrev pub event_of : SendAnswer → Event
event_of answers.Connected = events.Connected
event_of answers.NotThere = events.NotThere
event_of answers.StillConnecting = events.StillConnecting
event_of answers.ConnectFailed = events.ConnectFailed
event_of answers.Sent = events.Sent
event_of answers.SendBusy = events.SendBusy
event_of answers.SendFailed = events.SendFailed

-- the answer is to a connect
abbrev pub answers_connect : SendAnswer → Bool
answers_connect answers.Connected = true
answers_connect answers.NotThere = true
answers_connect answers.StillConnecting = true
answers_connect answers.ConnectFailed = true
answers_connect answers.Sent = false
answers_connect answers.SendBusy = false
answers_connect answers.SendFailed = false

-- its ask is open
abbrev pub is_awaited : Offering → SendAnswer → Bool
is_awaited x answer = if answers_connect answer then is_connecting x else is_sending x

-- where it can be written it is to be connected; else the offer is over at this moment
abbrev pub first_state : Option Message → ℕ → Offering
first_state (Some w) moment = Unasked
first_state None moment = Over moment

-- the offer begins
abbrev pub begun : Option Message → ℕ → OfferData → OfferData
begun message moment d = record { state = first_state message moment; message = message; retries = d.retries }

-- the offer ends by the answer, where so much is borne
abbrev pub ends_by : RetriesLeft → SendAnswer → Bool
ends_by n answers.Connected = false
ends_by n answers.NotThere = nat_lt n.absences 1
ends_by n answers.StillConnecting = nat_lt n.delays 1
ends_by n answers.ConnectFailed = true
ends_by n answers.Sent = true
ends_by n answers.SendBusy = nat_lt n.delays 1
ends_by n answers.SendFailed = true

-- what an answer at this moment leaves where the offer goes on
abbrev pub state_after : SendAnswer → ℕ → Offering
state_after answers.Connected moment = Connected
state_after answers.NotThere moment = Absent moment
state_after answers.StillConnecting moment = Delayed moment
state_after answers.ConnectFailed moment = Over moment
state_after answers.Sent moment = Over moment
state_after answers.SendBusy moment = Stalled moment
state_after answers.SendFailed moment = Over moment

-- what an answer at this moment leaves
abbrev pub answered_state : RetriesLeft → SendAnswer → ℕ → Offering
answered_state n answer moment = if ends_by n answer then Over moment else state_after answer moment

-- and how much more is borne
abbrev pub retries_after : RetriesLeft → SendAnswer → RetriesLeft
retries_after n answers.Connected = n
retries_after n answers.NotThere = record { absences = n.absences - 1; delays = n.delays }
retries_after n answers.StillConnecting = record { absences = n.absences; delays = n.delays - 1 }
retries_after n answers.ConnectFailed = n
retries_after n answers.Sent = n
retries_after n answers.SendBusy = record { absences = n.absences; delays = n.delays - 1 }
retries_after n answers.SendFailed = n

-- the part after an answer
abbrev pub answered : SendAnswer → ℕ → OfferData → OfferData
answered answer moment d = record { state = answered_state d.retries answer moment; message = d.message; retries = retries_after d.retries answer }

-- what a cut at this moment leaves: an offer that goes on is over
abbrev pub cut_state : Offering → ℕ → Offering
cut_state Nothing moment = Nothing
cut_state (Over at) moment = Over at
cut_state _ moment = Over moment

-- the part after a cut
abbrev pub cut_off : ℕ → OfferData → OfferData
cut_off moment d = record { state = cut_state d.state moment; message = d.message; retries = d.retries }

-- the send of a message
abbrev pub send_told : Option Message → List Action
send_told (Some w) = Send w.bytes w.fds ∷ []
send_told None = []

-- what is asked at the moment, where a send is of this message
abbrev pub ask_with : Option Message → OfferData → ℕ → List Action
ask_with copy d moment = if is_connect_due d.state moment then Connect ∷ [] else (if is_send_due d.state moment then send_told copy else [])

-- the part after that
abbrev pub asked : OfferData → ℕ → OfferData
asked d moment =
    record {
      state = if is_connect_due d.state moment then Connecting else (if is_send_due d.state moment then Sending else d.state);
      message = d.message;
      retries = d.retries;
    }

-- a send falls due by the event
abbrev pub sends_at : Offering → Event → Bool
sends_at x events.Connected = is_connecting x
sends_at x (events.Moment ms) = is_stall_over x ms
sends_at x _ = false
