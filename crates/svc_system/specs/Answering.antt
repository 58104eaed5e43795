-- Which event answers an action.
use Rattle.std.specs.Prelude.{ℕ, ◌≡◌, Option, Some, None, IfSome, IsSomeAnd, Bool, true, false}
use Rattle.svc_record.specs.declared.action.Action.{Action}
use Rattle.svc_record.specs.declared.action.Action.TheVariants as actions
use Rattle.svc_record.specs.declared.event.Event.{Event}
use Rattle.svc_record.specs.declared.event.Event.TheVariants as events

-- what a bind of this endpoint gives: a descriptor, that the address is in use, or that it failed
abbrev pub AnswersBind : ℕ → ℕ → Event → Type 0
AnswersBind s i (events.Bound t j fd) = (t ≡ s) × (j ≡ i)
AnswersBind s i (events.InUse t j) = (t ≡ s) × (j ≡ i)
AnswersBind s i (events.BindFailed t j) = (t ≡ s) × (j ≡ i)
AnswersBind s i event = ⊥

-- what this endpoint says of a descriptor that it is offered
abbrev pub AnswersAdopt : ℕ → ℕ → Event → Type 0
AnswersAdopt s i (events.Adopted t j) = (t ≡ s) × (j ≡ i)
AnswersAdopt s i (events.AdoptFailed t j) = (t ≡ s) × (j ≡ i)
AnswersAdopt s i event = ⊥

-- whether the settings of this connection were applied
abbrev pub AnswersSettings : ℕ → Event → Type 0
AnswersSettings c (events.Set d ok) = d ≡ c
AnswersSettings c event = ⊥

-- what is answered to an action of a connection, and to no other one
abbrev pub AnswersOnConnection : Action → Option Event → Type 0
AnswersOnConnection (actions.Settings c list) answer = IsSomeAnd answer (AnswersSettings c)
AnswersOnConnection (actions.Handshake c) answer = answer ≡ Some (events.Shaken c true)
AnswersOnConnection (actions.Serve c) answer = IfSome answer (λ event. event ≡ events.Finished c)
AnswersOnConnection action answer = answer ≡ None

-- the same of an endpoint or a service, too
abbrev pub AnswersOnEndpoint : Action → Option Event → Type 0
AnswersOnEndpoint (actions.Start s) answer = IfSome answer (λ event. event ≡ events.Ready s)
AnswersOnEndpoint (actions.Bind s i) answer = IsSomeAnd answer (AnswersBind s i)
AnswersOnEndpoint (actions.Adopt s i fd) answer = IsSomeAnd answer (AnswersAdopt s i)
AnswersOnEndpoint action answer = AnswersOnConnection action answer

-- what a try to receive gives: a message, that none is there yet, or that it failed
abbrev pub AnswersReceive : Event → Type 0
AnswersReceive (events.Received bytes fds) = Unit {0}
AnswersReceive events.NoSenderYet = Unit {0}
AnswersReceive events.ReceiveFailed = Unit {0}
AnswersReceive event = ⊥

-- what a try to connect gives
abbrev pub AnswersConnect : Event → Type 0
AnswersConnect events.Connected = Unit {0}
AnswersConnect events.NotThere = Unit {0}
AnswersConnect events.StillConnecting = Unit {0}
AnswersConnect events.ConnectFailed = Unit {0}
AnswersConnect event = ⊥

-- what a send gives
abbrev pub AnswersSend : Event → Type 0
AnswersSend events.Sent = Unit {0}
AnswersSend events.SendBusy = Unit {0}
AnswersSend events.SendFailed = Unit {0}
AnswersSend event = ⊥

-- what is answered to an action of a handover, and to no other one
abbrev pub AnswersOnHandover : Action → Option Event → Type 0
AnswersOnHandover actions.TryReceive answer = IsSomeAnd answer AnswersReceive
AnswersOnHandover actions.Connect answer = IsSomeAnd answer AnswersConnect
AnswersOnHandover (actions.Send bytes fds) answer = IsSomeAnd answer AnswersSend
AnswersOnHandover action answer = answer ≡ None

-- what is answered where no older server is known, or no newer one: a failure
abbrev pub AnswersAlone : Action → Option Event → Type 0
AnswersAlone actions.TryReceive answer = answer ≡ Some events.ReceiveFailed
AnswersAlone actions.Connect answer = answer ≡ Some events.ConnectFailed
AnswersAlone (actions.Send bytes fds) answer = answer ≡ Some events.SendFailed
AnswersAlone action answer = Unit {0}

-- what is answered to any action
abbrev pub Answers : Action → Option Event → Type 0
Answers actions.OpenReceiver answer = answer ≡ None
Answers actions.TryReceive answer = AnswersOnHandover actions.TryReceive answer
Answers actions.Connect answer = AnswersOnHandover actions.Connect answer
Answers (actions.Send bytes fds) answer = AnswersOnHandover (actions.Send bytes fds) answer
Answers action answer = AnswersOnEndpoint action answer

-- whether an answer says that an endpoint listens
unfoldable pub says_listening : Event → Bool
says_listening (events.Bound s i fd) = true
says_listening (events.Adopted s i) = true
says_listening event = false
