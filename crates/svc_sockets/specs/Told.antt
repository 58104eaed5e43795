-- What is told of an endpoint and of an offer.
use Rattle.std.specs.Prelude.{ℕ, Option, Some}
use Rattle.svc_record.specs.declared.event.Event.{Event}
use Rattle.svc_record.specs.declared.event.Event.TheVariants as events
use Rattle.svc_sockets.specs.declared.endpoints.EndpointAnswer.{EndpointAnswer}
use Rattle.svc_sockets.specs.declared.endpoints.EndpointAnswer.TheVariants as answers
use Rattle.svc_sockets.specs.declared.offers.OfferAnswer.{OfferAnswer}
use Rattle.svc_sockets.specs.declared.offers.OfferAnswer.TheVariants as offers

-- the descriptor of an endpoint with this answer: a bind brings one
abbrev pub descriptor_by : EndpointAnswer → Option ℕ → Option ℕ
descriptor_by (answers.Bound fd) before = Some fd
descriptor_by answer before = before

-- the event of an endpoint's answer
abbrev pub endpoint_event : ℕ → ℕ → EndpointAnswer → Event
endpoint_event s i (answers.Bound fd) = events.Bound s i fd
endpoint_event s i answers.InUse = events.InUse s i
endpoint_event s i answers.BindFailed = events.BindFailed s i
endpoint_event s i answers.Adopted = events.Adopted s i
endpoint_event s i answers.AdoptFailed = events.AdoptFailed s i

-- the event of an offer's answer
abbrev pub offer_event : OfferAnswer → Event
offer_event offers.Connected = events.Connected
offer_event offers.NotThere = events.NotThere
offer_event offers.Sent = events.Sent
offer_event offers.SendFailed = events.SendFailed
