-- What is no ask of the offer, no answer to one and no signal changes nothing of the offer; nor does a later signal.
use Rattle.std.proofs.Common.{ℕ, true, false, not, List, [], ◌∷◌, ◌≡◌, refl, ap, ◌∙◌, arith, is_some}
use Rattle.std.specs.Prelude.{nat_le}
use Rattle.std.proofs.lemmas.Bool.{and_parts}
use Rattle.std.proofs.lemmas.Bool.Decides.{nat_tests}
use Rattle.svc_record.specs.declared.plan.Plan.{Plan}
use Rattle.svc_record.specs.declared.entry.Entry.TheVariants.{Got, Told}
use Rattle.svc_record.specs.declared.action.Action.{Action}
use Rattle.svc_record.specs.declared.action.Action.TheVariants.{Connect, Send}
use Rattle.svc_record.specs.declared.event.Event.{Event}
use Rattle.svc_record.specs.declared.event.Event.TheVariants.{Moment, Connected, NotThere, StillConnecting, ConnectFailed, Sent, SendBusy, SendFailed, Signal}
use Rattle.svc_record.specs.Record.{Record, now, tell}
use Rattle.svc_record.specs.Offer.{is_over, over_moment}
use Rattle.svc_offer.specs.OfferData.{OfferData}
use Rattle.svc_offer.specs.OfferState.{OfferStands, goes_forward}
use Rattle.svc_offer.specs.OfferFacts.{is_offer_event, is_offer_action, has_no_offer_action}
use Rattle.svc_offer.proofs.StateFacts.{since-kept}
pub use Rattle.svc_offer.proofs.Signals.{stands-later, stands-unoffered}
use Rattle.svc_base.proofs.Logic.{apart_from as not_true}

-- an action that asks nothing of the successor
pub stands-told : (p : Plan) (d : OfferData) (q : Record) (a : Action) → is_offer_action a ≡ false → OfferStands p d q → OfferStands p d (Told a ∷ q)
stands-told p d q Connect other s = cc
stands-told p d q (Send bytes fds) other s = cc
stands-told p d q _ other s = record {
  offers_is = s.offers_is;
  over_is = s.over_is;
  since_is = s.since_is;
  connecting_is = s.connecting_is;
  sending_is = s.sending_is;
  rests_is = s.rests_is;
  rested = s.rested;
  next_is = s.next_is;
  message_is = s.message_is;
  written = s.written;
  absences_are = s.absences_are;
  absences_few = s.absences_few;
  delays_are = s.delays_are;
  delays_few = s.delays_few;
  unasked = s.unasked;
  asks_due = (refl, s.asks_due);
  retries_due = (refl, s.retries_due);
}

no-later : (a b t : ℕ) → nat_le a b ≡ true → nat_le b t ≡ true → nat_le a t ≡ true
no-later a b t h k = grind (arith, nat_tests)

-- an event that is no answer and no signal
pub stands-got : (p : Plan) (d : OfferData) (q : Record) (e : Event) → is_offer_event e ≡ false → OfferStands p d q → OfferStands p d (Got e ∷ q)
stands-got p d q Connected other s = cc
stands-got p d q NotThere other s = cc
stands-got p d q StillConnecting other s = cc
stands-got p d q ConnectFailed other s = cc
stands-got p d q Sent other s = cc
stands-got p d q SendBusy other s = cc
stands-got p d q SendFailed other s = cc
stands-got p d q (Signal kind) other s = cc
stands-got p d q (Moment ms) other s = record {
  offers_is = s.offers_is;
  over_is = s.over_is;
  since_is = λ at h. since-kept (is_over p q) (over_moment p q) ms at (s.over_is ∙ ap is_some h) (s.since_is at h);
  connecting_is = s.connecting_is;
  sending_is = s.sending_is;
  rests_is = s.rests_is;
  rested = λ asks forward t later. let parts = and_parts (nat_le (now q) ms) (goes_forward q) forward in
      s.rested asks parts.1 t (no-later (now q) ms t parts.0 later);
  next_is = s.next_is;
  message_is = s.message_is;
  written = s.written;
  absences_are = s.absences_are;
  absences_few = s.absences_few;
  delays_are = s.delays_are;
  delays_few = s.delays_few;
  unasked = s.unasked;
  asks_due = (refl, s.asks_due);
  retries_due = (refl, s.retries_due);
}
stands-got p d q e other s = record {
  offers_is = s.offers_is;
  over_is = s.over_is;
  since_is = λ at h. since-kept (is_over p q) (over_moment p q) (now q) at (s.over_is ∙ ap is_some h) (s.since_is at h);
  connecting_is = s.connecting_is;
  sending_is = s.sending_is;
  rests_is = s.rests_is;
  rested = s.rested;
  next_is = s.next_is;
  message_is = s.message_is;
  written = s.written;
  absences_are = s.absences_are;
  absences_few = s.absences_few;
  delays_are = s.delays_are;
  delays_few = s.delays_few;
  unasked = s.unasked;
  asks_due = (refl, s.asks_due);
  retries_due = (refl, s.retries_due);
}

-- a told list in which nothing asks the successor
pub stands-tell : (p : Plan) (d : OfferData) (q : Record) (told : List Action) → has_no_offer_action told ≡ true → OfferStands p d q
    → OfferStands p d (tell q told)
stands-tell p d q [] other stand = stand
stands-tell p d q (a ∷ told) other stand =
    let parts = and_parts (not (is_offer_action a)) (has_no_offer_action told) other in
    stands-tell p d (Told a ∷ q) told parts.1 (stands-told p d q a (not_true (is_offer_action a) parts.0) stand)
