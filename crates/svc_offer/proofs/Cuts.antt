-- What a cut leaves of the offer: one that goes on is over. So what goes on was not cut.
use Rattle.std.proofs.Common.{ℕ, Bool, true, false, not, ◌||◌, ◌&&◌, ◌⊎◌, inl, inr, ◌∷◌, ◌≡◌, refl, ap, sym, ◌∙◌, subst, Some, arith, is_some}
use Rattle.svc_record.specs.declared.plan.Plan.{Plan}
use Rattle.svc_record.specs.declared.entry.Entry.TheVariants.{Got}
use Rattle.svc_record.specs.declared.event.Event.TheVariants.{Signal}
use Rattle.svc_record.specs.declared.event.ShutdownSignal.TheVariants.{FastShutdown}
use Rattle.svc_record.specs.Record.{Record, now, has, is_signal, is_graceful, has_cut, signal_of, before_signal}
use Rattle.svc_record.specs.Message.{encode}
use Rattle.svc_record.specs.Descriptors.{live_table}
use Rattle.svc_record.specs.Offer.{table, is_empty_table, is_written, is_upgrade, has_offer, is_answered, is_over, over_moment}
use Rattle.svc_offer.specs.declared.offering.Offering.{Offering}
use Rattle.svc_offer.specs.declared.offering.Offering.TheVariants.{Nothing, Over}
use Rattle.svc_offer.specs.OfferData.{OfferData}
use Rattle.svc_offer.specs.OfferState.{OfferStands, IsOfferSettled, is_offering, is_going, over_since, is_connect_due, is_send_due}
use Rattle.svc_offer.specs.OfferEffects.{cut_state, cut_off}
use Rattle.svc_offer.proofs.StateFacts.{since-kept, since-here, going-offers, going-on, next-going, asking-goes}
use Rattle.svc_offer.proofs.RecordFacts.{later-kind, later-before, graceful-came}
use Rattle.svc_offer.proofs.Signals.{is_over_by}

-- an offer that isn't over was not cut
no-cut : (up empty written cut answered : Bool) → (up && not empty) ≡ true → (up && ((not empty && (not written || cut)) || answered)) ≡ false → cut ≡ false
no-cut false empty written cut answered h k = cc
no-cut true true written cut answered h k = cc
no-cut true false written false answered h k = refl
no-cut true false true true answered h k = cc
no-cut true false false true answered h k = cc

pub going-uncut : (p : Plan) (q : Record) → has_offer p q ≡ true → is_over p q ≡ false → has_cut q ≡ false
going-uncut p q offers going =
    no-cut (is_upgrade (signal_of q)) (is_empty_table (table p q)) (is_written (encode (table p q))) (has_cut q) (is_answered p q) offers going

pub uncut : (p : Plan) (d : OfferData) (q : Record) → OfferStands p d q → is_going d.state ≡ true → has_cut q ≡ false
uncut p d q s going = going-uncut p q (s.offers_is ∙ going-offers d.state going) (s.over_is ∙ going-on d.state going)

-- whether something is offered and over after a cut
module _ (p : Plan) (q : Record) (graceful : is_graceful (signal_of q) ≡ true) where
  came : has is_signal q ≡ true
  came = graceful-came q graceful

  cuts : has_cut (Got (Signal FastShutdown) ∷ q) ≡ true
  cuts = ap (λ b. b || has_cut q) graceful

  kind-kept : signal_of (Got (Signal FastShutdown) ∷ q) ≡ signal_of q
  kind-kept = later-kind q FastShutdown came

  before-kept : before_signal (Got (Signal FastShutdown) ∷ q) ≡ before_signal q
  before-kept = later-before q FastShutdown came

  offers-cut : has_offer p (Got (Signal FastShutdown) ∷ q) ≡ has_offer p q
  offers-cut = ap (λ s. is_upgrade s && not (is_empty_table (live_table p (before_signal (Got (Signal FastShutdown) ∷ q))))) kind-kept
      ∙ ap (λ b. is_upgrade (signal_of q) && not (is_empty_table (live_table p b))) before-kept

  over-cut : is_over p (Got (Signal FastShutdown) ∷ q) ≡ (is_over p q || has_offer p q)
  over-cut = ap (λ s. is_over_by p s (before_signal (Got (Signal FastShutdown) ∷ q)) (has_cut (Got (Signal FastShutdown) ∷ q)) q) kind-kept
      ∙ ap (λ b. is_over_by p (signal_of q) b (has_cut (Got (Signal FastShutdown) ∷ q)) q) before-kept
      ∙ ap (λ c. is_over_by p (signal_of q) (before_signal q) c q) cuts
      ∙ either (is_upgrade (signal_of q)) (is_empty_table (table p q)) (is_written (encode (table p q))) (has_cut q) (is_answered p q)
    where
      either : (up empty written cut answered : Bool)
          → (up && ((not empty && (not written || true)) || answered)) ≡ ((up && ((not empty && (not written || cut)) || answered)) || (up && not empty))
      either up empty written cut answered = grind arith

-- the state after a cut
cut-offers : (x : Offering) (moment : ℕ) → is_offering (cut_state x moment) ≡ is_offering x
cut-offers Nothing moment = refl
cut-offers _ moment = refl

cut-over : (x : Offering) (moment : ℕ) → is_some (over_since (cut_state x moment)) ≡ (is_some (over_since x) || is_offering x)
cut-over Nothing moment = refl
cut-over (Over at) moment = refl
cut-over _ moment = refl

pub cut-still : (x : Offering) (moment : ℕ) → is_going (cut_state x moment) ≡ false
cut-still Nothing moment = refl
cut-still (Over at) moment = refl
cut-still _ moment = refl

cut-settled : (d : OfferData) (moment t : ℕ) → IsOfferSettled (cut_off moment d) t
cut-settled d moment t = record { no_connect = no_connect d.state; no_send = no_send d.state }
  where
    no_connect : (x : Offering) → is_connect_due (cut_state x moment) t ≡ false
    no_connect Nothing = refl
    no_connect (Over at) = refl
    no_connect _ = refl

    no_send : (x : Offering) → is_send_due (cut_state x moment) t ≡ false
    no_send Nothing = refl
    no_send (Over at) = refl
    no_send _ = refl

-- since when it is over: since the cut, where it went on
cut-since : (x : Offering) (moment at : ℕ) → over_since (cut_state x moment) ≡ Some at → ((is_going x ≡ true) × (moment ≡ at)) ⊎ (over_since x ≡ Some at)
cut-since Nothing moment at h = cc
cut-since (Over t) moment at h = inr h
cut-since _ moment at h = inl (refl, cc)

still-not : (x : Offering) (moment : ℕ) → is_going (cut_state x moment) ≡ true → ⊥
still-not x moment h = let off = cut-still x moment in cc

-- a cut
pub stands-cut : (p : Plan) (d : OfferData) (q : Record) (moment : ℕ) → moment ≡ now q → is_graceful (signal_of q) ≡ true → OfferStands p d q
    → OfferStands p (cut_off moment d) (Got (Signal FastShutdown) ∷ q)
stands-cut p d q moment now_is graceful s = record {
  offers_is = offers-cut p q graceful ∙ s.offers_is ∙ sym (cut-offers d.state moment);
  over_is = over-cut p q graceful ∙ ap (λ b. b || has_offer p q) s.over_is ∙ ap (λ b. is_some (over_since d.state) || b) s.offers_is
      ∙ sym (cut-over d.state moment);
  since_is = λ at h. elim (cut-since d.state moment at h) [
    | inl here ↦ since-here (is_over p q) (over_moment p q) (now q) at (s.over_is ∙ going-on d.state here.0) (sym now_is ∙ here.1)
    | inr earlier ↦ since-kept (is_over p q) (over_moment p q) (now q) at (s.over_is ∙ ap is_some earlier) (s.since_is at earlier)
  ];
  connecting_is = λ none. absurd (let yes = cuts p q graceful in cc);
  sending_is = λ none. absurd (let yes = cuts p q graceful in cc);
  rests_is = λ tells. absurd (still-not d.state moment (next-going (cut_state d.state moment) tells));
  rested = λ asks. absurd (still-not d.state moment (asking-goes (cut_state d.state moment) asks));
  next_is = λ tells. absurd (still-not d.state moment (next-going (cut_state d.state moment) tells));
  message_is = λ going. absurd (still-not d.state moment going);
  written = λ going. absurd (still-not d.state moment going);
  absences_are = s.absences_are;
  absences_few = λ going. absurd (still-not d.state moment going);
  delays_are = s.delays_are;
  delays_few = λ going. absurd (still-not d.state moment going);
  unasked = λ none. s.unasked (sym (cut-offers d.state moment) ∙ none);
  asks_due = (refl, s.asks_due);
  retries_due = (refl, s.retries_due);
}

-- the same of what it is after the call
pub after-cut : (p : Plan) (d new : OfferData) (q : Record) (moment : ℕ) → new ≡ cut_off moment d → moment ≡ now q → is_graceful (signal_of q) ≡ true
    → OfferStands p d q → OfferStands p new (Got (Signal FastShutdown) ∷ q)
after-cut p d new q moment after now_is graceful s =
    subst (λ (x : OfferData). OfferStands p x (Got (Signal FastShutdown) ∷ q)) (sym after) (stands-cut p d q moment now_is graceful s)

-- and nothing is asked after it
pub settled-cut : (d new : OfferData) (moment t : ℕ) → new ≡ cut_off moment d → IsOfferSettled new t
settled-cut d new moment t after = subst (λ (x : OfferData). IsOfferSettled x t) (sym after) (cut-settled d moment t)
