-- What a signal leaves of the offer: the first one begins it where something is offered, and a later one that is no cut changes nothing.
use Rattle.std.proofs.Common.{ℕ, Bool, true, false, not, ◌||◌, ◌&&◌, ◌∷◌, ◌≡◌, refl, ap, sym, ◌∙◌, subst, Option, Some, None, arith, is_some}
use Rattle.std.specs.Prelude.{nat_le, nat_lt}
use Rattle.std.proofs.lemmas.Bool.Decides.{nat_tests}
use Rattle.svc_fds.specs.declared.encoding.Message.{Message}
use Rattle.svc_record.specs.declared.plan.Plan.{Plan}
use Rattle.svc_record.specs.declared.entry.Entry.TheVariants.{Got}
use Rattle.svc_record.specs.declared.event.Event.TheVariants.{Signal}
use Rattle.svc_record.specs.declared.event.ShutdownSignal.{ShutdownSignal}
use Rattle.svc_record.specs.declared.event.ShutdownSignal.TheVariants.{GracefulUpgrade}
use Rattle.svc_record.specs.Record.{Record, now, has, times, is_signal, has_cut, signal_of, before_signal, first_or}
use Rattle.svc_record.specs.Message.{encode}
use Rattle.svc_record.specs.Descriptors.{live_table}
use Rattle.svc_record.specs.Offer.{table, is_empty_table, is_written, is_upgrade, has_offer, is_answered, is_over, over_moment, is_last_answer, is_not_there, is_busy_answer}
use Rattle.svc_offer.specs.declared.offering.Offering.{Offering}
use Rattle.svc_offer.specs.declared.offering.Offering.TheVariants.{Nothing}
use Rattle.svc_offer.specs.OfferData.{OfferData}
use Rattle.svc_offer.specs.OfferState.{OfferStands, is_offering, is_going, over_since, is_connecting, is_sending}
use Rattle.svc_offer.specs.OfferEffects.{begun, first_state}
use Rattle.svc_offer.proofs.StateFacts.{since-kept, since-here, not-going, not-over}
use Rattle.svc_offer.proofs.RecordFacts.{Unanswered, unanswered, no-kind, later-kind, later-before, first-before, uncut-none, first-uncut}

-- whether something is offered, by the first signal and by what was before it
abbrev pub has_offer_by : Plan → Option ShutdownSignal → Record → Bool
has_offer_by p s b = is_upgrade s && not (is_empty_table (live_table p b))

-- and whether that is over, by whether a cut came
abbrev pub is_over_by : Plan → Option ShutdownSignal → Record → Bool → Record → Bool
is_over_by p s b cut q = is_upgrade s && ((not (is_empty_table (live_table p b)) && (not (is_written (encode (live_table p b))) || cut)) || is_answered p q)

-- a later signal that is no cut leaves all as it was
pub offer-later : (p : Plan) (q : Record) (kind : ShutdownSignal) → has is_signal q ≡ true → has_offer p (Got (Signal kind) ∷ q) ≡ has_offer p q
offer-later p q kind h =
    ap (λ s. has_offer_by p s (before_signal (Got (Signal kind) ∷ q))) (later-kind q kind h) ∙ ap (λ b. has_offer_by p (signal_of q) b) (later-before q kind h)

pub over-later : (p : Plan) (q : Record) (kind : ShutdownSignal) → has is_signal q ≡ true → has_cut (Got (Signal kind) ∷ q) ≡ has_cut q
    → is_over p (Got (Signal kind) ∷ q) ≡ is_over p q
over-later p q kind h uncut = ap (λ s. is_over_by p s (before_signal (Got (Signal kind) ∷ q)) (has_cut (Got (Signal kind) ∷ q)) q) (later-kind q kind h)
    ∙ ap (λ b. is_over_by p (signal_of q) b (has_cut (Got (Signal kind) ∷ q)) q) (later-before q kind h)
    ∙ ap (λ c. is_over_by p (signal_of q) (before_signal q) c q) uncut

pub stands-later : (p : Plan) (d : OfferData) (q : Record) (kind : ShutdownSignal) → has is_signal q ≡ true → has_cut (Got (Signal kind) ∷ q) ≡ has_cut q
    → OfferStands p d q → OfferStands p d (Got (Signal kind) ∷ q)
stands-later p d q kind h uncut s = record {
  offers_is = offer-later p q kind h ∙ s.offers_is;
  over_is = over-later p q kind h uncut ∙ s.over_is;
  since_is = λ at e. since-kept (is_over p q) (over_moment p q) (now q) at (s.over_is ∙ ap is_some e) (s.since_is at e);
  connecting_is = λ c. s.connecting_is (sym uncut ∙ c);
  sending_is = λ c. s.sending_is (sym uncut ∙ c);
  rests_is = s.rests_is;
  rested = s.rested;
  next_is = s.next_is;
  message_is = λ going. s.message_is going ∙ ap (λ b. encode (live_table p b)) (sym (later-before q kind h));
  written = s.written;
  absences_are = s.absences_are;
  absences_few = s.absences_few;
  delays_are = s.delays_are;
  delays_few = s.delays_few;
  unasked = s.unasked;
  asks_due = (refl, s.asks_due);
  retries_due = (refl, s.retries_due);
}

none-over : (limit absences delays : ℕ) (last : Bool) → last ≡ false → absences ≡ 0 → delays ≡ 0 → ((last || nat_lt limit absences) || nat_le 20 delays) ≡ false
none-over limit absences delays last l a d = grind (arith, nat_tests)

-- where nothing was answered, no answer is the last
pub answered-none : (p : Plan) (q : Record) → Unanswered q → is_answered p q ≡ false
answered-none p q u = none-over p.limit (times is_not_there q) (times is_busy_answer q) (has is_last_answer q) u.no_last u.no_absence u.no_delay

not-upgraded : (s : Option ShutdownSignal) (more : Bool) → s ≡ None → (is_upgrade s && more) ≡ false
not-upgraded None more h = refl
not-upgraded (Some kind) more h = cc

pub first-kind : (q : Record) (kind : ShutdownSignal) → has is_signal q ≡ false → signal_of (Got (Signal kind) ∷ q) ≡ Some kind
first-kind q kind h = ap (λ s. first_or s kind) (no-kind q h)

-- before the first signal nothing is offered
pub offers-none : (p : Plan) (q : Record) → has is_signal q ≡ false → has_offer p q ≡ false
offers-none p q h = not-upgraded (signal_of q) (not (is_empty_table (table p q))) (no-kind q h)

pub over-none : (p : Plan) (q : Record) → has is_signal q ≡ false → is_over p q ≡ false
over-none p q h =
    not-upgraded (signal_of q) ((not (is_empty_table (table p q)) && (not (is_written (encode (table p q))) || has_cut q)) || is_answered p q) (no-kind q h)

-- whether the first signal offers something, and whether that is over at once
pub offer-first : (p : Plan) (q : Record) (kind : ShutdownSignal) → has is_signal q ≡ false → has_offer p (Got (Signal kind) ∷ q) ≡ has_offer_by p (Some kind) q
offer-first p q kind h =
    ap (λ s. has_offer_by p s (before_signal (Got (Signal kind) ∷ q))) (first-kind q kind h) ∙ ap (λ b. has_offer_by p (Some kind) b) (first-before q kind h)

pub over-first : (p : Plan) (q : Record) (kind : ShutdownSignal) → has is_signal q ≡ false
    → is_over p (Got (Signal kind) ∷ q) ≡ is_over_by p (Some kind) q false q
over-first p q kind h = ap (λ s. is_over_by p s (before_signal (Got (Signal kind) ∷ q)) (has_cut (Got (Signal kind) ∷ q)) q) (first-kind q kind h)
    ∙ ap (λ b. is_over_by p (Some kind) b (has_cut (Got (Signal kind) ∷ q)) q) (first-before q kind h)
    ∙ ap (λ c. is_over_by p (Some kind) q c q) (first-uncut q kind h)

empty-none : (upgrade empty : Bool) → (upgrade ≡ true → empty ≡ true) → (upgrade && not empty) ≡ false
empty-none true empty h = ap not (h refl)
empty-none false empty h = refl

empty-on : (upgrade empty unwritten answered : Bool) → (upgrade ≡ true → empty ≡ true) → answered ≡ false
    → (upgrade && ((not empty && unwritten) || answered)) ≡ false
empty-on true empty unwritten answered h a = let e = h refl in grind arith
empty-on false empty unwritten answered h a = refl

-- a first signal by which nothing is offered
pub stands-unoffered : (p : Plan) (d : OfferData) (q : Record) (kind : ShutdownSignal) → has is_signal q ≡ false
    → (is_upgrade (Some kind) ≡ true → is_empty_table (live_table p q) ≡ true) → OfferStands p d q → OfferStands p d (Got (Signal kind) ∷ q)
stands-unoffered p d q kind h empty s =
    let none : is_offering d.state ≡ false = sym s.offers_is ∙ offers-none p q h in
    let still : is_going d.state ≡ false = not-going d.state none in
    let open_end : is_some (over_since d.state) ≡ false = not-over d.state none in
    let u : Unanswered q = unanswered q (s.unasked none).1 in
    record {
      offers_is = offer-first p q kind h ∙ empty-none (is_upgrade (Some kind)) (is_empty_table (live_table p q)) empty ∙ sym none;
      over_is = over-first p q kind h
          ∙ empty-on (is_upgrade (Some kind)) (is_empty_table (live_table p q)) (not (is_written (encode (live_table p q))) || false) (is_answered p q) empty
          (answered-none p q u)
          ∙ sym open_end;
      since_is = λ at e. let k : is_some (over_since d.state) ≡ true = ap is_some e in cc;
      connecting_is = λ c. s.connecting_is (uncut-none q h);
      sending_is = λ c. s.sending_is (uncut-none q h);
      rests_is = s.rests_is;
      rested = s.rested;
      next_is = s.next_is;
      message_is = λ going. cc;
      written = s.written;
      absences_are = s.absences_are;
      absences_few = s.absences_few;
      delays_are = s.delays_are;
      delays_few = s.delays_few;
      unasked = s.unasked;
      asks_due = (refl, s.asks_due);
      retries_due = (refl, s.retries_due);
    }

first-over : (message : Option Message) (moment : ℕ) (empty answered : Bool) → empty ≡ false → answered ≡ false
    → ((not empty && (not (is_written message) || false)) || answered) ≡ is_some (over_since (first_state message moment))
first-over (Some w) moment empty answered e a = grind arith
first-over None moment empty answered e a = grind arith

first-since : (message : Option Message) (moment at : ℕ) → over_since (first_state message moment) ≡ Some at → moment ≡ at
first-since (Some w) moment at h = cc
first-since None moment at h = cc

quiet-connect : (x : Offering) → is_offering x ≡ false → is_connecting x ≡ false
quiet-connect Nothing e = refl
quiet-connect _ e = cc

quiet-send : (x : Offering) → is_offering x ≡ false → is_sending x ≡ false
quiet-send Nothing e = refl
quiet-send _ e = cc

no-more : (a b : ℕ) → b ≡ 0 → nat_lt a b ≡ false
no-more a b h = grind (arith, nat_tests)

few-yet : (b : ℕ) → b ≡ 0 → nat_lt b 20 ≡ true
few-yet b h = grind (arith, nat_tests)

-- the first signal, an upgrade by which something is offered
pub stands-begun : (p : Plan) (d : OfferData) (q : Record) (message : Option Message) (moment : ℕ) → moment ≡ now q → has is_signal q ≡ false
    → is_empty_table (live_table p q) ≡ false → message ≡ encode (live_table p q) → OfferStands p d q
    → OfferStands p (begun message moment d) (Got (Signal GracefulUpgrade) ∷ q)
stands-begun p d q (Some w) moment at h some is s =
    let none : is_offering d.state ≡ false = sym s.offers_is ∙ offers-none p q h in
    let u : Unanswered q = unanswered q (s.unasked none).1 in
    record {
      offers_is = offer-first p q GracefulUpgrade h ∙ ap not some;
      over_is = over-first p q GracefulUpgrade h
          ∙ ap (λ m. (not (is_empty_table (live_table p q)) && (not (is_written m) || false)) || is_answered p q) (sym is)
          ∙ first-over (Some w) moment (is_empty_table (live_table p q)) (is_answered p q) some (answered-none p q u);
      since_is = λ n e. cc;
      connecting_is = λ c. s.connecting_is (uncut-none q h) ∙ quiet-connect d.state none;
      sending_is = λ c. s.sending_is (uncut-none q h) ∙ quiet-send d.state none;
      rests_is = λ going t. u.no_rest t;
      rested = λ asks. cc;
      next_is = λ going. u.no_next;
      message_is = λ going. is ∙ ap (λ b. encode (live_table p b)) (sym (first-before q GracefulUpgrade h));
      written = λ going e. cc;
      absences_are = s.absences_are;
      absences_few = λ going. no-more p.limit (times is_not_there q) u.no_absence;
      delays_are = s.delays_are;
      delays_few = λ going. few-yet (times is_busy_answer q) u.no_delay;
      unasked = λ e. cc;
      asks_due = (refl, s.asks_due);
      retries_due = (refl, s.retries_due);
    }
stands-begun p d q None moment at h some is s =
    let none : is_offering d.state ≡ false = sym s.offers_is ∙ offers-none p q h in
    let u : Unanswered q = unanswered q (s.unasked none).1 in
    record {
      offers_is = offer-first p q GracefulUpgrade h ∙ ap not some;
      over_is = over-first p q GracefulUpgrade h
          ∙ ap (λ m. (not (is_empty_table (live_table p q)) && (not (is_written m) || false)) || is_answered p q) (sym is)
          ∙ first-over None moment (is_empty_table (live_table p q)) (is_answered p q) some (answered-none p q u);
      since_is = λ n e. since-here (is_over p q) (over_moment p q) (now q) n (over-none p q h) (sym at ∙ first-since None moment n e);
      connecting_is = λ c. s.connecting_is (uncut-none q h) ∙ quiet-connect d.state none;
      sending_is = λ c. s.sending_is (uncut-none q h) ∙ quiet-send d.state none;
      rests_is = λ going. cc;
      rested = λ asks. cc;
      next_is = λ going. cc;
      message_is = λ going. cc;
      written = λ going. cc;
      absences_are = s.absences_are;
      absences_few = λ going. cc;
      delays_are = s.delays_are;
      delays_few = λ going. cc;
      unasked = λ e. cc;
      asks_due = (refl, s.asks_due);
      retries_due = (refl, s.retries_due);
    }

-- the same of what it is after the call
pub after-begun : (p : Plan) (d new : OfferData) (q : Record) (message : Option Message) (moment : ℕ) → new ≡ begun message moment d → moment ≡ now q
    → has is_signal q ≡ false
    → is_empty_table (live_table p q) ≡ false → message ≡ encode (live_table p q) → OfferStands p d q → OfferStands p new (Got (Signal GracefulUpgrade) ∷ q)
after-begun p d new q message moment after at h some is s =
    subst (λ (x : OfferData). OfferStands p x (Got (Signal GracefulUpgrade) ∷ q)) (sym after) (stands-begun p d q message moment at h some is s)
