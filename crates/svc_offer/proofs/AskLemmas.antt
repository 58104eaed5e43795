-- What the part on the offer stands for after what it asks of the successor.
use Rattle.std.proofs.Common.{ℕ, Bool, true, false, not, ◌||◌, ◌&&◌, ◌-◌, [], ◌∷◌, ◌≡◌, refl, ap, sym, ◌∙◌, subst, Option, Some, None, arith, if◌then◌else◌, is_some}
use Rattle.std.specs.Prelude.{nat_le, nat_lt}
use Rattle.std.proofs.lemmas.Bool.{and_from, or_parts}
use Rattle.std.proofs.lemmas.Bool.Decides.{nat_tests}
use Rattle.std.proofs.lemmas.Slice.Eq.{bytes_eq-Decides}
use Rattle.svc_fds.specs.declared.encoding.Message.{Message}
use Rattle.svc_record.specs.declared.plan.Plan.{Plan}
use Rattle.svc_record.specs.declared.entry.Entry.TheVariants.{Told}
use Rattle.svc_record.specs.declared.action.Action.TheVariants.{Connect}
use Rattle.svc_record.specs.Record.{Record, now, tell, has_cut}
use Rattle.svc_record.specs.Asks.{is_connect_open, is_send_open}
use Rattle.svc_record.specs.Message.{encode}
use Rattle.svc_record.specs.Offer.{table, is_written, has_offer, is_over, goes_on, is_message, answer_rests, sends_next}
use Rattle.svc_offer.specs.declared.offering.Offering.{Offering}
use Rattle.svc_offer.specs.declared.offering.Offering.TheVariants.{Unasked, Connecting, Connected, Sending, Absent, Delayed, Stalled}
use Rattle.svc_offer.specs.OfferData.{OfferData}
use Rattle.svc_offer.specs.OfferState.{OfferStands, is_offering, is_connecting, is_sending, is_going, over_since, rests_in, sends_in, tells_next, is_connect_due, is_send_due}
use Rattle.svc_offer.specs.OfferEffects.{asked, ask_with, send_told}
use Rattle.svc_offer.proofs.StateFacts.{going-offers, going-on, next-going, next-rests}
use Rattle.svc_offer.proofs.Cuts.{uncut}

-- a rest that is over stays over
rest-over : (limit at earlier later : ℕ) → nat_le limit (earlier - at) ≡ true → nat_le earlier later ≡ true → nat_lt (later - at) limit ≡ false
rest-over limit at earlier later h k = grind (arith, nat_tests)

-- an ask is due after an answer to the one before
record IsNext (x : Offering) (sends : Bool) (moment : ℕ) : Type 0 where
  tells : tells_next x ≡ true
  next : sends_in x ≡ sends
  over : (t : ℕ) → nat_le moment t ≡ true → rests_in x t ≡ false

connect-next : (x : Offering) (moment : ℕ) → is_connect_due x moment ≡ true → IsNext x false moment
connect-next Unasked moment due = record { tells = refl; next = refl; over = λ t h. refl }
connect-next (Absent at) moment due = record { tells = refl; next = refl; over = λ t h. rest-over 1000 at moment t due h }
connect-next (Delayed at) moment due = record { tells = refl; next = refl; over = λ t h. rest-over 500 at moment t due h }
connect-next _ moment due = cc

send-next : (x : Offering) (moment : ℕ) → is_send_due x moment ≡ true → IsNext x true moment
send-next Connected moment due = record { tells = refl; next = refl; over = λ t h. refl }
send-next (Stalled at) moment due = record { tells = refl; next = refl; over = λ t h. rest-over 500 at moment t due h }
send-next _ moment due = cc

is_written-some : (m : Option Message) → (m ≡ None → ⊥) → is_written m ≡ true
is_written-some (Some w) h = refl
is_written-some None h = absurd (h refl)

same-time : (t : ℕ) → nat_le t t ≡ true
same-time t = grind (arith, nat_tests)

goes-by : (offers written over offering since : Bool) → offers ≡ offering → over ≡ since → ((offering && not since) ≡ true → written ≡ true)
    → ((offers && written) && not over) ≡ (offering && not since)
goes-by true true over offering since o s w = grind arith
goes-by false written over offering since o s w = grind arith
goes-by true false true offering since o s w = grind arith
goes-by true false false offering since o s w = let k : (offering && not since) ≡ true = grind arith in let c = w k in cc

-- the state says whether the offer goes on
pub goes_on-is : (p : Plan) (d : OfferData) (q : Record) → OfferStands p d q → goes_on p q ≡ is_going d.state
goes_on-is p d q s =
    goes-by (has_offer p q) (is_written (encode (table p q))) (is_over p q) (is_offering d.state) (is_some (over_since d.state)) s.offers_is s.over_is
    (λ h. ap is_written (sym (s.message_is h)) ∙ is_written-some d.message (s.written h))

due-all : (goes busy sends : Bool) → goes ≡ true → busy ≡ false → sends ≡ false → ((goes && not busy) && not sends) ≡ true
due-all goes busy sends g o s = grind arith

due-send : (goes busy sends same : Bool) → goes ≡ true → busy ≡ false → sends ≡ true → same ≡ true → (((goes && not busy) && sends) && same) ≡ true
due-send goes busy sends same g o s m = grind arith

no-rest : (rests : Bool) → rests ≡ false → not rests ≡ true
no-rest rests h = ap not h

-- the facts of an ask that is due
module _ (p : Plan) (d : OfferData) (q : Record) (moment : ℕ) (sends : Bool) (at : moment ≡ now q) (s : OfferStands p d q)
    (x : IsNext d.state sends moment) where
  going : is_going d.state ≡ true
  going = next-going d.state x.tells

  goes : goes_on p q ≡ true
  goes = goes_on-is p d q s ∙ going

  cut : has_cut q ≡ false
  cut = uncut p d q s going

  none-open : (is_connect_open q || is_send_open q) ≡ false
  none-open = ap (λ b. b || is_send_open q) (s.connecting_is cut) ∙ ap (λ b. is_connecting d.state || b) (s.sending_is cut) ∙ next-rests d.state x.tells

  quiet : (is_connecting d.state ≡ false) × (is_sending d.state ≡ false)
  quiet = or_parts (is_connecting d.state) (is_sending d.state) (next-rests d.state x.tells)

  rests-over : (t : ℕ) → nat_le (now q) t ≡ true → answer_rests t q ≡ false
  rests-over t later = s.rests_is x.tells t ∙ x.over t (subst (λ (n : ℕ). nat_le n t ≡ true) (sym at) later)

  next-is : sends_next q ≡ sends
  next-is = s.next_is x.tells ∙ x.next

  retry : not (answer_rests (now q) q) ≡ true
  retry = no-rest (answer_rests (now q) q) (rests-over (now q) (same-time (now q)))

  connect-stands : sends ≡ false → OfferStands p (record { state = Connecting; message = d.message; retries = d.retries }) (Told Connect ∷ q)
  connect-stands first = record {
    offers_is = s.offers_is ∙ going-offers d.state going;
    over_is = s.over_is ∙ going-on d.state going;
    since_is = λ n h. cc;
    connecting_is = λ c. refl;
    sending_is = λ c. s.sending_is c ∙ quiet.1;
    rests_is = λ h. cc;
    rested = λ asks forward t later. rests-over t later;
    next_is = λ h. cc;
    message_is = λ h. s.message_is going;
    written = λ h. s.written going;
    absences_are = s.absences_are;
    absences_few = λ h. s.absences_few going;
    delays_are = s.delays_are;
    delays_few = λ h. s.delays_few going;
    unasked = λ h. cc;
    asks_due = (due-all (goes_on p q) (is_connect_open q || is_send_open q) (sends_next q) goes none-open (next-is ∙ first), s.asks_due);
    retries_due = (retry, s.retries_due);
  }

  send-stands : sends ≡ true → (m : Option Message) → m ≡ d.message
      → OfferStands p (record { state = Sending; message = d.message; retries = d.retries }) (tell q (send_told m))
  send-stands second None is = absurd (s.written going (sym is))
  send-stands second (Some w) is = record {
    offers_is = s.offers_is ∙ going-offers d.state going;
    over_is = s.over_is ∙ going-on d.state going;
    since_is = λ n h. cc;
    connecting_is = λ c. s.connecting_is c ∙ quiet.0;
    sending_is = λ c. refl;
    rests_is = λ h. cc;
    rested = λ asks forward t later. rests-over t later;
    next_is = λ h. cc;
    message_is = λ h. s.message_is going;
    written = λ h. s.written going;
    absences_are = s.absences_are;
    absences_few = λ h. s.absences_few going;
    delays_are = s.delays_are;
    delays_few = λ h. s.delays_few going;
    unasked = λ h. cc;
    asks_due = (
      due-send (goes_on p q) (is_connect_open q || is_send_open q) (sends_next q) (is_message w.bytes w.fds (encode (table p q))) goes none-open
          (next-is ∙ second) same,
      s.asks_due,
    );
    retries_due = (retry, s.retries_due);
  }
    where
      itself : is_message w.bytes w.fds (Some w) ≡ true
      itself = and_from _ _ ((bytes_eq-Decides w.bytes w.bytes).1 refl) ((bytes_eq-Decides w.fds w.fds).1 refl)

      same : is_message w.bytes w.fds (encode (table p q)) ≡ true
      same = ap (is_message w.bytes w.fds) (sym (is ∙ s.message_is going)) ∙ itself

asked-by : (p : Plan) (d : OfferData) (q : Record) (moment : ℕ) (copy : Option Message) (connects sends : Bool) → is_connect_due d.state moment ≡ connects
    → is_send_due d.state moment ≡ sends → moment ≡ now q → (sends ≡ true → copy ≡ d.message)
    → OfferStands p d q
    → OfferStands p (record { state = if connects then Connecting else (if sends then Sending else d.state); message = d.message; retries = d.retries })
    (tell q (if connects then Connect ∷ [] else (if sends then send_told copy else [])))
asked-by p d q moment copy true sends c n at same s = connect-stands p d q moment false at s (connect-next d.state moment c) refl
asked-by p d q moment copy false true c n at same s = send-stands p d q moment true at s (send-next d.state moment n) refl copy (same refl)
asked-by p d q moment copy false false c n at same s = s

-- what is due was asked
pub stands-asked : (p : Plan) (d : OfferData) (q : Record) (moment : ℕ) (copy : Option Message) → moment ≡ now q
    → (is_send_due d.state moment ≡ true → copy ≡ d.message) → OfferStands p d q → OfferStands p (asked d moment) (tell q (ask_with copy d moment))
stands-asked p d q moment copy at same s = asked-by p d q moment copy (is_connect_due d.state moment) (is_send_due d.state moment) refl refl at same s

-- the same of what it is after the call
pub after-asked : (p : Plan) (d new : OfferData) (q : Record) (moment : ℕ) (copy : Option Message) → new ≡ asked d moment → moment ≡ now q
    → (is_send_due d.state moment ≡ true → copy ≡ d.message) → OfferStands p d q → OfferStands p new (tell q (ask_with copy d moment))
after-asked p d new q moment copy after at same s =
    subst (λ (x : OfferData). OfferStands p x (tell q (ask_with copy d moment))) (sym after) (stands-asked p d q moment copy at same s)
