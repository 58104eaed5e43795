-- What the part on the offer stands for after an answer to an open ask.
use Rattle.std.proofs.Common.{ℕ, Bool, true, false, not, ◌||◌, ◌&&◌, ◌+◌, ◌-◌, ◌∷◌, ◌≡◌, refl, ap, sym, ◌∙◌, subst, Some, arith, if◌then◌else◌, is_some}
use Rattle.std.specs.Prelude.{nat_le, nat_lt}
use Rattle.std.proofs.lemmas.Bool.{and_parts, or_parts}
use Rattle.std.proofs.lemmas.Bool.Decides.{nat_tests}
use Rattle.svc_fds.specs.declared.retry.SendAnswer.{SendAnswer}
use Rattle.svc_fds.specs.declared.retry.SendAnswer.TheVariants as answers
use Rattle.svc_fds.specs.RetriesLeft.{RetriesLeft}
use Rattle.svc_record.specs.declared.plan.Plan.{Plan}
use Rattle.svc_record.specs.declared.entry.Entry.TheVariants.{Got}
use Rattle.svc_record.specs.declared.event.Event.{Event}
use Rattle.svc_record.specs.declared.event.Event.TheVariants.{Connected, NotThere, StillConnecting, ConnectFailed, Sent, SendBusy, SendFailed}
use Rattle.svc_record.specs.Record.{Record, now, has, times, has_cut, signal_of}
use Rattle.svc_record.specs.Asks.{is_connect_open, is_send_open}
use Rattle.svc_record.specs.Message.{encode}
use Rattle.svc_record.specs.Offer.{table, is_empty_table, is_written, is_upgrade, has_offer, is_over, over_moment, is_last_answer, is_not_there, is_busy_answer, answer_rests, sends_next}
use Rattle.svc_offer.specs.declared.offering.Offering.{Offering}
use Rattle.svc_offer.specs.declared.offering.Offering.TheVariants as steps
use Rattle.svc_offer.specs.OfferData.{OfferData}
use Rattle.svc_offer.specs.OfferState.{OfferStands, is_offering, is_connecting, is_sending, is_asking, is_going, over_since, rests_in, sends_in}
use Rattle.svc_offer.specs.OfferEffects.{answered, answered_state, retries_after, event_of, is_awaited}
use Rattle.svc_offer.proofs.StateFacts.{since-here, going-offers, going-on, next-going, connecting-asks, sending-asks, asking-goes}
use Rattle.svc_offer.proofs.Cuts.{uncut}

-- what stands where the offer goes on
pub record Goes (p : Plan) (q : Record) : Type 0 where
  pub upgrade : is_upgrade (signal_of q) ≡ true
  pub not_over : is_over p q ≡ false
  pub written : (not (is_empty_table (table p q)) && (not (is_written (encode (table p q))) || has_cut q)) ≡ false
  pub no_last : has is_last_answer q ≡ false
  pub absences_few : nat_lt p.limit (times is_not_there q) ≡ false
  pub delays_few : nat_le 20 (times is_busy_answer q) ≡ false

over-parts : (up un last absent delayed : Bool) → up ≡ true → (up && (un || ((last || absent) || delayed))) ≡ false
    → (un ≡ false) × (last ≡ false) × (absent ≡ false) × (delayed ≡ false)
over-parts false un last absent delayed u h = cc
over-parts true true last absent delayed u h = cc
over-parts true false true absent delayed u h = cc
over-parts true false false true delayed u h = cc
over-parts true false false false true u h = cc
over-parts true false false false false u h = (refl, refl, refl, refl)

pub goes : (p : Plan) (q : Record) → has_offer p q ≡ true → is_over p q ≡ false → Goes p q
goes p q offers not_over =
    let up = and_parts (is_upgrade (signal_of q)) (not (is_empty_table (table p q))) offers in
    let parts = over-parts (is_upgrade (signal_of q)) (not (is_empty_table (table p q)) && (not (is_written (encode (table p q))) || has_cut q))
    (has is_last_answer q) (nat_lt p.limit (times is_not_there q)) (nat_le 20 (times is_busy_answer q)) up.0 not_over in
    record { upgrade = up.0; not_over = not_over; written = parts.0; no_last = parts.1; absences_few = parts.2; delays_few = parts.3 }

fewer : (n : ℕ) → nat_le 20 n ≡ false → nat_lt n 20 ≡ true
fewer n h = grind (arith, nat_tests)

-- what an answer leaves, by what the record says then
record Leaves (p : Plan) (d : OfferData) (q : Record) (e : Event) (x : Offering) (n : RetriesLeft) (moment : ℕ) : Type 0 where
  offering : is_offering x ≡ true
  quiet : is_asking x ≡ false
  offers : has_offer p (Got e ∷ q) ≡ has_offer p q
  same_table : table p (Got e ∷ q) ≡ table p q
  over : is_over p (Got e ∷ q) ≡ is_some (over_since x)
  moment_is : (at : ℕ) → over_since x ≡ Some at → moment ≡ at
  now_is : now (Got e ∷ q) ≡ moment
  connect_answered : is_connect_open (Got e ∷ q) ≡ false
  send_answered : is_send_open (Got e ∷ q) ≡ false
  rests : is_going x ≡ true → (t : ℕ) → answer_rests t (Got e ∷ q) ≡ rests_in x t
  next : is_going x ≡ true → sends_next (Got e ∷ q) ≡ sends_in x
  absences : n.absences ≡ p.limit - times is_not_there (Got e ∷ q)
  delays : n.delays ≡ 19 - times is_busy_answer (Got e ∷ q)

leaves-stands : (p : Plan) (d : OfferData) (q : Record) (e : Event) (x : Offering) (n : RetriesLeft) (moment : ℕ) → is_going d.state ≡ true
    → OfferStands p d q → Leaves p d q e x n moment → OfferStands p (record { state = x; message = d.message; retries = n }) (Got e ∷ q)
leaves-stands p d q e x n moment going s l =
    let offers : has_offer p (Got e ∷ q) ≡ true = l.offers ∙ s.offers_is ∙ going-offers d.state going in
    let quiet = or_parts (is_connecting x) (is_sending x) l.quiet in
    let still : is_over p q ≡ false = s.over_is ∙ going-on d.state going in
    record {
      offers_is = offers ∙ sym l.offering;
      over_is = l.over;
      since_is = λ at h. since-here (is_over p q) (over_moment p q) (now (Got e ∷ q)) at still (l.now_is ∙ l.moment_is at h);
      connecting_is = λ cut. l.connect_answered ∙ sym quiet.0;
      sending_is = λ cut. l.send_answered ∙ sym quiet.1;
      rests_is = λ h t. l.rests (next-going x h) t;
      rested = λ asks. absurd (false-not (is_asking x) l.quiet asks);
      next_is = λ h. l.next (next-going x h);
      message_is = λ h. s.message_is going ∙ ap encode (sym l.same_table);
      written = λ h. s.written going;
      absences_are = l.absences;
      absences_few = λ h. (goes p (Got e ∷ q) offers (l.over ∙ going-on x h)).absences_few;
      delays_are = l.delays;
      delays_few = λ h. fewer (times is_busy_answer (Got e ∷ q)) (goes p (Got e ∷ q) offers (l.over ∙ going-on x h)).delays_few;
      unasked = λ h. absurd (false-not (is_offering x) h l.offering);
      asks_due = (refl, s.asks_due);
      retries_due = (refl, s.retries_due);
    }
  where
    false-not : (b : Bool) → b ≡ false → b ≡ true → ⊥
    false-not b h k = cc

-- one answer too many, by what was borne
absent-last : (limit n left : ℕ) → nat_lt limit n ≡ false → left ≡ limit - n → nat_lt limit (n + 1) ≡ nat_lt left 1
absent-last limit n left few is = grind (arith, nat_tests)

delay-last : (n left : ℕ) → nat_le 20 n ≡ false → left ≡ 19 - n → nat_le 20 (n + 1) ≡ nat_lt left 1
delay-last n left few is = grind (arith, nat_tests)

by-last : (up un absent delayed : Bool) → up ≡ true → (up && (un || ((true || absent) || delayed))) ≡ true
by-last up un absent delayed u = grind arith

by-absent : (up un last absent delayed b : Bool) → up ≡ true → un ≡ false → last ≡ false → delayed ≡ false → absent ≡ b
    → (up && (un || ((last || absent) || delayed))) ≡ b
by-absent up un last absent delayed b u w l d e = grind arith

by-delay : (up un last absent delayed b : Bool) → up ≡ true → un ≡ false → last ≡ false → absent ≡ false → delayed ≡ b
    → (up && (un || ((last || absent) || delayed))) ≡ b
by-delay up un last absent delayed b u w l a e = grind arith

-- the state after an answer, by whether the offer ends by it
abbrev left : Bool → Offering → ℕ → Offering
left last x moment = if last then steps.Over moment else x

left-offers : (last : Bool) (x : Offering) (moment : ℕ) → is_offering x ≡ true → is_offering (left last x moment) ≡ true
left-offers true x moment h = refl
left-offers false x moment h = h

left-quiet : (last : Bool) (x : Offering) (moment : ℕ) → is_asking x ≡ false → is_asking (left last x moment) ≡ false
left-quiet true x moment h = refl
left-quiet false x moment h = h

left-over : (last : Bool) (x : Offering) (moment : ℕ) → is_some (over_since x) ≡ false → last ≡ is_some (over_since (left last x moment))
left-over true x moment h = refl
left-over false x moment h = sym h

left-moment : (last : Bool) (x : Offering) (moment at : ℕ) → is_some (over_since x) ≡ false → over_since (left last x moment) ≡ Some at → moment ≡ at
left-moment true x moment at h e = cc
left-moment false x moment at h e = let k : is_some (over_since x) ≡ true = ap is_some e in cc

left-rests : (last : Bool) (x : Offering) (moment t : ℕ) (rests : Bool) → rests ≡ rests_in x t → is_going (left last x moment) ≡ true
    → rests ≡ rests_in (left last x moment) t
left-rests true x moment t rests h g = cc
left-rests false x moment t rests h g = h

left-next : (last : Bool) (x : Offering) (moment : ℕ) (next : Bool) → next ≡ sends_in x → is_going (left last x moment) ≡ true
    → next ≡ sends_in (left last x moment)
left-next true x moment next h g = cc
left-next false x moment next h g = h

-- the facts of an ask that is open, and of the moment of its answer
module _ (p : Plan) (d : OfferData) (q : Record) (moment : ℕ) (at : moment ≡ now q) (s : OfferStands p d q) (asks : is_asking d.state ≡ true) where
  going : is_going d.state ≡ true
  going = asking-goes d.state asks

  g : Goes p q
  g = goes p q (s.offers_is ∙ going-offers d.state going) (s.over_is ∙ going-on d.state going)

  after-connected : is_send_open q ≡ false
      → OfferStands p
      (record { state = answered_state d.retries answers.Connected moment; message = d.message; retries = retries_after d.retries answers.Connected })
      (Got Connected ∷ q)
  after-connected other = leaves-stands p d q Connected steps.Connected (retries_after d.retries answers.Connected) moment going s (record {
    offering = refl;
    quiet = refl;
    offers = refl;
    same_table = refl;
    over = g.not_over;
    moment_is = λ n h. cc;
    now_is = sym at;
    connect_answered = refl;
    send_answered = other;
    rests = λ h t. refl;
    next = λ h. refl;
    absences = s.absences_are;
    delays = s.delays_are;
  })

  after-not_there : is_send_open q ≡ false
      → OfferStands p
      (record { state = answered_state d.retries answers.NotThere moment; message = d.message; retries = retries_after d.retries answers.NotThere })
      (Got NotThere ∷ q)
  after-not_there other =
      leaves-stands p d q NotThere (left (nat_lt d.retries.absences 1) (steps.Absent moment) moment)
      (retries_after d.retries answers.NotThere) moment going s (record {
        offering = left-offers (nat_lt d.retries.absences 1) (steps.Absent moment) moment refl;
        quiet = left-quiet (nat_lt d.retries.absences 1) (steps.Absent moment) moment refl;
        offers = refl;
        same_table = refl;
        over = by-absent (is_upgrade (signal_of q)) (not (is_empty_table (table p q)) && (not (is_written (encode (table p q))) || has_cut q))
            (has is_last_answer q) (nat_lt p.limit (times is_not_there q + 1)) (nat_le 20 (times is_busy_answer q))
            (nat_lt d.retries.absences 1) g.upgrade g.written g.no_last g.delays_few
            (absent-last p.limit (times is_not_there q) d.retries.absences g.absences_few s.absences_are)
            ∙ left-over (nat_lt d.retries.absences 1) (steps.Absent moment) moment refl;
        moment_is = λ n h. left-moment (nat_lt d.retries.absences 1) (steps.Absent moment) moment n refl h;
        now_is = sym at;
        connect_answered = refl;
        send_answered = other;
        rests = λ h t. left-rests (nat_lt d.retries.absences 1) (steps.Absent moment) moment t (nat_lt (t - now q) 1000)
            (ap (λ (n : ℕ). nat_lt (t - n) 1000) (sym at)) h;
        next = λ h. left-next (nat_lt d.retries.absences 1) (steps.Absent moment) moment false refl h;
        absences = let e = s.absences_are in omega arith;
        delays = s.delays_are;
      })

  after-still_connecting : is_send_open q ≡ false
      → OfferStands p
      (record {
        state = answered_state d.retries answers.StillConnecting moment;
        message = d.message;
        retries = retries_after d.retries answers.StillConnecting;
      }) (Got StillConnecting ∷ q)
  after-still_connecting other =
      leaves-stands p d q StillConnecting (left (nat_lt d.retries.delays 1) (steps.Delayed moment) moment)
      (retries_after d.retries answers.StillConnecting) moment going s (record {
        offering = left-offers (nat_lt d.retries.delays 1) (steps.Delayed moment) moment refl;
        quiet = left-quiet (nat_lt d.retries.delays 1) (steps.Delayed moment) moment refl;
        offers = refl;
        same_table = refl;
        over = by-delay (is_upgrade (signal_of q)) (not (is_empty_table (table p q)) && (not (is_written (encode (table p q))) || has_cut q))
            (has is_last_answer q)
            (nat_lt p.limit (times is_not_there q)) (nat_le 20 (times is_busy_answer q + 1))
            (nat_lt d.retries.delays 1) g.upgrade g.written g.no_last g.absences_few
            (delay-last (times is_busy_answer q) d.retries.delays g.delays_few s.delays_are)
            ∙ left-over (nat_lt d.retries.delays 1) (steps.Delayed moment) moment refl;
        moment_is = λ n h. left-moment (nat_lt d.retries.delays 1) (steps.Delayed moment) moment n refl h;
        now_is = sym at;
        connect_answered = refl;
        send_answered = other;
        rests = λ h t. left-rests (nat_lt d.retries.delays 1) (steps.Delayed moment) moment t (nat_lt (t - now q) 500)
            (ap (λ (n : ℕ). nat_lt (t - n) 500) (sym at)) h;
        next = λ h. left-next (nat_lt d.retries.delays 1) (steps.Delayed moment) moment false refl h;
        absences = s.absences_are;
        delays = let e = s.delays_are in omega arith;
      })

  after-connect_failed : is_send_open q ≡ false
      → OfferStands p
      (record {
        state = answered_state d.retries answers.ConnectFailed moment;
        message = d.message;
        retries = retries_after d.retries answers.ConnectFailed;
      }) (Got ConnectFailed ∷ q)
  after-connect_failed other = leaves-stands p d q ConnectFailed (steps.Over moment) (retries_after d.retries answers.ConnectFailed) moment going s (record {
    offering = refl;
    quiet = refl;
    offers = refl;
    same_table = refl;
    over = by-last (is_upgrade (signal_of q)) (not (is_empty_table (table p q)) && (not (is_written (encode (table p q))) || has_cut q))
        (nat_lt p.limit (times is_not_there q)) (nat_le 20 (times is_busy_answer q)) g.upgrade;
    moment_is = λ n h. cc;
    now_is = sym at;
    connect_answered = refl;
    send_answered = other;
    rests = λ h. cc;
    next = λ h. cc;
    absences = s.absences_are;
    delays = s.delays_are;
  })

  after-sent : is_connect_open q ≡ false
      → OfferStands p (record { state = answered_state d.retries answers.Sent moment; message = d.message; retries = retries_after d.retries answers.Sent })
      (Got Sent ∷ q)
  after-sent other = leaves-stands p d q Sent (steps.Over moment) (retries_after d.retries answers.Sent) moment going s (record {
    offering = refl;
    quiet = refl;
    offers = refl;
    same_table = refl;
    over = by-last (is_upgrade (signal_of q)) (not (is_empty_table (table p q)) && (not (is_written (encode (table p q))) || has_cut q))
        (nat_lt p.limit (times is_not_there q)) (nat_le 20 (times is_busy_answer q)) g.upgrade;
    moment_is = λ n h. cc;
    now_is = sym at;
    connect_answered = other;
    send_answered = refl;
    rests = λ h. cc;
    next = λ h. cc;
    absences = s.absences_are;
    delays = s.delays_are;
  })

  after-send_busy : is_connect_open q ≡ false
      → OfferStands p
      (record { state = answered_state d.retries answers.SendBusy moment; message = d.message; retries = retries_after d.retries answers.SendBusy })
      (Got SendBusy ∷ q)
  after-send_busy other =
      leaves-stands p d q SendBusy (left (nat_lt d.retries.delays 1) (steps.Stalled moment) moment) (retries_after d.retries answers.SendBusy) moment going s
      (record {
        offering = left-offers (nat_lt d.retries.delays 1) (steps.Stalled moment) moment refl;
        quiet = left-quiet (nat_lt d.retries.delays 1) (steps.Stalled moment) moment refl;
        offers = refl;
        same_table = refl;
        over = by-delay (is_upgrade (signal_of q)) (not (is_empty_table (table p q)) && (not (is_written (encode (table p q))) || has_cut q))
            (has is_last_answer q)
            (nat_lt p.limit (times is_not_there q)) (nat_le 20 (times is_busy_answer q + 1))
            (nat_lt d.retries.delays 1) g.upgrade g.written g.no_last g.absences_few
            (delay-last (times is_busy_answer q) d.retries.delays g.delays_few s.delays_are)
            ∙ left-over (nat_lt d.retries.delays 1) (steps.Stalled moment) moment refl;
        moment_is = λ n h. left-moment (nat_lt d.retries.delays 1) (steps.Stalled moment) moment n refl h;
        now_is = sym at;
        connect_answered = other;
        send_answered = refl;
        rests = λ h t. left-rests (nat_lt d.retries.delays 1) (steps.Stalled moment) moment t (nat_lt (t - now q) 500)
            (ap (λ (n : ℕ). nat_lt (t - n) 500) (sym at)) h;
        next = λ h. left-next (nat_lt d.retries.delays 1) (steps.Stalled moment) moment true refl h;
        absences = s.absences_are;
        delays = let e = s.delays_are in omega arith;
      })

  after-send_failed : is_connect_open q ≡ false
      → OfferStands p
      (record { state = answered_state d.retries answers.SendFailed moment; message = d.message; retries = retries_after d.retries answers.SendFailed })
      (Got SendFailed ∷ q)
  after-send_failed other = leaves-stands p d q SendFailed (steps.Over moment) (retries_after d.retries answers.SendFailed) moment going s (record {
    offering = refl;
    quiet = refl;
    offers = refl;
    same_table = refl;
    over = by-last (is_upgrade (signal_of q)) (not (is_empty_table (table p q)) && (not (is_written (encode (table p q))) || has_cut q))
        (nat_lt p.limit (times is_not_there q)) (nat_le 20 (times is_busy_answer q)) g.upgrade;
    moment_is = λ n h. cc;
    now_is = sym at;
    connect_answered = other;
    send_answered = refl;
    rests = λ h. cc;
    next = λ h. cc;
    absences = s.absences_are;
    delays = s.delays_are;
  })

  -- an ask was answered
  by-connect : is_connecting d.state ≡ true → is_send_open q ≡ false
  by-connect h = s.sending_is (uncut p d q s going) ∙ (connecting-asks d.state h).1

  by-send : is_sending d.state ≡ true → is_connect_open q ≡ false
  by-send h = s.connecting_is (uncut p d q s going) ∙ (sending-asks d.state h).1

-- the open ask was answered
pub stands-answered : (p : Plan) (d : OfferData) (q : Record) (answer : SendAnswer) (moment : ℕ) → is_awaited d.state answer ≡ true → moment ≡ now q
    → OfferStands p d q → OfferStands p (answered answer moment d) (Got (event_of answer) ∷ q)
stands-answered p d q answers.Connected moment h at s =
    after-connected p d q moment at s (connecting-asks d.state h).0 (by-connect p d q moment at s (connecting-asks d.state h).0 h)
stands-answered p d q answers.NotThere moment h at s =
    after-not_there p d q moment at s (connecting-asks d.state h).0 (by-connect p d q moment at s (connecting-asks d.state h).0 h)
stands-answered p d q answers.StillConnecting moment h at s =
    after-still_connecting p d q moment at s (connecting-asks d.state h).0 (by-connect p d q moment at s (connecting-asks d.state h).0 h)
stands-answered p d q answers.ConnectFailed moment h at s =
    after-connect_failed p d q moment at s (connecting-asks d.state h).0 (by-connect p d q moment at s (connecting-asks d.state h).0 h)
stands-answered p d q answers.Sent moment h at s =
    after-sent p d q moment at s (sending-asks d.state h).0 (by-send p d q moment at s (sending-asks d.state h).0 h)
stands-answered p d q answers.SendBusy moment h at s =
    after-send_busy p d q moment at s (sending-asks d.state h).0 (by-send p d q moment at s (sending-asks d.state h).0 h)
stands-answered p d q answers.SendFailed moment h at s =
    after-send_failed p d q moment at s (sending-asks d.state h).0 (by-send p d q moment at s (sending-asks d.state h).0 h)

-- the same of what it is after the call
pub after-answered : (p : Plan) (d new : OfferData) (q : Record) (answer : SendAnswer) (moment : ℕ) → new ≡ answered answer moment d
    → is_awaited d.state answer ≡ true → moment ≡ now q
    → OfferStands p d q → OfferStands p new (Got (event_of answer) ∷ q)
after-answered p d new q answer moment after awaited at s =
    subst (λ (x : OfferData). OfferStands p x (Got (event_of answer) ∷ q)) (sym after) (stands-answered p d q answer moment awaited at s)
