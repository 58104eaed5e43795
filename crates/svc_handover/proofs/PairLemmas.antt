-- The law's first sentence: each offered address is covered, while the offer isn't over and once it was sent, until the new side has it and gives it up.
use Rattle.std.proofs.Common.{ℕ, Bool, true, false, ◌||◌, ◌&&◌, not, ◌==◌, List, [], ◌∷◌, ◌≡◌, refl, ap, sym, ◌∙◌, subst, arith, inl, inr, Option, Some, None, length, if◌then◌else◌}
use Rattle.std.specs.List.{list_all}
use Rattle.std.specs.Str.{bytes_eq}
use Rattle.std.proofs.lemmas.Bool.{and_parts, and_from, cases_Bool, or_cases, or_left, or_right, eqb-true, not-true}
use Rattle.std.proofs.lemmas.List.{length-map}
use Rattle.std.proofs.lemmas.Slice.Eq.{bytes_eq-Decides}
use Rattle.svc_fds.specs.declared.encoding.Message.{Message}
use Rattle.svc_fds.specs.Tables.{Entry as TableEntry, addresses}
use Rattle.svc_fds.specs.Messages.{AreTexts, message_bytes, written}
use Rattle.svc_record.specs.declared.plan.Plan.{Plan}
use Rattle.svc_record.specs.declared.action.Action.{Action}
use Rattle.svc_record.specs.declared.entry.Entry.TheVariants.{Got, Told}
use Rattle.svc_record.specs.declared.event.Event.{Event}
use Rattle.svc_record.specs.declared.event.Event.TheVariants.{Received, Sent}
use Rattle.svc_record.specs.Record.{Record, has, tell, signal_of, before_signal}
use Rattle.svc_record.specs.Plans.{is_among}
use Rattle.svc_record.specs.Message.{is_encodable, encode, decode}
use Rattle.svc_record.specs.Descriptors.{has_live}
use Rattle.svc_record.specs.Offer.{is_upgrade, is_written, table, is_over}
use Rattle.svc_record.specs.Boot.{is_read, is_bad_message, is_open_receiver}
use Rattle.svc_record.specs.Fits.{fits}
use Rattle.svc_record.specs.Right.{Right}
use Rattle.svc_core.specs.CoreData.{CoreData}
use Rattle.svc_core.specs.Stands.{Represents}
use Rattle.svc_core.proofs.RecordLemmas.{has-tell}
use Rattle.svc_handover.specs.declared.pair.PairStep.{PairStep}
use Rattle.svc_handover.specs.Channel.{is_in_flight, is_taken, is_joined, is_sent, is_join, is_receipt, receipt_of, sent_message, is_as_sent, names_address, old_may, new_may, reached}
use Rattle.svc_handover.specs.Pair.{World, pair_step, is_allowed}
use Rattle.svc_handover.specs.Handover.{has_given_up, is_promised, address_right, coverage_right}
use Rattle.svc_handover.proofs.ChannelLemmas.{IsRead, read-step}
use Rattle.svc_handover.proofs.MessageLemmas.{decode-written, encode-names, live-ascending, all-among}
use Rattle.svc_handover.proofs.TriesLemmas.{asks-due}
use Rattle.svc_handover.proofs.CoveredLemmas.{IsOffers, all-weaker, offered-live, sent-is}
use Rattle.svc_handover.proofs.ReceivedLemmas.{received-kept}

-- what is kept of the pair: the channel is the one read off the records, and what was received is what was sent
pub record PairKept (w : World) : Type 0 where
  pub read : IsRead w
  pub taken : has is_receipt w.new ≡ true → is_as_sent (receipt_of w.new).bytes (receipt_of w.new).fds (sent_message w.old) ≡ true

-- what is told leaves the sent message and the receipt
sent-tell : (q : Record) (told : List Action) → sent_message (tell q told) ≡ sent_message q
sent-tell q [] = refl
sent-tell q (a ∷ told) = sent-tell (Told a ∷ q) told

receipt-tell : (q : Record) (told : List Action) → receipt_of (tell q told) ≡ receipt_of q
receipt-tell q [] = refl
receipt-tell q (a ∷ told) = receipt-tell (Told a ∷ q) told

taken-shut : (t s j l : Bool) → t ≡ true → is_joined (reached t s j l) ≡ true → ⊥
taken-shut true s j l e h = cc
taken-shut false s j l e h = cc

-- an event of the old side, where a message was received
sent-stays : (w : World) (e : Event) → IsRead w → has is_receipt w.new ≡ true → old_may w.channel e ≡ true → sent_message (Got e ∷ w.old) ≡ sent_message w.old
sent-stays w Sent read came may =
    absurd (taken-shut (has is_receipt w.new) (has is_sent w.old) (has is_join w.old) (has is_open_receiver w.new) came
    (subst (λ c. is_joined c ≡ true) read may))
sent-stays w _ read came may = refl

kept-old : (p : Plan) (w : World) (step : PairStep) (told : List Action) → PairKept w → (fits p w.old step.event && old_may w.channel step.event) ≡ true
    → has is_receipt w.new ≡ true → is_as_sent (receipt_of w.new).bytes (receipt_of w.new).fds (sent_message (tell (Got step.event ∷ w.old) told)) ≡ true
kept-old p w step told was allowed came =
    let may = (and_parts (fits p w.old step.event) (old_may w.channel step.event) allowed).1 in
    ap (is_as_sent (receipt_of w.new).bytes (receipt_of w.new).fds) (sent-tell (Got step.event ∷ w.old) told ∙ sent-stays w step.event was.read came may)
    ∙ was.taken came

got-new : (n : Plan) (w : World) (e : Event) → PairKept w → (fits n w.new e && new_may w.channel w.old e) ≡ true → has is_receipt (Got e ∷ w.new) ≡ true
    → is_as_sent (receipt_of (Got e ∷ w.new)).bytes (receipt_of (Got e ∷ w.new)).fds (sent_message w.old) ≡ true
got-new n w (Received bytes fds) was allowed came =
    (and_parts (is_in_flight w.channel) (is_as_sent bytes fds (sent_message w.old))
    (and_parts (fits n w.new (Received bytes fds)) (new_may w.channel w.old (Received bytes fds)) allowed).1).1
got-new n w _ was allowed came = was.taken came

kept-new : (n : Plan) (w : World) (step : PairStep) (told : List Action) → PairKept w → (fits n w.new step.event && new_may w.channel w.old step.event) ≡ true
    → has is_receipt (tell (Got step.event ∷ w.new) told) ≡ true
    → is_as_sent (receipt_of (tell (Got step.event ∷ w.new) told)).bytes (receipt_of (tell (Got step.event ∷ w.new) told)).fds (sent_message w.old) ≡ true
kept-new n w step told was allowed came =
    ap (λ (m : Message). is_as_sent m.bytes m.fds (sent_message w.old)) (receipt-tell (Got step.event ∷ w.new) told)
    ∙ got-new n w step.event was allowed (sym (has-tell is_receipt (λ a. refl) (Got step.event ∷ w.new) told) ∙ came)

-- an allowed step keeps it
pub kept-step : (p n : Plan) (w : World) (step : PairStep) (told : List Action) → PairKept w → is_allowed p n w step ≡ true → PairKept (pair_step w step told)
kept-step p n w step told was allowed = record { read = read-step p n w step told was.read allowed; taken = by step.old refl }
  where
    by : (side : Bool) → step.old ≡ side → has is_receipt (pair_step w step told).new ≡ true
        → is_as_sent (receipt_of (pair_step w step told).new).bytes (receipt_of (pair_step w step told).new).fds (sent_message (pair_step w step told).old)
        ≡ true
    by true e came = rw e (kept-old p w step told was (rw e at allowed) (rw e at came))
    by false e came = rw e (kept-new n w step told was (rw e at allowed) (rw e at came))

-- what was received with a table's bytes and as many numbers is read as its addresses
as-sent : (bytes fds : List ℕ) (m : Message) → is_as_sent bytes fds (Some m) ≡ true → (bytes ≡ m.bytes) × (length fds ≡ length m.fds)
as-sent bytes fds m h =
    let parts = and_parts (bytes_eq bytes m.bytes) (length fds == length m.fds) h in
    ((bytes_eq-Decides bytes m.bytes).0 parts.0, eqb-true (length fds) (length m.fds) parts.1)

pub encode-some : (t : List TableEntry) → is_written (encode t) ≡ true → is_encodable t ≡ true
encode-some t h = by (is_encodable t) h
  where
    by : (b : Bool) → is_written (if b then Some (written t) else None) ≡ true → b ≡ true
    by true k = refl
    by false k = absurd (cc)

encode-is : (t : List TableEntry) → is_encodable t ≡ true → encode t ≡ Some (written t)
encode-is t h = rw h refl

pub read-as-sent : (p : Plan) (q : Record) (bytes fds : List ℕ) (m : Option Message) → m ≡ encode (table p q) → is_written m ≡ true → AreTexts (table p q)
    → is_as_sent bytes fds m ≡ true
    → (decode bytes (length fds) ≡ Some (addresses (table p q))) × (length (addresses (table p q)) ≡ length fds)
read-as-sent p q bytes fds m same some texts same_message =
    let fine : is_encodable (table p q) ≡ true = encode-some (table p q) (subst (λ x. is_written x ≡ true) same some) in
    let parts = as-sent bytes fds (written (table p q)) (subst (λ x. is_as_sent bytes fds x ≡ true) (same ∙ encode-is (table p q) fine) same_message) in (
      ap (λ b. decode b (length fds)) parts.0 ∙ ap (decode (message_bytes (table p q))) parts.1
          ∙ decode-written (table p q) (live-ascending p (before_signal q)) fine texts,
      length-map (table p q) (λ e. e.0) ∙ sym (length-map (table p q) (λ e. e.1)) ∙ sym parts.1,
    )

-- never a bad message: an allowed receipt can be read
pub receipt-reads : (p : Plan) (q : Record) (bytes fds : List ℕ) (m : Option Message) → m ≡ encode (table p q) → is_written m ≡ true → AreTexts (table p q)
    → is_as_sent bytes fds m ≡ true → is_bad_message (Got (Received bytes fds)) ≡ false
receipt-reads p q bytes fds m same some texts same_message = ap (λ o. not (is_read o)) (read-as-sent p q bytes fds m same some texts same_message).0

-- which of the four makes an address right
by-old : (g o n f : Bool) → o ≡ true → (g || ((o || n) || f)) ≡ true
by-old g o n f h = grind arith

by-new : (g o n f : Bool) → n ≡ true → (g || ((o || n) || f)) ≡ true
by-new g o n f h = grind arith

by-flight : (g o n f : Bool) → f ≡ true → (g || ((o || n) || f)) ≡ true
by-flight g o n f h = grind arith

by-close : (g o n f : Bool) → g ≡ true → (g || ((o || n) || f)) ≡ true
by-close g o n f h = grind arith

pub flies : (t s j l : Bool) → t ≡ false → s ≡ true → is_in_flight (reached t s j l) ≡ true
flies true s j l a b = absurd (cc)
flies false true j l a b = refl
flies false false j l a b = absurd (cc)

lands : (t s j l : Bool) → t ≡ true → is_taken (reached t s j l) ≡ true
lands true s j l a = refl
lands false s j l a = absurd (cc)

module _ (old : CoreData) (n : Plan) (w : World) (stand : Represents old w.old) (right_old : Right old.plan w.old) (right_new : Right n w.new)
    (kept : PairKept w) (texts : AreTexts (table old.plan w.old)) where
  -- while the offer isn't over
  while-offered : is_upgrade (signal_of w.old) ≡ true → is_over old.plan w.old ≡ false
      → list_all (λ (x : TableEntry). address_right old.plan n w x.0) (table old.plan w.old) ≡ true
  while-offered upgrade going = all-weaker (λ (x : TableEntry). has_live old.plan w.old (Some x.0)) (λ (x : TableEntry). address_right old.plan n w x.0)
      (λ x live. by-old (is_taken w.channel && has_given_up n w.new x.0) (has_live old.plan w.old (Some x.0)) (has_live n w.new (Some x.0))
      (is_in_flight w.channel && names_address x.0 (sent_message w.old)) live)
      (table old.plan w.old) (offered-live old w.old stand right_old upgrade going)

  -- once it was sent
  module _ (sent : has is_sent w.old ≡ true) where
    offers : IsOffers old.plan (sent_message w.old) w.old
    offers = sent-is old.plan w.old right_old.fits (asks-due old w.old stand right_old) sent

    fine : is_encodable (table old.plan w.old) ≡ true
    fine = encode-some (table old.plan w.old) (subst (λ x. is_written x ≡ true) offers.1.0 offers.1.1)

    in-flight : has is_receipt w.new ≡ false → (x : TableEntry) → is_among x.0 (addresses (table old.plan w.old)) ≡ true → address_right old.plan n w x.0 ≡ true
    in-flight none x among =
        let flying : is_in_flight w.channel ≡ true =
        ap is_in_flight kept.read ∙ flies (has is_receipt w.new) (has is_sent w.old) (has is_join w.old) (has is_open_receiver w.new) none sent in
        let names : names_address x.0 (sent_message w.old) ≡ true =
        ap (names_address x.0) offers.1.0 ∙ encode-names (table old.plan w.old) x.0 (live-ascending old.plan (before_signal w.old)) fine texts ∙ among in
        by-flight (is_taken w.channel && has_given_up n w.new x.0) (has_live old.plan w.old (Some x.0)) (has_live n w.new (Some x.0))
        (is_in_flight w.channel && names_address x.0 (sent_message w.old))
        (and_from (is_in_flight w.channel) (names_address x.0 (sent_message w.old)) flying names)

    landed : has is_receipt w.new ≡ true → (x : TableEntry) → is_among x.0 (addresses (table old.plan w.old)) ≡ true → address_right old.plan n w x.0 ≡ true
    landed came x among =
        let reads = read-as-sent old.plan w.old (receipt_of w.new).bytes (receipt_of w.new).fds (sent_message w.old) offers.1.0 offers.1.1 texts
        (kept.taken came) in
        elim (received-kept n w.new x.0 (addresses (table old.plan w.old)) right_new came reads.0 reads.1 among) [
          | inl live ↦
              by-new (is_taken w.channel && has_given_up n w.new x.0) (has_live old.plan w.old (Some x.0)) (has_live n w.new (Some x.0))
              (is_in_flight w.channel && names_address x.0 (sent_message w.old)) live
          | inr gone ↦
              by-close (is_taken w.channel && has_given_up n w.new x.0) (has_live old.plan w.old (Some x.0)) (has_live n w.new (Some x.0))
              (is_in_flight w.channel && names_address x.0 (sent_message w.old))
              (and_from (is_taken w.channel) (has_given_up n w.new x.0)
              (ap is_taken kept.read ∙ lands (has is_receipt w.new) (has is_sent w.old) (has is_join w.old) (has is_open_receiver w.new) came) gone)
        ]

    once-sent : list_all (λ (x : TableEntry). address_right old.plan n w x.0) (table old.plan w.old) ≡ true
    once-sent = all-weaker (λ (x : TableEntry). is_among x.0 (addresses (table old.plan w.old))) (λ (x : TableEntry). address_right old.plan n w x.0)
        (elim (cases_Bool (has is_receipt w.new)) [ inl came ↦ landed came | inr none ↦ in-flight none ])
        (table old.plan w.old) (all-among (table old.plan w.old))

  pub covered : coverage_right old.plan n w ≡ true
  covered = elim (cases_Bool (is_promised old.plan w.old)) [
    | inr none ↦ or_left (not (is_promised old.plan w.old)) _ (ap not none)
    | inl promised ↦ (let parts = and_parts (is_upgrade (signal_of w.old)) (not (is_over old.plan w.old) || has is_sent w.old) promised in
        or_right (not (is_promised old.plan w.old)) (list_all (λ (x : TableEntry). address_right old.plan n w x.0) (table old.plan w.old))
        (elim (or_cases (not (is_over old.plan w.old)) (has is_sent w.old) parts.1) [
          | inl going ↦ while-offered parts.0 (not-true (is_over old.plan w.old) going)
          | inr sent ↦ once-sent sent
        ]))
  ]
