-- The law of a chain: each generation either carries an address that it held before any signal, or the next one held it so.
use Rattle.std.proofs.Common.{ℕ, Bool, true, false, ◌||◌, ◌&&◌, not, List, [], ◌∷◌, ◌≡◌, refl, ap, sym, ◌∙◌, subst, arith, inl, inr, map, Option, Some, None, if◌then◌else◌}
use Rattle.std.proofs.lemmas.Bool.{and_parts, and_from, cases_Bool, or_cases, or_left, or_right, not-true}
use Rattle.svc_fds.specs.Tables.{addresses}
use Rattle.svc_record.specs.declared.plan.Plan.{Plan}
use Rattle.svc_record.specs.declared.entry.Entry.TheVariants.{Got}
use Rattle.svc_record.specs.declared.event.Event.TheVariants.{Signal}
use Rattle.svc_record.specs.Record.{Record, has, is_signal, signal_of, before_signal}
use Rattle.svc_record.specs.Boot.{is_open_receiver}
use Rattle.svc_record.specs.Plans.{services, names, is_among}
use Rattle.svc_record.specs.Descriptors.{has_live}
use Rattle.svc_record.specs.Failed.{has_failed}
use Rattle.svc_record.specs.Offer.{is_upgrade, is_over, is_written, table}
use Rattle.svc_handover.specs.Channel.{is_in_flight, is_receipt, is_sent, is_join, receipt_of, sent_message, names_address, channel_of}
use Rattle.svc_handover.specs.Handover.{has_given_up}
use Rattle.svc_handover.specs.Operator.{unsignalled, was_held, was_live, is_down, is_named, is_sound_for, is_upgrade_or_none, ends_sent}
use Rattle.svc_handover.proofs.MessageLemmas.{encode-names, live-ascending}
use Rattle.svc_handover.proofs.TriesLemmas.{asks-due}
use Rattle.svc_handover.proofs.CoveredLemmas.{offered-live, sent-is, IsOffers}
use Rattle.svc_handover.proofs.ReceivedLemmas.{received-kept}
use Rattle.svc_handover.proofs.PairLemmas.{encode-some, flies, read-as-sent}
use Rattle.svc_handover.proofs.TextLemmas.{table-texts}
use Rattle.svc_handover.proofs.OperatorLemmas.{never-given-up}
use Rattle.svc_handover.proofs.ReachLemmas.{failed-later, silent-before, all-more, live-before, live-unsignalled}
use Rattle.svc_handover.proofs.OperatorLaw.{live-listed, picked}
use Rattle.svc_endpoints.proofs.OfferLemmas.{signal-some}
use Rattle.svc_supervisor.specs.declared.generation.Generation.{Generation}
use Rattle.svc_supervisor.specs.ChainData.{GenerationData}
use Rattle.svc_supervisor.specs.Carries.{is_on_offer, is_on_its_way, carries, covers, is_carried, is_covered, is_good, is_good_chain, was_held_first, KeepsCarried}
use Rattle.svc_supervisor.specs.Generations.{Stands, PairRuns, Linked, history, data_of}
use Rattle.svc_supervisor.proofs.QuietLemmas.{unsignalled-whole, unsignalled-before}

clash : {X : Type 0} (b : Bool) → b ≡ true → b ≡ false → X
clash b x y = absurd (cc)

-- a service that had failed before the first signal has failed
failed-since : (p : Plan) (q : Record) (s : ℕ) → has_failed p (before_signal q) s ≡ true → has_failed p q s ≡ true
failed-since p [] s h = h
failed-since p (Got (Signal kind) ∷ q) s h = failed-later p q (Got (Signal kind)) s (by (has is_signal q) (failed-since p q s) h)
  where
    by : (b : Bool) → (has_failed p (before_signal q) s ≡ true → has_failed p q s ≡ true) → has_failed p (if b then before_signal q else q) s ≡ true
        → has_failed p q s ≡ true
    by true f k = f k
    by false f k = k
failed-since p (e ∷ q) s h = failed-later p q e s (failed-since p q s h)

sound-before : (p : Plan) (q : Record) (a : List ℕ) → is_sound_for p q a ≡ true → is_sound_for p (before_signal q) a ≡ true
sound-before p q a h =
    all-more (λ s. not (names p s a) || not (has_failed p q s)) (λ s. not (names p s a) || not (has_failed p (before_signal q) s)) (services p)
    (λ s k. weaker (not (names p s a)) (has_failed p q s) (has_failed p (before_signal q) s) (failed-since p q s) k) h
  where
    weaker : (n f b : Bool) → (b ≡ true → f ≡ true) → (n || not f) ≡ true → (n || not b) ≡ true
    weaker true f b g k = refl
    weaker false f false g k = refl
    weaker false f true g k = clash f (g refl) (not-true f k)

-- what makes a generation good for the address
record Good (g : Generation) (a : List ℕ) : Type 0 where
  pub named : is_named g.session.core.plan a ≡ true
  pub sound : is_sound_for g.session.core.plan (history g) a ≡ true
  pub kind : is_upgrade_or_none (signal_of (history g)) ≡ true
  pub sent : ends_sent g.session.core.plan (history g) ≡ true

good-parts : (g : Generation) (a : List ℕ) → is_good (data_of g) a ≡ true → Good g a
good-parts g a h =
    let p = g.session.core.plan in
    let q = history g in
    let first = and_parts (is_named p a && is_sound_for p q a) (is_upgrade_or_none (signal_of q) && (ends_sent p q && not (is_down p q))) h in
    let names = and_parts (is_named p a) (is_sound_for p q a) first.0 in
    let rest = and_parts (is_upgrade_or_none (signal_of q)) (ends_sent p q && not (is_down p q)) first.1 in
    record { named = names.0; sound = names.1; kind = rest.0; sent = (and_parts (ends_sent p q) (not (is_down p q)) rest.1).0 }

module _ (a : List ℕ) (g : Generation) (s : Stands g) (good : Good g a) (held : was_held g.session.core.plan (history g) a ≡ true) where
  silent-live : has is_signal (history g) ≡ false → has_live g.session.core.plan (history g) (Some a) ≡ true
  silent-live none = live-unsignalled g.session.core (history g) a s.stands s.right none good.named good.sound
      (subst (λ u. (has_live g.session.core.plan u (Some a) || was_live g.session.core.plan u a) ≡ true) (unsignalled-whole (history g) none) held)

  among : has is_signal (history g) ≡ true → is_among a (addresses (table g.session.core.plan (history g))) ≡ true
  among came = live-listed g.session.core.plan (before_signal (history g)) a (live-before g.session.core.plan (history g) a s.right came good.named good.sound
      (subst (λ u. (has_live g.session.core.plan u (Some a) || was_live g.session.core.plan u a) ≡ true) (unsignalled-before (history g) came) held))

  upgrade : has is_signal (history g) ≡ true → is_upgrade (signal_of (history g)) ≡ true
  upgrade came = let some = signal-some (history g) came in ap is_upgrade some.1 ∙ subst (λ k. is_upgrade_or_none k ≡ true) some.1 good.kind

  going-live : has is_signal (history g) ≡ true → is_over g.session.core.plan (history g) ≡ false → has_live g.session.core.plan (history g) (Some a) ≡ true
  going-live came going =
      picked (λ b. has_live g.session.core.plan (history g) (Some b)) a (table g.session.core.plan (history g))
      (offered-live g.session.core (history g) s.stands s.right (upgrade came) going) (among came)

  -- before a signal, and while the offer isn't over, it carries the address
  by-silence : (next : Option GenerationData) → has is_signal (history g) ≡ false → carries (data_of g) next a ≡ true
  by-silence next none =
      quiet (has_live g.session.core.plan (history g) (Some a)) (has is_signal (history g)) (is_on_offer (data_of g) a) (is_on_its_way (data_of g) next a)
      (silent-live none) none
    where
      quiet : (l s o w : Bool) → l ≡ true → s ≡ false → ((l && (not s || o)) || w) ≡ true
      quiet l s o w h k = rw (h, k) refl

  by-offer : (next : Option GenerationData) → has is_signal (history g) ≡ true → is_over g.session.core.plan (history g) ≡ false
      → carries (data_of g) next a ≡ true
  by-offer next came going =
      offered (has_live g.session.core.plan (history g) (Some a)) (has is_signal (history g)) (is_on_offer (data_of g) a) (is_on_its_way (data_of g) next a)
      (going-live came going)
      (and_from (is_upgrade (signal_of (history g)))
      (not (is_over g.session.core.plan (history g)) && is_among a (addresses (table g.session.core.plan (history g))))
      (upgrade came)
      (and_from (not (is_over g.session.core.plan (history g))) (is_among a (addresses (table g.session.core.plan (history g)))) (ap not going) (among came)))
    where
      offered : (l s o w : Bool) → l ≡ true → o ≡ true → ((l && (not s || o)) || w) ≡ true
      offered l s o w h k = rw (h, k) (either s)
        where
          either : (s : Bool) → ((true && (not s || true)) || w) ≡ true
          either true = refl
          either false = refl

  -- once the message was sent
  module _ (came : has is_signal (history g) ≡ true) (sent : has is_sent (history g) ≡ true) where
    offers : IsOffers g.session.core.plan (sent_message (history g)) (history g)
    offers = sent-is g.session.core.plan (history g) s.right.fits (asks-due g.session.core (history g) s.stands s.right) sent

    -- it names the address
    sent-names : names_address a (sent_message (history g)) ≡ true
    sent-names = ap (names_address a) offers.1.0
        ∙ encode-names (table g.session.core.plan (history g)) a (live-ascending g.session.core.plan (before_signal (history g)))
        (encode-some (table g.session.core.plan (history g)) (subst (λ x. is_written x ≡ true) offers.1.0 offers.1.1))
        (table-texts g.session.core.plan (before_signal (history g)) s.texts) ∙ among came

    -- and is on its way until the next generation has received it
    by-flight : (h : Generation) → has is_receipt (history h) ≡ false → carries (data_of g) (Some (data_of h)) a ≡ true
    by-flight h none =
        or_right (has_live g.session.core.plan (history g) (Some a) && (not (has is_signal (history g)) || is_on_offer (data_of g) a))
        (is_on_its_way (data_of g) (Some (data_of h)) a)
        (and_from (is_in_flight (channel_of (history g) (history h))) (names_address a (sent_message (history g)))
        (flies (has is_receipt (history h)) (has is_sent (history g)) (has is_join (history g)) (has is_open_receiver (history h)) none sent) sent-names)

    -- then the next one held it before any signal
    held-next : (h : Generation) → PairRuns g h → Good h a → has is_receipt (history h) ≡ true → was_held h.session.core.plan (history h) a ≡ true
    held-next h pair next_good received =
        let q = pair.quiet in
        let u : Record = unsignalled (history h) in
        let before : has is_receipt u ≡ true = elim (cases_Bool (has is_signal (history h))) [
          | inl was ↦ q.timely was
          | inr none ↦ subst (λ r. has is_receipt r ≡ true) (sym (unsignalled-whole (history h) none)) received
        ] in
        let silent : has is_signal u ≡ false = elim (cases_Bool (has is_signal (history h))) [
          | inl was ↦ ap (has is_signal) (unsignalled-before (history h) was) ∙ silent-before (history h)
          | inr none ↦ ap (has is_signal) (unsignalled-whole (history h) none) ∙ none
        ] in
        let sound : is_sound_for h.session.core.plan u a ≡ true = elim (cases_Bool (has is_signal (history h))) [
          | inl was ↦ subst (λ r. is_sound_for h.session.core.plan r a ≡ true) (sym (unsignalled-before (history h) was))
              (sound-before h.session.core.plan (history h) a next_good.sound)
          | inr none ↦ subst (λ r. is_sound_for h.session.core.plan r a ≡ true) (sym (unsignalled-whole (history h) none)) next_good.sound
        ] in
        let reads = read-as-sent g.session.core.plan (history g) (receipt_of u).bytes (receipt_of u).fds (sent_message (history g)) offers.1.0 offers.1.1
        (table-texts g.session.core.plan (before_signal (history g)) s.texts) (q.stands.taken before) in
        let live : has_live q.core.plan u (Some a) ≡ true =
        elim (received-kept q.core.plan u a (addresses (table g.session.core.plan (history g))) q.stands.new_right before reads.0 reads.1 (among came)) [
          | inl there ↦ there
          | inr gone ↦ clash (has_given_up q.core.plan u a) gone (never-given-up q.core u a q.stands.new_stands q.stands.new_right silent
              (subst (λ p. is_named p a ≡ true) (sym q.plan) next_good.named) (subst (λ p. is_sound_for p u a ≡ true) (sym q.plan) sound))
        ] in
        or_left (has_live h.session.core.plan u (Some a)) (was_live h.session.core.plan u a) (subst (λ p. has_live p u (Some a) ≡ true) q.plan live)

-- the offer, once over, was sent
sent-over : (over sent : Bool) → (not over || sent) ≡ true → over ≡ true → sent ≡ true
sent-over over sent h k = grind arith

carried : (a : List ℕ) (gs : List Generation) → Linked gs → was_held_first (map data_of gs) a ≡ true → is_good_chain (map data_of gs) a ≡ true
    → is_carried (map data_of gs) a ≡ true
carried a [] l held good = absurd (cc)
carried a (g ∷ []) l held good =
    let parts = good-parts g a (and_parts (is_good (data_of g) a) true good).0 in
    elim (cases_Bool (has is_signal (history g))) [
      | inr none ↦ by-silence a g l.stands parts held None none
      | inl came ↦ elim (cases_Bool (is_over g.session.core.plan (history g))) [
        | inr going ↦ by-offer a g l.stands parts held None came going
        | inl over ↦ clash (has is_sent (history g)) (sent-over (is_over g.session.core.plan (history g)) (has is_sent (history g)) parts.sent over) l.unsent
      ]
    ]
carried a (g ∷ h ∷ more) (s, pair, rest) held good =
    let both = and_parts (is_good (data_of g) a) (is_good_chain (map data_of (h ∷ more)) a) good in
    let parts = good-parts g a both.0 in
    let next = good-parts h a (and_parts (is_good (data_of h) a) (is_good_chain (map data_of more) a) both.1).0 in
    let here : carries (data_of g) (Some (data_of h)) a ≡ true
    → is_carried (map data_of (g ∷ h ∷ more)) a ≡ true = or_left (carries (data_of g) (Some (data_of h)) a) (is_carried (map data_of (h ∷ more)) a) in
    elim (cases_Bool (has is_signal (history g))) [
      | inr none ↦ here (by-silence a g s parts held (Some (data_of h)) none)
      | inl came ↦ elim (cases_Bool (is_over g.session.core.plan (history g))) [
        | inr going ↦ here (by-offer a g s parts held (Some (data_of h)) came going)
        | inl over ↦ (let sent = sent-over (is_over g.session.core.plan (history g)) (has is_sent (history g)) parts.sent over in
            elim (cases_Bool (has is_receipt (history h))) [
              | inr none ↦ here (by-flight a g s parts held came sent h none)
              | inl received ↦
                  or_right (carries (data_of g) (Some (data_of h)) a) (is_carried (map data_of (h ∷ more)) a)
                  (carried a (h ∷ more) rest (held-next a g s parts held came sent h pair next received) both.1)
            ])
      ]
    ]

-- what is carried is covered
covered-by : (l x w : Bool) → ((l && x) || w) ≡ true → (l || w) ≡ true
covered-by true x w h = refl
covered-by false x w h = h

covers-more : (a : List ℕ) (gs : List GenerationData) → is_carried gs a ≡ true → is_covered gs a ≡ true
covers-more a [] h = h
covers-more a (g ∷ []) h = covered-by (has_live g.plan g.history (Some a)) (not (has is_signal g.history) || is_on_offer g a) (is_on_its_way g None a) h
covers-more a (g ∷ i ∷ more) h = elim (or_cases (carries g (Some i) a) (is_carried (i ∷ more) a) h) [
  | inl here ↦
      or_left (covers g (Some i) a) (is_covered (i ∷ more) a)
      (covered-by (has_live g.plan g.history (Some a)) (not (has is_signal g.history) || is_on_offer g a) (is_on_its_way g (Some i) a) here)
  | inr later ↦ or_right (covers g (Some i) a) (is_covered (i ∷ more) a) (covers-more a (i ∷ more) later)
]

pub keeps-carried : (gs : List Generation) → Linked gs → KeepsCarried (map data_of gs)
keeps-carried gs l a held good = let there = carried a gs l held good in record { carried = there; covered = covers-more a (map data_of gs) there }
