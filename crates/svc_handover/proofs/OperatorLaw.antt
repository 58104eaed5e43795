-- The operator's law, from what is kept of the pair.
use Rattle.std.proofs.Common.{ℕ, Bool, true, false, ◌||◌, ◌&&◌, not, List, [], ◌∷◌, ◌≡◌, refl, ap, ◌∙◌, subst, arith, inl, inr, Option, Some, None, if◌then◌else◌}
use Rattle.std.specs.List.{list_any, list_all, filter_map, cons_option}
use Rattle.std.specs.Ordering.{nat_cmp, match_ordering}
use Rattle.std.specs.declared.cmp.Ordering.{Ordering}
use Rattle.std.specs.declared.cmp.Ordering.TheVariants.{Less, Equal, Greater}
use Rattle.std.specs.Cmp.Lexicographic.{slice_cmp}
use Rattle.std.specs.Str.{bytes_eq}
use Rattle.std.proofs.lemmas.Bool.{and_parts, and_from, cases_Bool, or_cases, or_left, or_right}
use Rattle.std.proofs.lemmas.Slice.Eq.{bytes_eq-Decides}
use Rattle.std.proofs.lemmas.Map.Lookups.{exact_bytes}
use Rattle.svc_fds.specs.Tables.{Entry as TableEntry, addresses, put, put_all}
use Rattle.svc_record.specs.declared.plan.Plan.{Plan}
use Rattle.svc_record.specs.Record.{Record, has, is_signal, signal_of, before_signal}
use Rattle.svc_record.specs.Plans.{is_among, same_address}
use Rattle.svc_record.specs.Descriptors.{Descriptor, live_descriptors, live_table, as_entry, has_live}
use Rattle.svc_record.specs.Offer.{is_upgrade, is_over, table}
use Rattle.svc_record.specs.Drain.{waits_are_over}
use Rattle.svc_record.specs.Ends.{has_ended}
use Rattle.svc_core.specs.CoreData.{CoreData}
use Rattle.svc_offer.proofs.RecordFacts.{no-kind}
use Rattle.svc_record.proofs.CutLaws.{unsignalled-unpassed}
use Rattle.svc_handover.specs.Channel.{is_in_flight, is_taken, is_sent, sent_message, names_address}
use Rattle.svc_handover.specs.Pair.{World}
use Rattle.svc_handover.specs.Handover.{is_covered, has_given_up, is_promised, address_right}
use Rattle.svc_handover.specs.Law.{PairStands}
use Rattle.svc_handover.specs.Operator.{is_down, is_reachable, was_held, was_live, is_named, is_sound_for, is_upgrade_or_none, ends_sent, KeepsReachable}
use Rattle.svc_handover.proofs.PairLemmas.{covered}
use Rattle.svc_handover.proofs.TextLemmas.{table-texts}
use Rattle.svc_handover.proofs.LawLemmas.{pair-kept}
use Rattle.svc_handover.proofs.OperatorLemmas.{never-given-up}
use Rattle.svc_handover.proofs.ReachLemmas.{live-before, live-unsignalled}
use Rattle.svc_endpoints.proofs.OfferLemmas.{signal-some}

-- the table of what is live has each live address
one-listed : (a : List ℕ) (n : ℕ) (r : Bool) (b : Option (List ℕ)) (ps : List TableEntry) → (same_address b (Some a) || is_among a (addresses ps)) ≡ true
    → is_among a (addresses (cons_option (as_entry (record { number = n; address = b; received = r })) ps)) ≡ true
one-listed a n r None ps h = h
one-listed a n r (Some w) ps h = h

listed : (a : List ℕ) (xs : List Descriptor) → list_any (λ (d : Descriptor). same_address d.address (Some a)) xs ≡ true
    → is_among a (addresses (filter_map as_entry xs)) ≡ true
listed a [] h = absurd (cc)
listed a (x ∷ xs) h =
    one-listed a x.number x.received x.address (filter_map as_entry xs)
    (or-second (same_address x.address (Some a)) (list_any (λ (d : Descriptor). same_address d.address (Some a)) xs)
    (is_among a (addresses (filter_map as_entry xs))) (listed a xs) h)
  where
    or-second : (x y z : Bool) → (y ≡ true → z ≡ true) → (x || y) ≡ true → (x || z) ≡ true
    or-second true y z g k = refl
    or-second false y z g k = g k

put_by : (a w : List ℕ) (n : ℕ) (e : TableEntry) (es more : List TableEntry) (o : Ordering) → slice_cmp nat_cmp e.0 w ≡ o
    → ((bytes_eq w a || is_among a (addresses es)) ≡ true → is_among a (addresses more) ≡ true)
    → (bytes_eq w a || is_among a (addresses (e ∷ es))) ≡ true → is_among a (addresses (match_ordering o (e ∷ more) ((w, n) ∷ es) ((w, n) ∷ e ∷ es))) ≡ true
put_by a w n e es more Less c f h = by (bytes_eq w a) (bytes_eq e.0 a) (is_among a (addresses es)) (is_among a (addresses more)) f h
  where
    by : (x y z m : Bool) → ((x || z) ≡ true → m ≡ true) → (x || (y || z)) ≡ true → (y || m) ≡ true
    by x true z m g k = refl
    by true false z m g k = g refl
    by false false z m g k = g k
put_by a w n e es more Equal c f h =
    by (bytes_eq w a) (bytes_eq e.0 a) (is_among a (addresses es)) (λ y. subst (λ x. bytes_eq x a ≡ true) (exact_bytes e.0 w c) y) h
  where
    by : (x y z : Bool) → (y ≡ true → x ≡ true) → (x || (y || z)) ≡ true → (x || z) ≡ true
    by true y z g k = refl
    by false true z g k = absurd (let e : false ≡ true = g refl in cc)
    by false false z g k = k
put_by a w n e es more Greater c f h = h

among-put : (a w : List ℕ) (n : ℕ) (es : List TableEntry) → (bytes_eq w a || is_among a (addresses es)) ≡ true → is_among a (addresses (put w n es)) ≡ true
among-put a w n [] h = h
among-put a w n (e ∷ es) h = put_by a w n e es (put w n es) (slice_cmp nat_cmp e.0 w) refl (among-put a w n es) h

among-put_all : (a : List ℕ) (pairs es : List TableEntry) → (is_among a (addresses pairs) || is_among a (addresses es)) ≡ true
    → is_among a (addresses (put_all pairs es)) ≡ true
among-put_all a [] es h = h
among-put_all a (x ∷ pairs) es h = among-put_all a pairs (put x.0 x.1 es) (elim (or_cases (is_among a (addresses (x ∷ pairs))) (is_among a (addresses es)) h) [
  | inl front ↦ elim (or_cases (bytes_eq x.0 a) (is_among a (addresses pairs)) front) [
    | inl hit ↦ or_right (is_among a (addresses pairs)) (is_among a (addresses (put x.0 x.1 es)))
        (among-put a x.0 x.1 es (or_left (bytes_eq x.0 a) (is_among a (addresses es)) hit))
    | inr rest ↦ or_left (is_among a (addresses pairs)) (is_among a (addresses (put x.0 x.1 es))) rest
  ]
  | inr back ↦
      or_right (is_among a (addresses pairs)) (is_among a (addresses (put x.0 x.1 es)))
      (among-put a x.0 x.1 es (or_right (bytes_eq x.0 a) (is_among a (addresses es)) back))
])

pub live-listed : (p : Plan) (q : Record) (a : List ℕ) → has_live p q (Some a) ≡ true → is_among a (addresses (live_table p q)) ≡ true
live-listed p q a h =
    among-put_all a (filter_map as_entry (live_descriptors p q)) []
    (or_left (is_among a (addresses (filter_map as_entry (live_descriptors p q)))) false (listed a (live_descriptors p q) h))

-- what is said of each address of a table is said of one that is among them
pub picked : (P : List ℕ → Bool) (a : List ℕ) (t : List TableEntry) → list_all (λ (x : TableEntry). P x.0) t ≡ true → is_among a (addresses t) ≡ true
    → P a ≡ true
picked P a [] all h = absurd (cc)
picked P a (x ∷ t) all h =
    let parts = and_parts (P x.0) (list_all (λ (y : TableEntry). P y.0) t) all in
    elim (or_cases (bytes_eq x.0 a) (is_among a (addresses t)) h) [
      | inl hit ↦ subst (λ b. P b ≡ true) ((bytes_eq-Decides x.0 a).0 hit) parts.0
      | inr rest ↦ picked P a t parts.1 rest
    ]

module _ (old new : CoreData) (w : World) (stand : PairStands old new w) (a : List ℕ)
    (held : was_held old.plan w.old a ≡ true) (named_old : is_named old.plan a ≡ true) (named_new : is_named new.plan a ≡ true)
    (kind : is_upgrade_or_none (signal_of w.old) ≡ true) (sent : ends_sent old.plan w.old ≡ true)
    (sound_old : is_sound_for old.plan w.old a ≡ true) (sound_new : is_sound_for new.plan w.new a ≡ true) (up_old : is_down old.plan w.old ≡ false)
    (up_new : is_down new.plan w.new ≡ false) (silent : has is_signal w.new ≡ false) where
  second : (t g c : Bool) → g ≡ false → ((t && g) || c) ≡ true → c ≡ true
  second t g c y h = grind arith

  -- before a signal the old side has it; after it, by the law, and the new side doesn't give it up
  by-signal : has is_signal w.old ≡ true → is_covered old.plan new.plan w a ≡ true
  by-signal came =
      let some = signal-some w.old came in
      let upgrade : is_upgrade (signal_of w.old) ≡ true = ap is_upgrade some.1 ∙ subst (λ s. is_upgrade_or_none s ≡ true) some.1 kind in
      let live = live-before old.plan w.old a stand.old_right came named_old sound_old
      (subst (λ b. (has_live old.plan b (Some a) || was_live old.plan b a) ≡ true) (ap (λ b. if b then before_signal w.old else w.old) came) held) in
      let promised : is_promised old.plan w.old ≡ true =
      and_from (is_upgrade (signal_of w.old)) (not (is_over old.plan w.old) || has is_sent w.old) upgrade sent in
      let law = covered old new.plan w stand.old_stands stand.old_right stand.new_right (pair-kept old new w stand)
      (table-texts old.plan (before_signal w.old) stand.texts) in
      let all : list_all (λ (x : TableEntry). address_right old.plan new.plan w x.0) (table old.plan w.old) ≡ true =
      needed (is_promised old.plan w.old) (list_all (λ (x : TableEntry). address_right old.plan new.plan w x.0) (table old.plan w.old)) promised law in
      second (is_taken w.channel) (has_given_up new.plan w.new a) (is_covered old.plan new.plan w a)
      (never-given-up new w.new a stand.new_stands stand.new_right silent named_new sound_new)
      (picked (address_right old.plan new.plan w) a (table old.plan w.old) all (live-listed old.plan (before_signal w.old) a live))
    where
      needed : (x y : Bool) → x ≡ true → (not x || y) ≡ true → y ≡ true
      needed x y e h = grind arith

  by-silence : has is_signal w.old ≡ false → is_covered old.plan new.plan w a ≡ true
  by-silence none =
      or_left (has_live old.plan w.old (Some a) || has_live new.plan w.new (Some a)) (is_in_flight w.channel && names_address a (sent_message w.old))
      (or_left (has_live old.plan w.old (Some a)) (has_live new.plan w.new (Some a))
      (live-unsignalled old w.old a stand.old_stands stand.old_right none named_old sound_old
      (subst (λ b. (has_live old.plan b (Some a) || was_live old.plan b a) ≡ true) (ap (λ b. if b then before_signal w.old else w.old) none) held)))

  is-covered : is_covered old.plan new.plan w a ≡ true
  is-covered = elim (cases_Bool (has is_signal w.old)) [ inl came ↦ by-signal came | inr none ↦ by-silence none ]

  -- the new side goes on
  goes-on : has_ended new.plan w.new ≡ false
  goes-on = unended (has_ended new.plan w.new) (waits_are_over new.plan w.new) up_new (unsignalled-unpassed new.plan w.new (no-kind w.new silent))
    where
      unended : (x y : Bool) → (x && not y) ≡ false → y ≡ false → x ≡ false
      unended x y h k = grind arith

  -- a connection to the address finds an open listener
  pub reachable : is_reachable old.plan new.plan w a ≡ true
  reachable = reached (is_down old.plan w.old) (is_down new.plan w.new) (has_live old.plan w.old (Some a)) (has_live new.plan w.new (Some a))
      (is_in_flight w.channel && names_address a (sent_message w.old)) (has_ended new.plan w.new) up_old up_new goes-on is-covered
    where
      reached : (d e o n f x : Bool) → d ≡ false → e ≡ false → x ≡ false → ((o || n) || f) ≡ true → (((not d && o) || (not e && n)) || (f && not x)) ≡ true
      reached d e o n f x i j k h = grind arith

-- the operator's law holds in each world for which both cores stand
pub keeps-reachable : (old new : CoreData) (w : World) → PairStands old new w → KeepsReachable old.plan new.plan w
keeps-reachable old new w stand a p =
    let both = and_parts (is_named old.plan a) (is_named new.plan a) p.named_by_both in
    reachable old new w stand a p.held_before_a_signal both.0 both.1 p.first_signal_upgrades p.offer_ends_sent p.old_services_sound p.new_services_sound
    p.old_not_down p.new_not_down p.new_unsignalled
