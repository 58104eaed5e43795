-- A new side to which no signal came doesn't give up an address that its plan names, as long as no service that names it fails.
use Rattle.std.proofs.Common.{ℕ, Bool, true, false, ◌||◌, ◌&&◌, not, ◌==◌, List, [], ◌∷◌, ◌≡◌, refl, ap, ◌∙◌, subst, arith, inl, inr, Some}
use Rattle.std.specs.List.{list_any, list_all}
use Rattle.std.proofs.lemmas.Bool.{and_parts, or_cases, or_left, or_right, not-true, eq-eqb, false_from_ne_true}
use Rattle.svc_record.specs.declared.plan.Plan.{Plan}
use Rattle.svc_record.specs.declared.action.Action.TheVariants.{Close}
use Rattle.svc_record.specs.declared.entry.Entry.TheVariants.{Told}
use Rattle.svc_record.specs.Record.{Record, has, is_signal}
use Rattle.svc_record.specs.Plans.{services, endpoint_numbers, each_endpoint, names, declares_list, same_address}
use Rattle.svc_record.specs.Descriptors.{is_opened, is_close, is_doubled, address_of}
use Rattle.svc_record.specs.Failed.{has_failed}
use Rattle.svc_record.specs.Endpoints.{serves}
use Rattle.svc_record.specs.Offer.{is_held_back}
use Rattle.svc_record.specs.Closes.{is_gone, is_received, is_address_unclaimed, is_address_abandoned, is_drained, is_holder, is_adopt_of_open, have_loops_ended, is_broadcast}
use Rattle.svc_record.specs.Drain.{waits_are_over}
use Rattle.svc_record.specs.Right.{Right}
use Rattle.svc_record.proofs.ClosesOnce.{closed_was_opened}
use Rattle.svc_core.specs.CoreData.{CoreData, is_served}
use Rattle.svc_core.specs.Stands.{Represents}
use Rattle.svc_offer.specs.OfferState.{over_since}
use Rattle.svc_offer.proofs.RecordFacts.{no-kind}
use Rattle.svc_drain.proofs.Broadcasts.{unsignalled-silent}
use Rattle.svc_record.proofs.CutLaws.{unsignalled-unpassed}
use Rattle.svc_endpoints.proofs.LiveLemmas.{same_eq}
use Rattle.svc_endpoints.proofs.GoneLemmas.{closed-is}
use Rattle.svc_handover.specs.Channel.{is_receipt}
use Rattle.svc_handover.specs.Handover.{gives_up, has_given_up}
use Rattle.svc_handover.specs.Operator.{is_named, is_sound_for}
use Rattle.svc_handover.proofs.TriesLemmas.{served-passed}
use Rattle.svc_base.proofs.Logic.{clash}

-- what was given up was closed, with its address, and isn't doubled
record GivenUp (n : Plan) (q : Record) (a : List ℕ) (r : Record) : Type 0 where
  pub fd : ℕ
  pub closed : has (is_close fd) r ≡ true
  pub address : address_of n q fd ≡ Some a
  pub single : is_doubled n q fd ≡ false

more-closed : (n : Plan) (q : Record) (a : List ℕ) (r : Record) (fd : ℕ) → GivenUp n q a r → GivenUp n q a (Told (Close fd) ∷ r)
more-closed n q a r fd g =
    record { fd = g.fd; closed = or_right (is_close g.fd (Told (Close fd))) (has (is_close g.fd) r) g.closed; address = g.address; single = g.single }

given-up : (n : Plan) (q : Record) (a : List ℕ) (r : Record) → gives_up n q a r ≡ true → GivenUp n q a r
given-up n q a [] h = absurd (cc)
given-up n q a (Told (Close fd) ∷ r) h =
    elim (or_cases (has is_receipt r && (same_address (address_of n q fd) (Some a) && not (is_doubled n q fd))) (gives_up n q a r) h) [
      | inl now ↦ (let parts =
          and_parts (same_address (address_of n q fd) (Some a)) (not (is_doubled n q fd))
          (and_parts (has is_receipt r) (same_address (address_of n q fd) (Some a) && not (is_doubled n q fd)) now).1 in
          record {
            fd = fd;
            closed = or_left (fd == fd) (has (is_close fd) r) (eq-eqb fd fd refl);
            address = same_eq (address_of n q fd) (Some a) parts.0;
            single = not-true (is_doubled n q fd) parts.1;
          })
      | inr before ↦ more-closed n q a r fd (given-up n q a r before)
    ]
given-up n q a (e ∷ r) h =
    let g = given-up n q a r h in
    record { fd = g.fd; closed = or_right (is_close g.fd e) (has (is_close g.fd) r) g.closed; address = g.address; single = g.single }

-- a named address isn't unclaimed, nor abandoned where no service that names it fails
named-claimed : (f g : ℕ → Bool) (ss : List ℕ) → list_any f ss ≡ true → list_all (λ s. g s && not (f s)) ss ≡ false
named-claimed f g [] h = absurd (cc)
named-claimed f g (s ∷ ss) h = elim (or_cases (f s) (list_any f ss) h) [
  | inl here ↦ first-off (f s) (g s) (list_all (λ x. g x && not (f x)) ss) here
  | inr later ↦ rest-off (g s && not (f s)) (list_all (λ x. g x && not (f x)) ss) (named-claimed f g ss later)
]
  where
    first-off : (a b c : Bool) → a ≡ true → ((b && not a) && c) ≡ false
    first-off a b c k = grind arith

    rest-off : (a b : Bool) → b ≡ false → (a && b) ≡ false
    rest-off a b k = grind arith

pub sound-kept : (f g : ℕ → Bool) (ss : List ℕ) → list_any f ss ≡ true → list_all (λ s. not (f s) || not (g s)) ss ≡ true
    → list_all (λ s. not (f s) || g s) ss ≡ false
sound-kept f g [] h k = absurd (cc)
sound-kept f g (s ∷ ss) h k =
    let parts = and_parts (not (f s) || not (g s)) (list_all (λ x. not (f x) || not (g x)) ss) k in
    elim (or_cases (f s) (list_any f ss) h) [
      | inl here ↦ first-off (f s) (g s) (list_all (λ x. not (f x) || g x) ss) here parts.0
      | inr later ↦ rest-off (not (f s) || g s) (list_all (λ x. not (f x) || g x) ss) (sound-kept f g ss later parts.1)
    ]
  where
    first-off : (a b c : Bool) → a ≡ true → (not a || not b) ≡ true → ((not a || b) && c) ≡ false
    first-off a b c x y = grind arith

    rest-off : (a b : Bool) → b ≡ false → (a && b) ≡ false
    rest-off a b x = grind arith

pub gone-off : (r u d h b o dr : Bool) → u ≡ false → d ≡ false → b ≡ false → dr ≡ false → ((((r && u) || d) || (b && not o)) || dr) ≡ false
gone-off r u d h b o dr x y z w = rw (x, y, z, w) (none r)
  where
    none : (r : Bool) → ((((r && false) || false) || false) || false) ≡ false
    none r = grind arith

pub never-given-up : (core : CoreData) (q : Record) (a : List ℕ) → Represents core q → Right core.plan q → has is_signal q ≡ false → is_named core.plan a ≡ true
    → is_sound_for core.plan q a ≡ true → has_given_up core.plan q a ≡ false
never-given-up core q a stand right silent named sound = false_from_ne_true (has_given_up core.plan q a) (λ hit.
    let g = given-up core.plan q a q hit in
    let unpassed : waits_are_over core.plan q ≡ false = unsignalled-unpassed core.plan q (no-kind q silent) in
    let unserved : is_served core.end ≡ false =
    false_from_ne_true (is_served core.end)
    (λ s. clash (waits_are_over core.plan q) (served-passed core.plan q (subst (λ x. is_served x ≡ true) stand.end_is s)) unpassed) in
    let dr = stand.drain unserved in
    let quiet : has is_broadcast q ≡ false = unsignalled-silent core.plan core.drain (over_since core.offer.state) q (dr.signal_is ∙ no-kind q silent) dr in
    let opened : is_opened core.plan q g.fd ≡ true = closed_was_opened core.plan q g.fd right.stronger.closes g.closed in
    let claimed : is_address_unclaimed core.plan (address_of core.plan q g.fd) ≡ false =
    ap (is_address_unclaimed core.plan) g.address ∙ named-claimed (λ s. names core.plan s a) (declares_list core.plan) (services core.plan) named in
    let kept : is_address_abandoned core.plan q (address_of core.plan q g.fd) ≡ false = ap (is_address_abandoned core.plan q) g.address
    ∙ and-second (list_any (λ s. names core.plan s a) (services core.plan))
    (list_all (λ s. not (names core.plan s a) || has_failed core.plan q s) (services core.plan))
    (sound-kept (λ s. names core.plan s a) (has_failed core.plan q) (services core.plan) named sound) in
    let gone : is_gone core.plan q g.fd ≡ false =
    gone-off (is_received core.plan q g.fd) (is_address_unclaimed core.plan (address_of core.plan q g.fd)) (is_doubled core.plan q g.fd) false
    (is_address_abandoned core.plan q (address_of core.plan q g.fd)) (is_held_back core.plan q g.fd) (is_drained core.plan q g.fd)
    claimed g.single kept
    (ap (λ b. ((b && not (is_adopt_of_open core.plan q g.fd))
    && list_any (λ s. list_any (is_holder core.plan q g.fd s) (endpoint_numbers core.plan s)) (services core.plan))
    && each_endpoint core.plan (λ s i. not (is_holder core.plan q g.fd s i) || (serves core.plan q s && have_loops_ended core.plan q s i))) quiet) in
    clash (has (is_close g.fd) q) g.closed (closed-is core.plan q g.fd right.stronger.closes ((stand.endpoints unserved).closes g.fd opened) ∙ gone))
  where
    and-second : (x y : Bool) → y ≡ false → (x && y) ≡ false
    and-second x y h = grind arith
