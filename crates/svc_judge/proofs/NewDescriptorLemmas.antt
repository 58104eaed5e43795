-- What a bind that brings a new descriptor leaves of what is asked of descriptors.
use Rattle.std.proofs.Common.{ℕ, Bool, true, false, not, ◌&&◌, ◌||◌, ◌==◌, ◌<◌, List, [], ◌∷◌, ◌≡◌, refl, sym, ap, ◌∙◌, cond, inl, inr, Option, Some, None, if◌then◌else◌}
use Rattle.std.specs.List.{list_any, list_all}
use Rattle.std.proofs.lemmas.Bool.{false≢true, cases_Bool, eq-eqb, eqb-true}
use Rattle.std.proofs.lemmas.List.Folds.{list_any-append}
use Rattle.svc_base.proofs.Logic.{apart_from}
use Rattle.svc_record.specs.declared.plan.Plan.{Plan}
use Rattle.svc_record.specs.declared.entry.Entry.TheVariants.{Got, Told}
use Rattle.svc_record.specs.declared.event.Event.TheVariants.{Bound}
use Rattle.svc_record.specs.declared.action.Action.TheVariants.{Close}
use Rattle.svc_record.specs.Record.{Record, has, times, each_entry}
use Rattle.svc_record.specs.Plans.{services, service_count, address, same_address, names}
use Rattle.svc_record.specs.Descriptors.{Descriptor, descriptors_of, opened_descriptors, live_descriptors, has_live, has_number, is_opened, is_close, is_doubled, address_of, brings, apart, one_live}
use Rattle.svc_record.specs.Failed.{has_failed}
use Rattle.svc_record.specs.Fits.{is_new}
use Rattle.svc_record.specs.Offer.{is_held_back}
use Rattle.svc_record.specs.Closes.{is_broadcast, is_received, is_address_unclaimed, is_address_abandoned, is_drained, is_gone, close_right, closes_right, close_once}
use Rattle.svc_record.proofs.Sound.{both, below}
use Rattle.svc_record.proofs.Closing.{is_opened-in, brings-in}
use Rattle.svc_judge.specs.Binds.{names_it}
use Rattle.svc_judge.proofs.VerdictLemmas.{and}
use Rattle.svc_judge.proofs.AnewLemmas.{neither_holds}

-- a number that no event brought is that of nothing that was opened
pub unopened : (p : Plan) (b : Record) (fd : ℕ) → is_new b fd ≡ true → is_opened p b fd ≡ false
unopened p b fd h = is_opened-in p b fd ∙ sym (brings-in b fd) ∙ apart_from (has (brings fd) b) h

no_such : (f : Descriptor → Bool) (fd : ℕ) (ds : List Descriptor) → list_any (has_number fd) ds ≡ false
    → list_any (λ (d : Descriptor). d.number == fd && f d) ds ≡ false
no_such f fd [] h = refl
no_such f fd (d ∷ ds) h = let k = neither_holds (d.number == fd) (list_any (has_number fd) ds) h in rw (k.0) (no_such f fd ds k.1)

undoubled : (p : Plan) (b : Record) (fd : ℕ) → is_opened p b fd ≡ false → is_doubled p b fd ≡ false
undoubled p [] fd h = refl
undoubled p (e ∷ b) fd h =
    let k = neither_holds (list_any (has_number fd) (descriptors_of p e)) (is_opened p b fd)
    (sym (list_any-append (has_number fd) (descriptors_of p e) (opened_descriptors p b)) ∙ h) in
    rw (no_such (λ (d : Descriptor). has_live p b d.address) fd (descriptors_of p e) k.0) (undoubled p b fd k.1)

-- nor was it closed
pub unclosed : (p : Plan) (b : Record) (fd : ℕ) → each_entry (close_once p) b ≡ true → has (brings fd) b ≡ false → times (is_close fd) b ≡ 0
unclosed p [] fd h new = refl
unclosed p (Told (Close n) ∷ b) fd h new =
    let parts = both (is_opened p b n && not (has (is_close n) b)) (each_entry (close_once p) b) h in
    let opened = both (is_opened p b n) (not (has (is_close n) b)) parts.0 in
    elim (cases_Bool (n == fd)) [
      | inl same ↦
          absurd
          (false≢true
          (sym (is_opened-in p b fd ∙ sym (brings-in b fd) ∙ new) ∙ ap (is_opened p b) (sym (eqb-true n fd same)) ∙ opened.0))
      | inr other ↦ rw (other) (unclosed p b fd parts.1 new)
    ]
unclosed p (e ∷ b) fd h new =
    unclosed p b fd ((both (close_once p e b) (each_entry (close_once p) b) h).1) ((neither_holds (brings fd e) (has (brings fd) b) new).1)

swapped : (m n : ℕ) → (n == m) ≡ false → (m == n) ≡ false
swapped m n h = elim (cases_Bool (m == n)) [
  | inl same ↦ absurd (false≢true (sym h ∙ eq-eqb n m (sym (eqb-true m n same))))
  | inr other ↦ other
]

-- what was opened before is gone where it was
gone_same : (p : Plan) (b : Record) (s i fd n : ℕ) → (fd == n) ≡ false → has is_broadcast b ≡ false
    → is_gone p (Got (Bound s i fd) ∷ b) n ≡ is_gone p b n
gone_same p b s i fd n h quiet = rw (h, quiet)

others_same : (p : Plan) (b : Record) (s i fd : ℕ) → has is_broadcast b ≡ false → (ds : List Descriptor) → list_any (has_number fd) ds ≡ false
    → list_all (λ (d : Descriptor). close_right p (Got (Bound s i fd) ∷ b) d.number) ds
    ≡ list_all (λ (d : Descriptor). close_right p b d.number) ds
others_same p b s i fd quiet [] h = refl
others_same p b s i fd quiet (d ∷ ds) h =
    let k = neither_holds (d.number == fd) (list_any (has_number fd) ds) h in
    let same = ap (λ g. times (is_close d.number) b == (if g then 1 else 0)) (gone_same p b s i fd d.number (swapped fd d.number k.0) quiet) in
    ap (λ x. x && list_all (λ (y : Descriptor). close_right p (Got (Bound s i fd) ∷ b) y.number) ds) same
    ∙ ap (λ x. close_right p b d.number && x) (others_same p b s i fd quiet ds k.1)

lost : (x y : Bool) → x ≡ true → y ≡ false → (not x || y) ≡ false
lost x y h g = rw (h, g)

and-false : (b : Bool) → (b && false) ≡ false
and-false true = refl
and-false false = refl

-- what a service names that hasn't failed isn't abandoned
pub not_abandoned : (p : Plan) (b : Record) (s : ℕ) (a : Option (List ℕ)) → s < service_count p → names_it p s a ≡ true → has_failed p b s ≡ false
    → is_address_abandoned p b a ≡ false
not_abandoned p b s None low named failed = refl
not_abandoned p b s (Some a) low named failed = elim (cases_Bool (list_all (λ t. not (names p t a) || has_failed p b t) (services p))) [
  | inl all ↦
      absurd
      (false≢true
      (sym (lost (names p s a) (has_failed p b s) named failed)
      ∙ below (λ t. not (names p t a) || has_failed p b t) (service_count p) s all low))
  | inr some ↦ rw (some) (and-false (list_any (λ t. names p t a) (services p)))
]

abandoned_same : (p : Plan) (b : Record) (s i fd : ℕ) (a : Option (List ℕ))
    → is_address_abandoned p (Got (Bound s i fd) ∷ b) a ≡ is_address_abandoned p b a
abandoned_same p b s i fd None = refl
abandoned_same p b s i fd (Some a) = refl

stays : (r u d a h q : Bool) → r ≡ false → d ≡ false → a ≡ false → q ≡ false → ((((r && u) || d) || (a && h)) || q) ≡ false
stays r u d a h q e f g k = rw (e, f, g, k)

-- a new descriptor isn't gone, where no live one has its address, and that isn't abandoned
new_stays : (p : Plan) (b : Record) (s i fd : ℕ) → is_opened p b fd ≡ false → has is_broadcast b ≡ false → has_live p b (address p s i) ≡ false
    → is_address_abandoned p b (address p s i) ≡ false → is_gone p (Got (Bound s i fd) ∷ b) fd ≡ false
new_stays p b s i fd unopened quiet alone needed =
    let q : Record = Got (Bound s i fd) ∷ b in
    let own = eq-eqb fd fd refl in
    let received : is_received p q fd ≡ false = rw (own, no_such (λ (d : Descriptor). d.received) fd (opened_descriptors p b) unopened) in
    let doubled : is_doubled p q fd ≡ false = rw (own, alone, undoubled p b fd unopened) in
    let abandoned : is_address_abandoned p q (address_of p q fd) ≡ false = rw (own) (abandoned_same p b s i fd (address p s i) ∙ needed) in
    let drained : is_drained p q fd ≡ false = rw (quiet) in
    stays (is_received p q fd) (is_address_unclaimed p (address_of p q fd)) (is_doubled p q fd) (is_address_abandoned p q (address_of p q fd))
    (not (is_held_back p q fd)) (is_drained p q fd) received doubled abandoned drained

-- so closes are as right as they were
pub closes_bound : (p : Plan) (b : Record) (s i fd : ℕ) → is_opened p b fd ≡ false → times (is_close fd) b ≡ 0 → has is_broadcast b ≡ false
    → has_live p b (address p s i) ≡ false → is_address_abandoned p b (address p s i) ≡ false → closes_right p b ≡ true
    → closes_right p (Got (Bound s i fd) ∷ b) ≡ true
closes_bound p b s i fd unopened never quiet alone needed h =
    let q : Record = Got (Bound s i fd) ∷ b in
    let new : close_right p q fd ≡ true = rw (new_stays p b s i fd unopened quiet alone needed, never) in
    and (close_right p q fd) (list_all (λ (d : Descriptor). close_right p q d.number) (opened_descriptors p b)) new
    (others_same p b s i fd quiet (opened_descriptors p b) unopened ∙ h)

apart_more : (c : Bool) (d : Descriptor) (ds : List Descriptor) → list_any (λ (x : Descriptor). same_address x.address d.address) ds ≡ false
    → apart ds ≡ true → apart (cond c (d ∷ ds) ds) ≡ true
apart_more true d ds h g = rw (h) g
apart_more false d ds h g = g

-- and no address has two live ones, where none had
pub one_live_bound : (p : Plan) (b : Record) (s i fd : ℕ) → has_live p b (address p s i) ≡ false → one_live p b ≡ true
    → one_live p (Got (Bound s i fd) ∷ b) ≡ true
one_live_bound p b s i fd alone h =
    let d : Descriptor = record { number = fd; address = address p s i; received = false } in
    apart_more (not (has (is_close fd) b)) d (live_descriptors p b) alone h
