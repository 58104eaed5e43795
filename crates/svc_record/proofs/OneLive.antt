-- In a right record no address has two live descriptors in any settled prefix, also where the run has ended.
use Rattle.std.proofs.Common.{ℕ, Bool, true, false, not, ◌==◌, ◌&&◌, ◌||◌, ◌++◌, ◌≡◌, ◌∙◌, List, [], ◌∷◌, length, refl, sym, inl, inr, filter, Option, Some, None, MatchBool, if◌then◌else◌, arith, true≢false}
use Rattle.std.proofs.lemmas.Bool.{false≢true, not-true, cases_Bool, eq-eqb, or_from, or_parts}
use Rattle.std.specs.Bool.{OnTrue}
use Rattle.std.specs.List.{list_any}
use Rattle.std.specs.Str.{is_utf8, bytes_eq}
use Rattle.svc_fds.specs.Lists.{is_among, has_repeat}
use Rattle.svc_fds.specs.Messages.{is_well_formed, words}
use Rattle.svc_record.specs.declared.plan.Plan.{Plan}
use Rattle.svc_record.specs.declared.entry.Entry.{Entry}
use Rattle.svc_record.specs.declared.entry.Entry.TheVariants.{Got, Told}
use Rattle.svc_record.specs.declared.event.Event.{Event}
use Rattle.svc_record.specs.declared.event.Event.TheVariants.{Bound, Received}
use Rattle.svc_record.specs.Record.{Record, has, times, last_step, EachEntry, EachEarlier, EachSettled}
use Rattle.svc_record.specs.Plans.{same_address}
use Rattle.svc_record.specs.Message.{decode}
use Rattle.svc_record.specs.Descriptors.{Descriptor, descriptors_of, opened_descriptors, with_words, words_or_none, has_live, has_number, is_opened, is_close, is_doubled, one_live}
use Rattle.svc_record.specs.Closes.{ClosesRight, is_gone}
use Rattle.svc_record.specs.Drain.{waits_are_over}
use Rattle.svc_record.specs.Ends.{has_ended, has_ended_early, ends_tested}
use Rattle.svc_record.specs.Fits.{event_fits, fits_row}
use Rattle.svc_record.specs.Right.{Right, EndedRight, OpenRight, SettledRight}
use Rattle.svc_record.proofs.Sound.{both, either}
use Rattle.svc_record.proofs.Complete.{or_left, or_right}
use Rattle.svc_record.proofs.ClosesOnce.{any_later}

one_has : (test : Entry → Bool) (q : Record) → times test q ≡ 1 → has test q ≡ true
one_has test [] h = absurd (omega (arith, h))
one_has test (e ∷ before) h = elim (cases_Bool (test e)) [
  | inl here ↦ rw here refl
  | inr past ↦ rw past (one_has test before (rw past at h))
]

-- of these descriptors the ones that aren't closed
abbrev open_of : (ℕ → Bool) → List Descriptor → List Descriptor
open_of closed ds = filter (λ (d : Descriptor). not (closed d.number)) ds

-- one of them has the address
abbrev shared : Option (List ℕ) → List Descriptor → Bool
shared a ds = list_any (λ (d : Descriptor). same_address d.address a) ds

-- no two have one address
abbrev apart : List Descriptor → Bool
apart [] = true
apart (d ∷ more) = not (shared d.address more) && apart more

-- where one of them isn't closed, its address isn't taken
abbrev Fresh : (ℕ → Bool) → (Option (List ℕ) → Bool) → List Descriptor → Type 0
Fresh closed taken [] = Unit {0}
Fresh closed taken (d ∷ more) = (closed d.number ≡ false → taken d.address ≡ false) × Fresh closed taken more

no_address : (a : Option (List ℕ)) → same_address a None ≡ false
no_address (Some a) = refl
no_address None = refl

shared_none : (ds : List Descriptor) → shared None ds ≡ false
shared_none [] = refl
shared_none (d ∷ more) = or_from (same_address d.address None) (shared None more) (no_address d.address) (shared_none more)

shared_tail : (closed : ℕ → Bool) (a : Option (List ℕ)) (d : Descriptor) (more : List Descriptor) → shared a (open_of closed (d ∷ more)) ≡ false
    → shared a (open_of closed more) ≡ false
shared_tail closed a d more h = elim (cases_Bool (closed d.number)) [
  | inl shut ↦ rw shut at h
  | inr kept ↦ (or_parts (same_address d.address a) (shared a (open_of closed more)) (rw kept at h)).1
]

-- where more is closed, less is open
shared_fewer : (some all : ℕ → Bool) (a : Option (List ℕ)) (ds : List Descriptor) → ((n : ℕ) → some n ≡ true → all n ≡ true)
    → shared a (open_of some ds) ≡ false → shared a (open_of all ds) ≡ false
shared_fewer some all a [] later h = refl
shared_fewer some all a (d ∷ more) later h = elim (cases_Bool (all d.number)) [
  | inl shut ↦ rw shut (shared_fewer some all a more later (shared_tail some a d more h))
  | inr kept ↦
      rw kept (or_from (same_address d.address a) (shared a (open_of all more)) (unshared kept)
      (shared_fewer some all a more later (shared_tail some a d more h)))
]
  where
    unshared : all d.number ≡ false → same_address d.address a ≡ false
    unshared kept = elim (cases_Bool (some d.number)) [
      | inl shut ↦ absurd (true≢false (sym (later d.number shut) ∙ kept))
      | inr still ↦ (or_parts (same_address d.address a) (shared a (open_of some more)) (rw still at h)).0
    ]

shared_words : (closed : ℕ → Bool) (a : List ℕ) (fds : List ℕ) (words : List (List ℕ)) (old : List Descriptor) → is_among a words ≡ false
    → shared (Some a) (open_of closed old) ≡ false → shared (Some a) (open_of closed (with_words fds words ++ old)) ≡ false
shared_words closed a [] words old other h = h
shared_words closed a (fd ∷ fds) [] old other h = elim (cases_Bool (closed fd)) [
  | inl shut ↦ rw shut (shared_words closed a fds [] old other h)
  | inr kept ↦ rw kept (shared_words closed a fds [] old other h)
]
shared_words closed a (fd ∷ fds) (w ∷ words) old other h = let apart = or_parts (bytes_eq w a) (is_among a words) other in elim (cases_Bool (closed fd)) [
  | inl shut ↦ rw shut (shared_words closed a fds words old apart.1 h)
  | inr kept ↦
      rw kept (or_from (bytes_eq w a) (shared (Some a) (open_of closed (with_words fds words ++ old))) apart.0 (shared_words closed a fds words old apart.1 h))
]

-- the descriptors of a message have different addresses, or none
apart_words : (closed : ℕ → Bool) (fds : List ℕ) (words : List (List ℕ)) (old : List Descriptor) → has_repeat words ≡ false
    → Fresh closed (λ a. shared a (open_of closed old)) (with_words fds words) → apart (open_of closed old) ≡ true
    → apart (open_of closed (with_words fds words ++ old)) ≡ true
apart_words closed [] words old distinct fresh h = h
apart_words closed (fd ∷ fds) [] old distinct fresh h = elim (cases_Bool (closed fd)) [
  | inl shut ↦ rw shut (apart_words closed fds [] old distinct fresh.1 h)
  | inr kept ↦ rw kept (rw (shared_none (open_of closed (with_words fds [] ++ old))) (apart_words closed fds [] old distinct fresh.1 h))
]
apart_words closed (fd ∷ fds) (w ∷ words) old distinct fresh h =
    let once = or_parts (is_among w words) (has_repeat words) distinct in elim (cases_Bool (closed fd)) [
      | inl shut ↦ rw shut (apart_words closed fds words old once.1 fresh.1 h)
      | inr kept ↦ rw kept (rw (shared_words closed w fds words old once.0 (fresh.0 kept)) (apart_words closed fds words old once.1 fresh.1 h))
    ]

distinct_words : (whole : Bool) (words : List (List ℕ)) → has_repeat (words_or_none (if whole && not (has_repeat words) then Some words else None)) ≡ false
distinct_words false words = refl
distinct_words true words = elim (cases_Bool (has_repeat words)) [
  | inl repeated ↦ rw repeated refl
  | inr once ↦ rw once once
]

apart_entry : (p : Plan) (e : Entry) (closed : ℕ → Bool) (old : List Descriptor) → Fresh closed (λ a. shared a (open_of closed old)) (descriptors_of p e)
    → apart (open_of closed old) ≡ true → apart (open_of closed (descriptors_of p e ++ old)) ≡ true
apart_entry p (Got (Bound s i fd)) closed old fresh h = elim (cases_Bool (closed fd)) [
  | inl shut ↦ rw shut h
  | inr kept ↦ rw kept (rw (fresh.0 kept) h)
]
apart_entry p (Got (Received bytes fds)) closed old fresh h =
    apart_words closed fds (words_or_none (decode bytes (length fds))) old
    (distinct_words ((is_utf8 bytes && is_well_formed bytes) && length (words bytes) == length fds) (words bytes)) fresh h
apart_entry p _ closed old fresh h = h

fresh_from : (closed : ℕ → Bool) (taken rest : Option (List ℕ) → Bool) (ds : List Descriptor) → ((a : Option (List ℕ)) → taken a ≡ false → rest a ≡ false)
    → ((n : ℕ) → list_any (λ (d : Descriptor). d.number == n && taken d.address) ds ≡ true → closed n ≡ true) → Fresh closed rest ds
fresh_from closed taken rest [] fewer doubled = tt
fresh_from closed taken rest (d ∷ more) fewer doubled = (
  λ kept. elim (cases_Bool (taken d.address)) [
    | inl twice ↦ absurd (true≢false (sym (doubled d.number (rw (eq-eqb d.number d.number refl, twice) refl)) ∙ kept))
    | inr free ↦ fewer d.address free
  ],
  fresh_from closed taken rest more fewer
      (λ n later. doubled n (or_right (d.number == n && taken d.address) (list_any (λ (x : Descriptor). x.number == n && taken x.address) more) later)),
)

-- where what is doubled is closed, no two open ones have one address
one_open : (p : Plan) (q : Record) (closed : ℕ → Bool) → ((n : ℕ) → has (is_close n) q ≡ true → closed n ≡ true)
    → ((n : ℕ) → is_doubled p q n ≡ true → closed n ≡ true) → apart (open_of closed (opened_descriptors p q)) ≡ true
one_open p [] closed told doubled = refl
one_open p (e ∷ before) closed told doubled = apart_entry p e closed (opened_descriptors p before)
    (fresh_from closed (has_live p before) (λ a. shared a (open_of closed (opened_descriptors p before))) (descriptors_of p e)
    (λ a free. shared_fewer (λ n. has (is_close n) before) closed a (opened_descriptors p before)
    (λ n h. told n (or_right (is_close n e) (has (is_close n) before) h)) free)
    (λ n h. doubled n (or_left _ _ h)))
    (one_open p before closed (λ n h. told n (or_right (is_close n e) (has (is_close n) before) h)) (λ n h. doubled n (or_right _ _ h)))

any_number : (n : ℕ) (taken : Option (List ℕ) → Bool) (ds old : List Descriptor) → list_any (λ (d : Descriptor). d.number == n && taken d.address) ds ≡ true
    → list_any (has_number n) (ds ++ old) ≡ true
any_number n taken [] old h = absurd (false≢true h)
any_number n taken (d ∷ more) old h =
    elim (either (d.number == n && taken d.address) (list_any (λ (x : Descriptor). x.number == n && taken x.address) more) h) [
      | inl here ↦ or_left (d.number == n) (list_any (has_number n) (more ++ old)) (both (d.number == n) (taken d.address) here).0
      | inr later ↦ or_right (d.number == n) (list_any (has_number n) (more ++ old)) (any_number n taken more old later)
    ]

doubled_opened : (p : Plan) (q : Record) (n : ℕ) → is_doubled p q n ≡ true → is_opened p q n ≡ true
doubled_opened p [] n h = absurd (false≢true h)
doubled_opened p (e ∷ before) n h = elim (either _ _ h) [
  | inl now ↦ any_number n (has_live p before) (descriptors_of p e) (opened_descriptors p before) now
  | inr earlier ↦ any_later n (descriptors_of p e) (opened_descriptors p before) (doubled_opened p before n earlier)
]

-- where each doubled descriptor has one close, no address has two live ones
doubled_one : (p : Plan) (q : Record) → ((fd : ℕ) → is_doubled p q fd ≡ true → times (is_close fd) q ≡ 1) → one_live p q ≡ true
doubled_one p q once = one_open p q (λ n. has (is_close n) q) (λ n h. h) (λ n h. one_has (is_close n) q (once n h))

doubled_gone : (p : Plan) (q : Record) (fd : ℕ) → is_doubled p q fd ≡ true → is_gone p q fd ≡ true
doubled_gone p q fd h = or_left _ _ (or_left _ _ (or_right _ _ h))

closes_one : (p : Plan) (q : Record) → ClosesRight p q → one_live p q ≡ true
closes_one p q closes = doubled_one p q (λ fd h. closes fd (doubled_opened p q fd h) ∙ rw (doubled_gone p q fd h) refl)

on_true_at : (b : Bool) (P : Type 0) → OnTrue b P → b ≡ true → P
on_true_at true P x e = x
on_true_at false P x e = absurd (false≢true e)

true_at : (b : Bool) (P Q : Type 0) → MatchBool b P Q → b ≡ true → P
true_at true P Q x e = x
true_at false P Q x e = absurd (false≢true e)

false_at : (b : Bool) (P Q : Type 0) → MatchBool b P Q → b ≡ false → Q
false_at true P Q x e = absurd (true≢false e)
false_at false P Q x e = x

open_one : (p : Plan) (q : Record) → SettledRight p q → has_ended p q ≡ false → one_live p q ≡ true
open_one p q settled on = (false_at (has_ended p q) (EndedRight p q) (OpenRight p q) settled on).one_live

-- what stands before an event that fits hasn't ended
not_ended : (p : Plan) (e : Event) (before : Record) → event_fits p (Got e) before ≡ true → has_ended p before ≡ false
not_ended p e before fit = not-true _ (both (not (has_ended p before)) (fits_row p before e) fit).0

fresh_none : (closed : ℕ → Bool) (old : List Descriptor) (fds : List ℕ) → Fresh closed (λ a. shared a old) (with_words fds [])
fresh_none closed old [] = tt
fresh_none closed old (fd ∷ fds) = (λ kept. shared_none old, fresh_none closed old fds)

-- an event that ends a run early opens nothing that has an address
early_one : (p : Plan) (e : Event) (before : Record) → has_ended_early p (Got e ∷ before) ≡ true → has_ended_early p before ≡ false → one_live p before ≡ true
    → one_live p (Got e ∷ before) ≡ true
early_one p (Bound s i fd) before early on h = absurd (true≢false (sym early ∙ on))
early_one p (Received bytes fds) before early on h = by (decode bytes (length fds)) refl
  where
    by : (found : Option (List (List ℕ))) → decode bytes (length fds) ≡ found → one_live p (Got (Received bytes fds) ∷ before) ≡ true
    by (Some words) e = absurd (true≢false (sym (rw e at early) ∙ on))
    by None e = rw e
        (apart_words (λ n. has (is_close n) before) fds [] (opened_descriptors p before) refl
        (fresh_none (λ n. has (is_close n) before) (open_of (λ n. has (is_close n) before) (opened_descriptors p before)) fds) h)
early_one p _ before early on h = h

silent_one : (p : Plan) (r : Record) → EachEntry (λ e before. event_fits p e before ≡ true) r → EachEarlier (SettledRight p) r → has_ended_early p r ≡ true
    → last_step r ≡ [] → one_live p r ≡ true
silent_one p [] fit settled early silent = refl
silent_one p (Got e ∷ before) fit settled early silent = let on = not_ended p e before fit.0 in
    early_one p e before early (or_parts (waits_are_over p before || ends_tested p before) (has_ended_early p before) on).1 (open_one p before settled.0 on)
silent_one p (Told a ∷ before) fit settled early silent = absurd (cc)

-- where the run hasn't passed
going_one : (p : Plan) (r : Record) → EachEntry (λ e before. event_fits p e before ≡ true) r → EachSettled (SettledRight p) r → waits_are_over p r ≡ false
    → one_live p r ≡ true
going_one p r fit settled on = elim (cases_Bool (ends_tested p r)) [
  | inl tested ↦ closes_one p r (on_true_at (ends_tested p r) _ (ended (or_left _ _ (or_right _ _ tested))).tested tested).1
  | inr untested ↦ elim (cases_Bool (has_ended_early p r)) [
    | inl early ↦ silent_one p r fit settled.1 early (on_true_at (has_ended_early p r) _ (ended (or_right _ _ early)).early early)
    | inr still ↦
        open_one p r settled.0
        (or_from (waits_are_over p r || ends_tested p r) (has_ended_early p r) (or_from (waits_are_over p r) (ends_tested p r) on untested) still)
  ]
]
  where
    ended : has_ended p r ≡ true → EndedRight p r
    ended over = true_at (has_ended p r) (EndedRight p r) (OpenRight p r) settled.0 over

earlier_one : (p : Plan) (r : Record) → EachEntry (λ e before. event_fits p e before ≡ true) r → EachEarlier (SettledRight p) r
    → EachEarlier (λ q. one_live p q ≡ true) r
earlier_one p [] fit settled = tt
earlier_one p (Got e ∷ before) fit settled = (open_one p before settled.0 (not_ended p e before fit.0), earlier_one p before fit.1 settled.1)
earlier_one p (Told a ∷ before) fit settled = earlier_one p before fit.1 settled

pub one-live : (p : Plan) (r : Record) → Right p r → EachSettled (λ q. one_live p q ≡ true) r
one-live p r right = (
  elim (cases_Bool (waits_are_over p r)) [
    | inl over ↦ doubled_one p r (λ fd h. (on_true_at (waits_are_over p r) _ right.passed over).served.closed_once fd (doubled_opened p r fd h))
    | inr on ↦ going_one p r right.fits right.settled on
  ],
  earlier_one p r right.fits right.settled.1,
)
