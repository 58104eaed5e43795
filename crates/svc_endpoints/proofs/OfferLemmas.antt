-- What is on offer was live before the signal, and what the first signal puts on offer.
use Rattle.std.proofs.Common.{ℕ, Bool, true, false, ◌||◌, ◌&&◌, ◌==◌, not, inl, inr, List, [], ◌∷◌, ◌≡◌, refl, ap, sym, ◌∙◌, subst, arith, Option, Some, None, filter, if◌then◌else◌}
use Rattle.std.specs.List.{list_any, filter_map}
use Rattle.std.specs.Ordering.{nat_cmp, match_ordering}
use Rattle.std.specs.declared.cmp.Ordering.{Ordering}
use Rattle.std.specs.declared.cmp.Ordering.TheVariants.{Less, Equal, Greater}
use Rattle.std.specs.Cmp.Lexicographic.{slice_cmp}
use Rattle.std.proofs.lemmas.Bool.{cases_Bool, and_parts, or_cases, or_left, or_right, eqb-true}
use Rattle.svc_fds.specs.Tables.{Entry as TableEntry, put, put_all}
use Rattle.svc_record.specs.declared.plan.Plan.{Plan}
use Rattle.svc_record.specs.declared.entry.Entry.TheVariants.{Got}
use Rattle.svc_record.specs.declared.event.Event.TheVariants.{Signal}
use Rattle.svc_record.specs.declared.event.ShutdownSignal.{ShutdownSignal}
use Rattle.svc_record.specs.Record.{Record, has, is_signal, has_cut, signal_of, first_or, before_signal}
use Rattle.svc_record.specs.Message.{encode}
use Rattle.svc_record.specs.Descriptors.{Descriptor, descriptors_of, opened_descriptors, live_descriptors, live_table, is_opened, is_close, has_number, as_entry}
use Rattle.svc_record.specs.Offer.{is_upgrade, is_empty_table, is_written, is_answered, is_offered, is_over, is_held_back}
use Rattle.svc_endpoints.proofs.OpenedLemmas.{opens-later}
use Rattle.svc_base.proofs.Logic.{option_cases as cases_address}

-- the table has the number
abbrev in_table : ℕ → List TableEntry → Bool
in_table fd es = list_any (λ (x : TableEntry). x.1 == fd) es

put_one : (fd n : ℕ) (a : List ℕ) (e : TableEntry) (es more : List TableEntry) (o : Ordering) → (in_table fd more ≡ true → ((n == fd) || in_table fd es) ≡ true)
    → in_table fd (match_ordering o (e ∷ more) ((a, n) ∷ es) ((a, n) ∷ e ∷ es)) ≡ true → ((n == fd) || in_table fd (e ∷ es)) ≡ true
put_one fd n a e es more Less f h = elim (or_cases (e.1 == fd) (in_table fd more) h) [
  | inl here ↦ or_right (n == fd) (in_table fd (e ∷ es)) (or_left (e.1 == fd) (in_table fd es) here)
  | inr later ↦ between (n == fd) (e.1 == fd) (in_table fd es) (f later)
]
  where
    between : (a b c : Bool) → (a || c) ≡ true → (a || (b || c)) ≡ true
    between a b c h = grind arith
put_one fd n a e es more Equal f h = between (n == fd) (e.1 == fd) (in_table fd es) h
  where
    between : (a b c : Bool) → (a || c) ≡ true → (a || (b || c)) ≡ true
    between a b c h = grind arith
put_one fd n a e es more Greater f h = h

put_in : (fd n : ℕ) (a : List ℕ) (es : List TableEntry) → in_table fd (put a n es) ≡ true → ((n == fd) || in_table fd es) ≡ true
put_in fd n a [] h = h
put_in fd n a (e ∷ es) h = put_one fd n a e es (put a n es) (slice_cmp nat_cmp e.0 a) (put_in fd n a es) h

puts_in : (fd : ℕ) (pairs es : List TableEntry) → in_table fd (put_all pairs es) ≡ true → (in_table fd pairs || in_table fd es) ≡ true
puts_in fd [] es h = h
puts_in fd (x ∷ pairs) es h = elim (or_cases (in_table fd pairs) (in_table fd (put x.0 x.1 es)) (puts_in fd pairs (put x.0 x.1 es) h)) [
  | inl later ↦ or_left (in_table fd (x ∷ pairs)) (in_table fd es) (or_right (x.1 == fd) (in_table fd pairs) later)
  | inr put_there ↦ elim (or_cases (x.1 == fd) (in_table fd es) (put_in fd x.1 x.0 es put_there)) [
    | inl here ↦ or_left (in_table fd (x ∷ pairs)) (in_table fd es) (or_left (x.1 == fd) (in_table fd pairs) here)
    | inr before ↦ or_right (in_table fd (x ∷ pairs)) (in_table fd es) before
  ]
]

listed : (fd : ℕ) (xs : List Descriptor) → in_table fd (filter_map as_entry xs) ≡ true → list_any (has_number fd) xs ≡ true
listed fd [] h = h
listed fd (x ∷ xs) h = elim (cases_address x.address) [
  | inl none ↦ or_right (x.number == fd) (list_any (has_number fd) xs) (listed fd xs (rw none at h))
  | inr some ↦ elim (or_cases (x.number == fd) (in_table fd (filter_map as_entry xs)) (rw some.1 at h)) [
    | inl here ↦ or_left (x.number == fd) (list_any (has_number fd) xs) here
    | inr later ↦ or_right (x.number == fd) (list_any (has_number fd) xs) (listed fd xs later)
  ]
]

live_in : (fd : ℕ) (q : Record) (xs : List Descriptor) → list_any (has_number fd) (filter (λ (d : Descriptor). not (has (is_close d.number) q)) xs) ≡ true
    → (list_any (has_number fd) xs ≡ true) × (has (is_close fd) q ≡ false)
live_in fd q [] h = absurd (cc)
live_in fd q (x ∷ xs) h = elim (cases_Bool (has (is_close x.number) q)) [
  | inl closed ↦ (let r = live_in fd q xs (rw closed at h) in (or_right (x.number == fd) (list_any (has_number fd) xs) r.0, r.1))
  | inr open_still ↦
      elim (or_cases (x.number == fd) (list_any (has_number fd) (filter (λ (d : Descriptor). not (has (is_close d.number) q)) xs)) (rw open_still at h)) [
        | inl here ↦
            (or_left (x.number == fd) (list_any (has_number fd) xs) here, subst (λ n. has (is_close n) q ≡ false) (eqb-true x.number fd here) open_still)
        | inr later ↦ (let r = live_in fd q xs later in (or_right (x.number == fd) (list_any (has_number fd) xs) r.0, r.1))
      ]
]

-- what stands in the table of the live descriptors is live
pub table-live : (p : Plan) (q : Record) (fd : ℕ) → list_any (λ (x : TableEntry). x.1 == fd) (live_table p q) ≡ true
    → (is_opened p q fd ≡ true) × (has (is_close fd) q ≡ false)
table-live p q fd h =
    live_in fd q (opened_descriptors p q)
    (listed fd (live_descriptors p q)
    (or_none (in_table fd (filter_map as_entry (live_descriptors p q))) (puts_in fd (filter_map as_entry (live_descriptors p q)) [] h)))
  where
    or_none : (a : Bool) → (a || false) ≡ true → a ≡ true
    or_none a h = grind arith

-- what was opened before the signal was opened
opened-before : (p : Plan) (q : Record) (fd : ℕ) → is_opened p (before_signal q) fd ≡ true → is_opened p q fd ≡ true
opened-before p [] fd h = h
opened-before p (Got (Signal kind) ∷ q) fd h = elim (cases_Bool (has is_signal q)) [
  | inl later ↦ opened-before p q fd (rw later at h)
  | inr first ↦ rw first at h
]
opened-before p (e ∷ q) fd h = opens-later fd (descriptors_of p e) (opened_descriptors p q) (opened-before p q fd h)

-- what is on offer was opened
pub held-opened : (p : Plan) (q : Record) (fd : ℕ) → is_held_back p q fd ≡ true → is_opened p q fd ≡ true
held-opened p q fd h =
    let offered = (and_parts (is_offered p q fd) (not (is_over p q)) h).0 in
    let listed_there = (and_parts (is_upgrade (signal_of q)) (in_table fd (live_table p (before_signal q))) offered).1 in
    opened-before p q fd (table-live p (before_signal q) fd listed_there).0

-- whether a signal came
signal-none : (q : Record) → has is_signal q ≡ false → signal_of q ≡ None
signal-none [] h = refl
signal-none (Got (Signal kind) ∷ q) h = absurd (cc)
signal-none (e ∷ q) h = signal-none q h

pub signal-some : (q : Record) → has is_signal q ≡ true → (kind : ShutdownSignal) × (signal_of q ≡ Some kind)
signal-some [] h = absurd (cc)
signal-some (Got (Signal kind) ∷ q) h = first (signal_of q)
  where
    first : (x : Option ShutdownSignal) → (k : ShutdownSignal) × (first_or x kind ≡ Some k)
    first (Some k) = (k, refl)
    first None = (kind, refl)
signal-some (e ∷ q) h = signal-some q h

-- whether a descriptor is on offer, from the first signal, what stands before it, and whether a cut came
abbrev held_by : Plan → Record → ℕ → Option ShutdownSignal → Record → Bool → Bool
held_by p q fd kind before cut = (is_upgrade kind && in_table fd (live_table p before))
    && not (is_upgrade kind && ((not (is_empty_table (live_table p before)) && (not (is_written (encode (live_table p before))) || cut)) || is_answered p q))

-- a later signal that is no cut leaves what is on offer
pub held-later : (p : Plan) (q : Record) (kind : ShutdownSignal) (fd : ℕ) → has is_signal q ≡ true → has_cut (Got (Signal kind) ∷ q) ≡ has_cut q
    → is_held_back p (Got (Signal kind) ∷ q) fd ≡ is_held_back p q fd
held-later p q kind fd h uncut =
    let some = signal-some q h in
    let same : first_or (signal_of q) kind ≡ signal_of q = ap (λ x. first_or x kind) some.1 ∙ sym some.1 in
    ap (λ x. held_by p q fd x (if has is_signal q then before_signal q else q) (has_cut (Got (Signal kind) ∷ q))) same
    ∙ ap (λ b. held_by p q fd (signal_of q) (if b then before_signal q else q) (has_cut (Got (Signal kind) ∷ q))) h
    ∙ ap (held_by p q fd (signal_of q) (before_signal q)) uncut

-- before the first nothing is on offer
pub held-before : (p : Plan) (q : Record) (fd : ℕ) → has is_signal q ≡ false → is_held_back p q fd ≡ false
held-before p q fd h = ap (λ x. held_by p q fd x (before_signal q) (has_cut q)) (signal-none q h)

-- what the first puts on offer is live
pub held-first : (p : Plan) (q : Record) (kind : ShutdownSignal) (fd : ℕ) → has is_signal q ≡ false → is_held_back p (Got (Signal kind) ∷ q) fd ≡ true
    → has (is_close fd) q ≡ false
held-first p q kind fd h held =
    let now : held_by p q fd (first_or (signal_of q) kind) q (has_cut (Got (Signal kind) ∷ q)) ≡ true =
    ap (λ b. held_by p q fd (first_or (signal_of q) kind) (if b then before_signal q else q) (has_cut (Got (Signal kind) ∷ q))) (sym h) ∙ held in
    (table-live p q fd (second (is_upgrade (first_or (signal_of q) kind)) (in_table fd (live_table p q)) _ now)).1
  where
    second : (a b c : Bool) → ((a && b) && c) ≡ true → b ≡ true
    second a b c h = grind arith
