-- What is asked of a connection is found in the chain of its number.
use Rattle.std.proofs.Common.{ℕ, Bool, true, false, not, ◌==◌, ◌&&◌, ◌||◌, ◌+◌, ◌%◌, List, [], ◌∷◌, inl, inr, ◌≡◌, refl, sym, ap, ◌∙◌, eqb-true, Option, Some, None, arith, cond, if◌then◌else◌}
use Rattle.std.specs.List.{list_any, list_all}
use Rattle.std.proofs.lemmas.Bool.{false≢true, cases_Bool, eq-eqb}
use Rattle.std.proofs.Math.Bool.{or-false}
use Rattle.svc_base.specs.declared.settings.Setting.{Setting}
use Rattle.svc_record.specs.declared.plan.Plan.{Plan}
use Rattle.svc_record.specs.declared.entry.Entry.{Entry}
use Rattle.svc_record.specs.declared.entry.Entry.TheVariants.{Got, Told}
use Rattle.svc_record.specs.declared.event.Event.TheVariants.{Arrived, Set, Shaken, Finished}
use Rattle.svc_record.specs.declared.action.Action.TheVariants.{Judged, Refuse, Settings as TellSettings, Handshake, Serve, Drop, Cut, Phase}
use Rattle.svc_record.specs.declared.action.ExecutionPhase.TheVariants.{ShutdownRuntimes}
use Rattle.svc_record.specs.Record.{Record, has, times, before_runtimes, is_runtimes}
use Rattle.svc_record.specs.Asks.{is_open, is_settings, is_set, is_handshake, is_shaken}
use Rattle.svc_record.specs.Connections.{Arrival, arrivals, connection_right, goes_on, is_arrival, is_judged, is_judged_as, is_refuse, is_settings_of, settings_list, is_set_as, is_shaken_as, is_serve, is_drop, is_cut, is_finished, is_live_connection}
use Rattle.svc_judge.specs.Chains.{number_at, is_in_chain, chain, connection_right_by, alone_fits, with_number, touched_numbers, is_numbered_right, are_numbered_right}
use Rattle.svc_judge.specs.Endings.{is_uncut}
use Rattle.svc_judge.specs.Anew.{touches, is_touched, is_connection_kept, connections_kept}
use Rattle.svc_judge.proofs.ConnectionLemmas.{live_by_arrival}

-- only entries of the chain pass the test
abbrev Within : ℕ → ℕ → (Entry → Bool) → Type 0
Within n k test = (e : Entry) → is_in_chain n k e ≡ false → test e ≡ false

has_in : (n k : ℕ) (test : Entry → Bool) → Within n k test → (q : Record) → has test (chain n k q) ≡ has test q
has_in n k test w [] = refl
has_in n k test w (e ∷ q) = elim (cases_Bool (is_in_chain n k e)) [
  | inl h ↦ rw (h) (ap (λ b. test e || b) (has_in n k test w q))
  | inr h ↦ (let t = w e h in rw (h, t) (has_in n k test w q))
]

plus_if : (b : Bool) (m n : ℕ) → m ≡ n → (if b then m + 1 else m) ≡ (if b then n + 1 else n)
plus_if b m n h = rw (h)

times_in : (n k : ℕ) (test : Entry → Bool) → Within n k test → (q : Record) → times test (chain n k q) ≡ times test q
times_in n k test w [] = refl
times_in n k test w (e ∷ q) = elim (cases_Bool (is_in_chain n k e)) [
  | inl h ↦ rw (h) (plus_if (test e) (times test (chain n k q)) (times test q) (times_in n k test w q))
  | inr h ↦ (let t = w e h in rw (h, t) (times_in n k test w q))
]

open_in : (n k : ℕ) (ask answer : Entry → Bool) → Within n k ask → Within n k answer → (q : Record) → is_open ask answer (chain n k q) ≡ is_open ask answer q
open_in n k ask answer w v [] = refl
open_in n k ask answer w v (e ∷ q) = elim (cases_Bool (is_in_chain n k e)) [
  | inl h ↦ rw (h) (ap (λ b. if ask e then true else (if answer e then false else b)) (open_in n k ask answer w v q))
  | inr h ↦ (let t = w e h in let u = v e h in rw (h, t, u) (open_in n k ask answer w v q))
]

-- numbers that leave different remainders differ
apart : (n c m : ℕ) → (m % n == c % n) ≡ false → (m == c) ≡ false
apart n c m h = elim (cases_Bool (m == c)) [
  | inl same ↦ absurd (false≢true (sym h ∙ eq-eqb (m % n) (c % n) (ap (λ x. x % n) (eqb-true m c same))))
  | inr other ↦ other
]

arrival_in : (n c : ℕ) → Within n (c % n) (is_arrival c)
arrival_in n c (Got (Arrived s i m peer)) h = apart n c m h
arrival_in n c _ h = refl

judged_in : (n c : ℕ) → Within n (c % n) (is_judged c)
judged_in n c (Told (Judged m said)) h = apart n c m h
judged_in n c _ h = refl

judged_no_in : (n c : ℕ) → Within n (c % n) (is_judged_as false c)
judged_no_in n c (Told (Judged m true)) h = refl
judged_no_in n c (Told (Judged m false)) h = apart n c m h
judged_no_in n c _ h = refl

refuse_in : (n c : ℕ) → Within n (c % n) (is_refuse c)
refuse_in n c (Told (Refuse m)) h = apart n c m h
refuse_in n c _ h = refl

settings_in : (n c : ℕ) → Within n (c % n) (is_settings c)
settings_in n c (Told (TellSettings m list)) h = apart n c m h
settings_in n c _ h = refl

settings_of_in : (n c : ℕ) (list : List Setting) → Within n (c % n) (is_settings_of list c)
settings_of_in n c list (Told (TellSettings m told)) h = (let a = apart n c m h in rw (a))
settings_of_in n c list _ h = refl

set_in : (n c : ℕ) → Within n (c % n) (is_set c)
set_in n c (Got (Set m ok)) h = apart n c m h
set_in n c _ h = refl

applied_in : (n c : ℕ) → Within n (c % n) (is_set_as true c)
applied_in n c (Got (Set m true)) h = apart n c m h
applied_in n c (Got (Set m false)) h = refl
applied_in n c _ h = refl

unapplied_in : (n c : ℕ) → Within n (c % n) (is_set_as false c)
unapplied_in n c (Got (Set m true)) h = refl
unapplied_in n c (Got (Set m false)) h = apart n c m h
unapplied_in n c _ h = refl

handshake_in : (n c : ℕ) → Within n (c % n) (is_handshake c)
handshake_in n c (Told (Handshake m)) h = apart n c m h
handshake_in n c _ h = refl

shaken_in : (n c : ℕ) → Within n (c % n) (is_shaken c)
shaken_in n c (Got (Shaken m ok)) h = apart n c m h
shaken_in n c _ h = refl

done_in : (n c : ℕ) → Within n (c % n) (is_shaken_as true c)
done_in n c (Got (Shaken m true)) h = apart n c m h
done_in n c (Got (Shaken m false)) h = refl
done_in n c _ h = refl

undone_in : (n c : ℕ) → Within n (c % n) (is_shaken_as false c)
undone_in n c (Got (Shaken m true)) h = refl
undone_in n c (Got (Shaken m false)) h = apart n c m h
undone_in n c _ h = refl

serve_in : (n c : ℕ) → Within n (c % n) (is_serve c)
serve_in n c (Told (Serve m)) h = apart n c m h
serve_in n c _ h = refl

drop_in : (n c : ℕ) → Within n (c % n) (is_drop c)
drop_in n c (Told (Drop m)) h = apart n c m h
drop_in n c _ h = refl

cut_in : (n c : ℕ) → Within n (c % n) (is_cut c)
cut_in n c (Told (Cut m)) h = apart n c m h
cut_in n c _ h = refl

finished_in : (n c : ℕ) → Within n (c % n) (is_finished c)
finished_in n c (Got (Finished m)) h = apart n c m h
finished_in n c _ h = refl

-- a connection that has arrived is found in its chain
pub arrived_in : (n c : ℕ) (q : Record) → has (is_arrival c) (chain n (c % n) q) ≡ has (is_arrival c) q
arrived_in n c q = has_in n (c % n) (is_arrival c) (arrival_in n c) q

pub goes_on_in : (n c : ℕ) (q : Record) → goes_on (chain n (c % n) q) c ≡ goes_on q c
goes_on_in n c q =
    let k = c % n in
    rw (has_in n k (is_refuse c) (refuse_in n c) q, has_in n k (is_drop c) (drop_in n c) q, has_in n k (is_finished c) (finished_in n c) q)

pub uncut_in : (n c : ℕ) (q : Record) → is_uncut (chain n (c % n) q) c ≡ is_uncut q c
uncut_in n c q = rw (goes_on_in n c q, has_in n (c % n) (is_cut c) (cut_in n c) q)

pub right_in : (p : Plan) (n : ℕ) (q : Record) (cut : Bool) (x : Arrival)
    → connection_right_by cut p (chain n (x.number % n) q) x ≡ connection_right_by cut p q x
right_in p n q cut x =
    let c = x.number in
    let k = c % n in
    rw (
      times_in n k (is_judged c) (judged_in n c) q,
      has_in n k (is_judged_as false c) (judged_no_in n c) q,
      times_in n k (is_refuse c) (refuse_in n c) q,
      times_in n k (is_settings c) (settings_in n c) q,
      times_in n k (is_settings_of (settings_list p x.service x.endpoint) c) (settings_of_in n c (settings_list p x.service x.endpoint)) q,
      has_in n k (is_set_as true c) (applied_in n c) q,
      times_in n k (is_handshake c) (handshake_in n c) q,
      has_in n k (is_shaken_as true c) (done_in n c) q,
      times_in n k (is_serve c) (serve_in n c) q,
      has_in n k (is_set_as false c) (unapplied_in n c) q,
      has_in n k (is_shaken_as false c) (undone_in n c) q,
      times_in n k (is_drop c) (drop_in n c) q,
      times_in n k (is_cut c) (cut_in n c) q,
    )

-- what an event asks of the entries on its connection
pub alone_in : (n k : ℕ) (e : Entry) (q : Record) → is_in_chain n k e ≡ true → alone_fits e (chain n k q) ≡ alone_fits e q
alone_in n k (Got (Arrived s i c peer)) q h = let g = eqb-true (c % n) k h in rw (← g) (ap not (arrived_in n c q))
alone_in n k (Got (Set c ok)) q h = let g = eqb-true (c % n) k h in rw (← g) (open_in n (c % n) (is_settings c) (is_set c) (settings_in n c) (set_in n c) q)
alone_in n k (Got (Shaken c ok)) q h =
    let g = eqb-true (c % n) k h in rw (← g) (open_in n (c % n) (is_handshake c) (is_shaken c) (handshake_in n c) (shaken_in n c) q)
alone_in n k (Got (Finished c)) q h =
    let g = eqb-true (c % n) k h in
    let j = c % n in
    rw (← g)
    (ap (λ b. b && is_live_connection (chain n j q) c) (has_in n j (is_serve c) (serve_in n c) q)
    ∙ ap (λ b. has (is_serve c) q && b)
    (live_by_arrival (chain n j q) c
    ∙ rw (has_in n j (is_arrival c) (arrival_in n c) q, goes_on_in n c q, has_in n j (is_cut c) (cut_in n c) q) (sym (live_by_arrival q c))))
alone_in n k _ q h = refl

skips : (e : Entry) (q : Record) → is_runtimes e ≡ false → before_runtimes (e ∷ q) ≡ before_runtimes q
skips (Told (Phase ShutdownRuntimes ms)) q h = absurd (false≢true (sym h))
skips _ q h = refl

-- without `ShutdownRuntimes` nothing stands before it
none_before : (q : Record) → times is_runtimes q ≡ 0 → before_runtimes q ≡ []
none_before [] h = refl
none_before (e ∷ q) h = elim (cases_Bool (is_runtimes e)) [
  | inl y ↦ (let g : times is_runtimes q + 1 ≡ 0 = rw (y) at h in absurd (omega (arith, g)))
  | inr n ↦ (let g : times is_runtimes q ≡ 0 = rw (n) at h in skips e q n ∙ none_before q g)
]

-- so it cut off no connection
right_uncut : (p : Plan) (q : Record) (x : Arrival) → times is_runtimes q ≡ 0 → connection_right p q x ≡ connection_right_by false p q x
right_uncut p q x h = let b = none_before q h in rw (b)

apart_from : (n c m : ℕ) → (m % n == c % n) ≡ false → (c == m) ≡ false
apart_from n c m h = elim (cases_Bool (c == m)) [
  | inl same ↦ absurd (false≢true (sym h ∙ eq-eqb (m % n) (c % n) (ap (λ x. x % n) (sym (eqb-true c m same)))))
  | inr other ↦ other
]

one_in : (p : Plan) (n c : ℕ) (q : Record) (x : Arrival) → is_numbered_right p (chain n (c % n) q) c x ≡ is_numbered_right p q c x
unfolding is_numbered_right
one_in p n c q x = elim (cases_Bool (c == x.number)) [
  | inl same ↦ (let g = eqb-true c x.number same in rw (same, g) (right_in p n q false x))
  | inr other ↦ rw (other)
]

other_right : (p : Plan) (q : Record) (c : ℕ) (x : Arrival) → (c == x.number) ≡ false → is_numbered_right p q c x ≡ true
unfolding is_numbered_right
other_right p q c x h = rw (h)

-- an entry that brings no connection leaves those that have arrived
passed_by : (b : Bool) (e : Entry) (q : Record) → ((r : Record) → arrivals (e ∷ r) ≡ arrivals r) → arrivals (cond b (e ∷ q) q) ≡ arrivals q
passed_by true e q f = f q
passed_by false e q f = refl

numbered_from : (p : Plan) (n c : ℕ) (whole q : Record)
    → list_all (is_numbered_right p (chain n (c % n) whole) c) (arrivals (chain n (c % n) q)) ≡ list_all (is_numbered_right p whole c) (arrivals q)
numbered_from p n c whole [] = refl
numbered_from p n c whole (Got (Arrived s i m peer) ∷ q) =
    let x : Arrival = record { service = s; endpoint = i; number = m; peer = peer } in
    elim (cases_Bool (m % n == c % n)) [
      | inl h ↦ rw (h, one_in p n c whole x) (ap (λ b. is_numbered_right p whole c x && b) (numbered_from p n c whole q))
      | inr h ↦ (let o = other_right p whole c x (apart_from n c m h) in rw (h, o) (numbered_from p n c whole q))
    ]
numbered_from p n c whole (Got e ∷ q) =
    ap (list_all (is_numbered_right p (chain n (c % n) whole) c)) (passed_by (is_in_chain n (c % n) (Got e)) (Got e) (chain n (c % n) q) (λ r. refl))
    ∙ numbered_from p n c whole q
numbered_from p n c whole (Told a ∷ q) =
    ap (list_all (is_numbered_right p (chain n (c % n) whole) c)) (passed_by (is_in_chain n (c % n) (Told a)) (Told a) (chain n (c % n) q) (λ r. refl))
    ∙ numbered_from p n c whole q

-- the arrivals with this number are right where those of the chain are
pub numbered_in : (p : Plan) (n c : ℕ) (q : Record) → are_numbered_right p (chain n (c % n) q) c ≡ are_numbered_right p q c
numbered_in p n c q = numbered_from p n c q q

touches_is : (c : ℕ) (e : Entry) → is_runtimes e ≡ false → touches c e ≡ list_any (λ n. n == c) (with_number (number_at e) [])
touches_is c (Got (Arrived s i n peer)) h = sym (or-false (n == c))
touches_is c (Got (Set n ok)) h = sym (or-false (n == c))
touches_is c (Got (Shaken n ok)) h = sym (or-false (n == c))
touches_is c (Got (Finished n)) h = sym (or-false (n == c))
touches_is c (Told (Judged n said)) h = sym (or-false (n == c))
touches_is c (Told (Refuse n)) h = sym (or-false (n == c))
touches_is c (Told (TellSettings n list)) h = sym (or-false (n == c))
touches_is c (Told (Handshake n)) h = sym (or-false (n == c))
touches_is c (Told (Serve n)) h = sym (or-false (n == c))
touches_is c (Told (Drop n)) h = sym (or-false (n == c))
touches_is c (Told (Cut n)) h = sym (or-false (n == c))
touches_is c (Told (Phase ShutdownRuntimes ms)) h = absurd (false≢true (sym h))
touches_is c _ h = refl

any_with : (c : ℕ) (o : Option ℕ) (ns : List ℕ)
    → list_any (λ n. n == c) (with_number o ns) ≡ (list_any (λ n. n == c) (with_number o []) || list_any (λ n. n == c) ns)
any_with c None ns = refl
any_with c (Some m) ns = rw (or-false (m == c))

touched_is : (c : ℕ) (q : Record) → times is_runtimes q ≡ 0 → is_touched c q ≡ list_any (λ n. n == c) (touched_numbers q)
touched_is c [] h = refl
touched_is c (Got e ∷ q) h = touches_is c (Got e) refl
touched_is c (Told a ∷ q) h = elim (cases_Bool (is_runtimes (Told a))) [
  | inl y ↦ (let g : times is_runtimes q + 1 ≡ 0 = rw (y) at h in absurd (omega (arith, g)))
  | inr n ↦
      (let g : times is_runtimes q ≡ 0 = rw (n) at h in
      rw (touches_is c (Told a) n, touched_is c q g) (sym (any_with c (number_at (Told a)) (touched_numbers q))))
]

taken_twice : (r b : Bool) → (r && (b || r)) ≡ r
taken_twice true true = refl
taken_twice true false = refl
taken_twice false b = refl

by_any : (ns : List ℕ) (m : ℕ) (r : Bool) → list_all (λ c. not (c == m) || r) ns ≡ (not (list_any (λ n. n == m) ns) || r)
by_any [] m r = refl
by_any (n ∷ ns) m r = elim (cases_Bool (n == m)) [
  | inl same ↦ rw (same, by_any ns m r) (taken_twice r (not (list_any (λ k. k == m) ns)))
  | inr other ↦ rw (other) (by_any ns m r)
]

kept_is : (p : Plan) (q : Record) (x : Arrival) → times is_runtimes q ≡ 0
    → is_connection_kept p q x ≡ list_all (λ c. is_numbered_right p q c x) (touched_numbers q)
unfolding is_connection_kept is_numbered_right
kept_is p q x h =
    rw (touched_is x.number q h, right_uncut p q x h) (sym (by_any (touched_numbers q) x.number (connection_right_by false p q x)))

all_true : (ns : List ℕ) → list_all (λ n. true) ns ≡ true
all_true [] = refl
all_true (n ∷ ns) = all_true ns

shuffled : (a b c d : Bool) → ((a && b) && (c && d)) ≡ ((a && c) && (b && d))
shuffled true true c d = refl
shuffled true false true d = refl
shuffled true false false d = refl
shuffled false b c d = refl

all_and : (f g : ℕ → Bool) (ns : List ℕ) → list_all (λ n. f n && g n) ns ≡ (list_all f ns && list_all g ns)
all_and f g [] = refl
all_and f g (n ∷ ns) = rw (all_and f g ns) (shuffled (f n) (g n) (list_all f ns) (list_all g ns))

swapped : (p : Plan) (q : Record) (ns : List ℕ) (xs : List Arrival)
    → list_all (λ c. list_all (is_numbered_right p q c) xs) ns ≡ list_all (λ (x : Arrival). list_all (λ c. is_numbered_right p q c x) ns) xs
swapped p q ns [] = all_true ns
swapped p q ns (x ∷ xs) =
    all_and (λ c. is_numbered_right p q c x) (λ c. list_all (is_numbered_right p q c) xs) ns
    ∙ ap (λ b. list_all (λ c. is_numbered_right p q c x) ns && b) (swapped p q ns xs)

each_kept : (p : Plan) (q : Record) (xs : List Arrival) → times is_runtimes q ≡ 0
    → list_all (is_connection_kept p q) xs ≡ list_all (λ (x : Arrival). list_all (λ c. is_numbered_right p q c x) (touched_numbers q)) xs
each_kept p q [] h = refl
each_kept p q (x ∷ xs) h = rw (kept_is p q x h, each_kept p q xs h)

-- each connection that is touched is right where those of each number that is touched are
pub kept_by_numbers : (p : Plan) (q : Record) → times is_runtimes q ≡ 0
    → connections_kept p q ≡ list_all (are_numbered_right p q) (touched_numbers q)
kept_by_numbers p q h = each_kept p q (arrivals q) h ∙ sym (swapped p q (touched_numbers q) (arrivals q))

-- an entry stands in the chain of its number
pub in_own : (n c : ℕ) (e : Entry) → number_at e ≡ Some c → is_in_chain n (c % n) e ≡ true
in_own n c e h = rw (h) (eq-eqb (c % n) (c % n) refl)
