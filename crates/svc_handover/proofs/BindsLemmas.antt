-- How often an endpoint is bound: each bind but the first comes after an answer that found the address in use and counts, and after so many the service fails.
use Rattle.std.proofs.Common.{ℕ, Bool, true, false, ◌||◌, ◌&&◌, not, ◌==◌, ◌+◌, ◌<◌, ◌≤◌, ◌⊎◌, List, [], ◌∷◌, ◌≡◌, refl, ap, ◌∙◌, subst, arith, inl, inr, Option, Some, None, length, nat_le, if◌then◌else◌}
use Rattle.std.proofs.lemmas.Bool.{and_parts, and_from, or_parts, or_from, or_cases, or_left, or_right, cases_Bool, cases_lt, eqb-true, not-true, false_from_ne_true, leb-false, leb-true}
use Rattle.svc_record.specs.declared.plan.Plan.{Plan}
use Rattle.svc_record.specs.declared.action.Action.{Action}
use Rattle.svc_record.specs.declared.action.Action.TheVariants.{Start}
use Rattle.svc_record.specs.declared.entry.Entry.{Entry}
use Rattle.svc_record.specs.declared.entry.Entry.TheVariants.{Got, Told}
use Rattle.svc_record.specs.declared.event.Event.{Event}
use Rattle.svc_record.specs.declared.event.Event.TheVariants.{Bound, InUse, BindFailed, Adopted, AdoptFailed}
use Rattle.svc_record.specs.Record.{Record, has, times, now, tell, is_running, from_the_start, once_if, is_bootstrap_complete, EachEntry, EachEarlier}
use Rattle.svc_record.specs.Plans.{service_count, endpoints, endpoint_numbers, address, same_address}
use Rattle.svc_record.specs.Descriptors.{Descriptor, descriptors_of, opened_descriptors, is_close, has_live, live_descriptors}
use Rattle.svc_record.specs.Asks.{is_bind, is_bind_answer, is_bind_open, is_adopt, is_adopt_answer, is_adopt_open, is_ask_open}
use Rattle.svc_record.specs.AskRules.{ask_due}
use Rattle.svc_record.specs.Failed.{has_failed, is_failure, is_in_use, in_use_count, in_use_limit}
use Rattle.svc_record.specs.Starts.{is_start, is_started}
use Rattle.svc_record.specs.Endpoints.{is_held, is_busy_elsewhere, waits_at, waits_from, waits, first_missing, in_use_within, EndpointsRightLate}
use Rattle.svc_record.specs.Closes.{close_once}
use Rattle.svc_record.specs.Boot.{is_side_child, may_begin, runs, fork_first, start_after_boot, BootRight}
use Rattle.svc_record.specs.Ends.{has_ended}
use Rattle.svc_record.specs.Fits.{event_fits, fits_row, is_new}
use Rattle.svc_record.specs.Right.{Right, SettledRight}
use Rattle.svc_core.proofs.RecordLemmas.{on_true, has-stays}
use Rattle.svc_drain.proofs.Passing.{has-once}
use Rattle.svc_endpoints.proofs.RangeLemmas.{at0}
use Rattle.svc_endpoints.proofs.GrowLemmas.{failed-grows}
use Rattle.svc_endpoints.proofs.SharedLemmas.{cases_Option}
use Rattle.svc_endpoints.proofs.OpenedLemmas.{has_pair, live-pair, live-opened}
use Rattle.svc_handover.specs.Handover.{bind_limit}
use Rattle.svc_handover.proofs.CoveredLemmas.{open-settled}
use Rattle.svc_handover.proofs.ReceivedLemmas.{pair-later, pair-live, some-number}
use Rattle.svc_handover.proofs.TurnLemmas.{HasTurn, bind-turn, bind-started, bind-earlier, adopt-some, held-grows, held-now}
use Rattle.svc_handover.proofs.OvertakenLemmas.{is_overtaken, follows_overtaken, overtaken-live, each-part, stays-open, step-closes}
use Rattle.svc_base.proofs.Logic.{clash}

-- nothing lets the endpoint be bound again: a bind or an adoption of it is open, it is held, or its service failed
abbrev is_spent : Plan → Record → ℕ → ℕ → Bool
is_spent p q s i = is_ask_open q s i || (is_held p q s i || has_failed p q s)

spent-asked : (p : Plan) (q : Record) (s i : ℕ) → is_ask_open q s i ≡ true → is_spent p q s i ≡ true
spent-asked p q s i h = or_left (is_ask_open q s i) (is_held p q s i || has_failed p q s) h

spent-held : (p : Plan) (q : Record) (s i : ℕ) → is_held p q s i ≡ true → is_spent p q s i ≡ true
spent-held p q s i h = or_right (is_ask_open q s i) (is_held p q s i || has_failed p q s) (or_left (is_held p q s i) (has_failed p q s) h)

spent-failed : (p : Plan) (q : Record) (s i : ℕ) → has_failed p q s ≡ true → is_spent p q s i ≡ true
spent-failed p q s i h = or_right (is_ask_open q s i) (is_held p q s i || has_failed p q s) (or_right (is_held p q s i) (has_failed p q s) h)

-- an entry that doesn't answer it leaves it so
open-stays : (x y o : Bool) → y ≡ false → o ≡ true → (if x then true else (if y then false else o)) ≡ true
open-stays true y o e h = refl
open-stays false y o e h = rw e h

spent-grows : (p : Plan) (e : Entry) (q : Record) (s i : ℕ) → is_bind_answer s i e ≡ false → is_adopt_answer s i e ≡ false → is_spent p q s i ≡ true
    → is_spent p (e ∷ q) s i ≡ true
spent-grows p e q s i unbound unadopted h = elim (or_cases (is_ask_open q s i) (is_held p q s i || has_failed p q s) h) [
  | inl asked ↦ spent-asked p (e ∷ q) s i (elim (or_cases (is_bind_open q s i) (is_adopt_open q s i) asked) [
    | inl bind ↦ or_left (is_bind_open (e ∷ q) s i) (is_adopt_open (e ∷ q) s i)
        (open-stays (is_bind s i e) (is_bind_answer s i e) (is_bind_open q s i) unbound bind)
    | inr adopt ↦ or_right (is_bind_open (e ∷ q) s i) (is_adopt_open (e ∷ q) s i)
        (open-stays (is_adopt s i e) (is_adopt_answer s i e) (is_adopt_open q s i) unadopted adopt)
  ])
  | inr rest ↦ elim (or_cases (is_held p q s i) (has_failed p q s) rest) [
    | inl held ↦ spent-held p (e ∷ q) s i (held-grows p e q s i held)
    | inr failed ↦ spent-failed p (e ∷ q) s i (failed-grows p q e s failed)
  ]
]

-- in its turn it isn't
turn-free : (p : Plan) (q : Record) (s i : ℕ) → HasTurn p q s i → is_spent p q s i ≡ false
turn-free p q s i t = or_from (is_ask_open q s i) (is_held p q s i || has_failed p q s) t.unasked (or_from (is_held p q s i) (has_failed p q s) t.unheld t.free)

-- a service that was started runs after its beginning
fork-runs : (d c : Bool) → ((not d || false) || c) ≡ true → (not d || c) ≡ true
fork-runs true c h = h
fork-runs false c h = refl

or-grows : (n x c : Bool) → (n || c) ≡ true → (n || (x || c)) ≡ true
or-grows n x c h = grind arith

runs-grows : (p : Plan) (e : Entry) (q : Record) → runs p q ≡ true → runs p (e ∷ q) ≡ true
runs-grows p e q h =
    let parts = and_parts (may_begin p q) (not p.eager || has is_bootstrap_complete q) h in
    and_from (may_begin p (e ∷ q)) (not p.eager || has is_bootstrap_complete (e ∷ q)) (or-grows (not p.daemon) (is_side_child e) (has is_side_child q) parts.0)
    (or-grows (not p.eager) (is_bootstrap_complete e) (has is_bootstrap_complete q) parts.1)

started-runs : (p : Plan) (q : Record) (s : ℕ) → EachEntry (λ e before. fork_first p e before ≡ true) q
    → EachEntry (λ e before. start_after_boot p e before ≡ true) q → is_started q s ≡ true → runs p q ≡ true
started-runs p [] s fork boot h = absurd (cc)
started-runs p (Told (Start t) ∷ q) s fork boot h = runs-grows p (Told (Start t)) q
    (and_from (may_begin p q) (not p.eager || has is_bootstrap_complete q) (fork-runs p.daemon (has is_side_child q) fork.0) boot.0)
started-runs p (e ∷ q) s fork boot h = runs-grows p e q (started-runs p q s fork.1 boot.1 h)

from-start : (p : Plan) (q : Record) (s : ℕ) → BootRight p q → is_started q s ≡ true → from_the_start q ≡ true
from-start p q s boot h =
    let last = (and_parts _ (once_if (runs p q) is_running q) (and_parts _ _ boot.entries).1).1 in
    has-once is_running q (runs p q) (eqb-true (times is_running q) (if runs p q then 1 else 0) last) ∙ started-runs p q s boot.fork boot.starts h

-- the first endpoint that is missing isn't held
missing-unheld : (p : Plan) (q : Record) (s : ℕ) (xs : List ℕ) (j : ℕ) → first_missing p q s xs ≡ Some j → is_held p q s j ≡ false
missing-unheld p q s [] j h = absurd (cc)
missing-unheld p q s (x ∷ xs) j h = elim (cases_Bool (is_held p q s x)) [
  | inl held ↦ missing-unheld p q s xs j (rw held at h)
  | inr off ↦ subst (λ k. is_held p q s k ≡ false) (same x j (rw off at h)) off
]
  where
    same : (x j : ℕ) → Some x ≡ Some j → x ≡ j
    same x j e = cc

-- an endpoint whose address is live, and before which all are held, waits only for an answer
live-waits : (p : Plan) (q : Record) (s i : ℕ) → ((k : ℕ) → k < i → is_held p q s k ≡ true) → has_live p q (address p s i) ≡ true → waits p q s i ≡ true
    → is_ask_open q s i ≡ true
live-waits p q s i earlier live h = elim (cases_Option (first_missing p q s (endpoint_numbers p s))) [
  | inl none ↦ absurd (let off = subst (λ m. waits_from p q s i m ≡ true) none h in cc)
  | inr some ↦ at some.0 some.1
]
  where
    alone : (o n h w l x : Bool) → l ≡ true → ((o || (((n && h) && w) && not l)) || (not l && x)) ≡ true → o ≡ true
    alone o n h w l x e k = grind arith

    at : (j : ℕ) → first_missing p q s (endpoint_numbers p s) ≡ Some j → is_ask_open q s i ≡ true
    at j some =
        let parts = and_parts (nat_le j i) (waits_at p q s j) (subst (λ m. waits_from p q s i m ≡ true) some h) in
        let missing = missing-unheld p q s (endpoint_numbers p s) j some in
        elim (cases_lt j i) [
          | inl lt ↦ absurd (clash (is_held p q s j) (earlier j lt) missing)
          | inr ge ↦ (let low = leb-true j i parts.0 in
              let same : j ≡ i = omega (arith, low) in
              let here : waits_at p q s i ≡ true = subst (λ k. waits_at p q s k ≡ true) same parts.1 in
              alone (is_ask_open q s i) (not (has_failed p q s)) (not (is_held p q s i)) (in_use_within (now q) q s i) (has_live p q (address p s i))
              (is_busy_elsewhere p q (address p s i)) live here)
        ]

-- what is known of a record and of what follows in its step: more was told, and then the step ends
record InStep (p : Plan) (q : Record) (more : List Action) : Type 0 where
  pub settled : SettledRight p (tell q more)
  pub once : EachEntry (λ e before. close_once p e before ≡ true) (tell q more)
  pub due : EachEntry (λ e before. ask_due p e before ≡ true) (tell q more)
  pub fits : EachEntry (λ e before. event_fits p e before ≡ true) q
  pub earlier : EachEarlier (SettledRight p) q

-- the same of what stands before a told entry, and before an event
step-told : (p : Plan) (a : Action) (q : Record) (more : List Action) → InStep p (Told a ∷ q) more → InStep p q (a ∷ more)
step-told p a q more n = record { settled = n.settled; once = n.once; due = n.due; fits = n.fits.1; earlier = n.earlier }

step-got : (p : Plan) (e : Event) (q : Record) (more : List Action) → InStep p (Got e ∷ q) more → InStep p q []
step-got p e q more n = record {
  settled = n.earlier.0;
  once = (each-part (λ x before. close_once p x before ≡ true) (Got e ∷ q) more n.once).1;
  due = (each-part (λ x before. ask_due p x before ≡ true) (Got e ∷ q) more n.due).1;
  fits = n.fits.1;
  earlier = n.earlier.1;
}

going-on : (p : Plan) (e : Event) (q : Record) → event_fits p (Got e) q ≡ true → has_ended p q ≡ false
going-on p e q fit = not-true (has_ended p q) (and_parts (not (has_ended p q)) (fits_row p q e) fit).0

module _ (p : Plan) (s i : ℕ) where
  -- after an answer that an arrival overtook, a descriptor of the address is open until the step ends
  record StillOpen (q : Record) (more : List Action) : Type 0 where
    pub fd : ℕ
    pub pair : has_pair fd (address p s i) (opened_descriptors p q) ≡ true
    pub unclosed : has (is_close fd) (tell q more) ≡ false

  still-open : (q : Record) (more : List Action) → InStep p q more → follows_overtaken p q s i ≡ true → StillOpen q more
  still-open [] more n h = absurd (cc)
  still-open (Got e ∷ b) more n over =
      let going = going-on p e b n.fits.0 in
      let before = open-settled p b going n.earlier.0 in
      let ends = step-closes p s i b e more over going before n.settled in
      let one = some-number (λ (d : Descriptor). same_address d.address (address p s i)) (live_descriptors p b) (overtaken-live p s i e b over) in
      let pair = live-pair p b one.0 (address p s i) one.1 in
      record {
        fd = one.0;
        pair = pair-later one.0 (address p s i) (descriptors_of p (Got e)) (opened_descriptors p b) pair.0;
        unclosed = stays-open p s i b e more over n.fits n.due ends.1 one.0 n.once before.closes ends.0 (live-opened p b one.0 (address p s i) one.1) pair.1;
      }
  still-open (Told a ∷ q) more n over =
      let was = still-open q (a ∷ more) (step-told p a q more n) over in
      record { fd = was.fd; pair = was.pair; unclosed = was.unclosed }

  -- so the address is live
  still-live : (q : Record) (more : List Action) → InStep p q more → follows_overtaken p q s i ≡ true → has_live p q (address p s i) ≡ true
  still-live q more n over =
      let open_one = still-open q more n over in
      let unclosed = false_from_ne_true (has (is_close open_one.fd) q)
      (λ closed. clash (has (is_close open_one.fd) (tell q more)) (has-stays (is_close open_one.fd) q more closed) open_one.unclosed) in
      by (address p s i) open_one.fd open_one.pair unclosed
    where
      none-pair : (fd : ℕ) (xs : List Descriptor) → has_pair fd None xs ≡ true → ⊥
      none-pair fd [] h = cc
      none-pair fd (x ∷ xs) h = none-pair fd xs (skip (x.number == fd) (same_address x.address None) (has_pair fd None xs) (none-same x.address) h)
        where
          none-same : (a : Option (List ℕ)) → same_address a None ≡ false
          none-same None = refl
          none-same (Some a) = refl

          skip : (x y z : Bool) → y ≡ false → ((x && y) || z) ≡ true → z ≡ true
          skip x y z e h = grind arith

      by : (a : Option (List ℕ)) (fd : ℕ) → has_pair fd a (opened_descriptors p q) ≡ true → has (is_close fd) q ≡ false → has_live p q a ≡ true
      by None fd h unclosed = absurd (none-pair fd (opened_descriptors p q) h)
      by (Some a) fd h unclosed = pair-live q fd a (opened_descriptors p q) h unclosed

  -- the endpoint isn't bound in such a step
  unbound : (q : Record) (more : List Action) → InStep p q more → EachEntry (λ e before. (is_bind s i e && follows_overtaken p before s i) ≡ false) q
  unbound [] more n = tt
  unbound (Got e ∷ b) more n = (refl, unbound b [] (step-got p e b more n))
  unbound (Told a ∷ q) more n = (here, unbound q (a ∷ more) (step-told p a q more n))
    where
      here : (is_bind s i (Told a) && follows_overtaken p q s i) ≡ false
      here = false_from_ne_true (is_bind s i (Told a) && follows_overtaken p q s i) (λ h.
          let parts = and_parts (is_bind s i (Told a)) (follows_overtaken p q s i) h in
          let turn = bind-turn p (Told a) q s i parts.0 (each-part (λ e before. ask_due p e before ≡ true) (Told a ∷ q) more n.due).0 in
          clash (has_live p q (address p s i)) (still-live q (a ∷ more) (step-told p a q more n) parts.1) turn.1)

  -- what is known of the answered bind
  bind-was-open : (e : Event) (b : Record) → event_fits p (Got e) b ≡ true → is_overtaken p s i e b ≡ true → is_bind_open b s i ≡ true
  bind-was-open (InUse t j) b fit over =
      let both = and_parts (t == s) (j == i) (and_parts (t == s && j == i) (has_live p b (address p s i)) over).0 in
      subst (λ u. is_bind_open b u i ≡ true) (eqb-true t s both.0)
      (subst (λ k. is_bind_open b t k ≡ true) (eqb-true j i both.1) (and_parts (not (has_ended p b)) (is_bind_open b t j) fit).1)
  bind-was-open (Bound t j fd) b fit over =
      let both = and_parts (t == s) (j == i) (and_parts (t == s && j == i) (has_live p b (address p t j)) over).0 in
      let asked = (and_parts (is_bind_open b t j) (is_new b fd) (and_parts (not (has_ended p b)) (fits_row p b (Bound t j fd)) fit).1).0 in
      subst (λ u. is_bind_open b u i ≡ true) (eqb-true t s both.0) (subst (λ k. is_bind_open b t k ≡ true) (eqb-true j i both.1) asked)
  bind-was-open _ b fit over = absurd (cc)

  record WasAsked (q : Record) : Type 0 where
    pub started : is_started q s ≡ true
    pub earlier : (k : ℕ) → k < i → is_held p q s k ≡ true

  was-asked : (q : Record) → EachEntry (λ e before. event_fits p e before ≡ true) q → EachEntry (λ e before. ask_due p e before ≡ true) q
      → follows_overtaken p q s i ≡ true → WasAsked q
  was-asked [] fits due h = absurd (cc)
  was-asked (Got e ∷ b) fits due over =
      let asked = bind-was-open e b fits.0 over in
      record {
        started = or_right (is_start s (Got e)) (is_started b s) (bind-started p s i b due.1 asked);
        earlier = λ k lt. held-grows p (Got e) b s k (bind-earlier p s i k lt b due.1 asked);
      }
  was-asked (Told a ∷ q) fits due over =
      let was = was-asked q fits.1 due.1 over in
      record { started = or_right (is_start s (Told a)) (is_started q s) was.started; earlier = λ k lt. held-grows p (Told a) q s k (was.earlier k lt) }

  module _ (inside : s < service_count p) (within : i < length (endpoints p s)) where
    -- where the run goes on after such a step, the endpoint is offered the descriptor, or has it already
    offered : (q : Record) → has_ended p q ≡ false → InStep p q [] → follows_overtaken p q s i ≡ true → is_spent p q s i ≡ true
    offered q going n over =
        let right = open-settled p q going n.settled in
        let was = was-asked q n.fits n.due over in
        let late = on_true (from_the_start q) (EndpointsRightLate p q) (from-start p q s right.boot was.started) right.endpoints_late s i inside within in
        elim (cases_Bool (has_failed p q s)) [
          | inl failed ↦ spent-failed p q s i failed
          | inr free ↦ elim (or_cases (is_held p q s i) (waits p q s i)
              (works (is_started q s) (has_failed p q s) (is_held p q s i || waits p q s i) was.started free late)) [
                | inl held ↦ spent-held p q s i held
                | inr waiting ↦ spent-asked p q s i (live-waits p q s i was.earlier (still-live q [] n over) waiting)
              ]
        ]
      where
        works : (st f x : Bool) → st ≡ true → f ≡ false → (not (st && not f) || x) ≡ true → x ≡ true
        works st f x y z h = grind arith

    offered-each : (q : Record) (more : List Action) → InStep p q more
        → EachEarlier (λ before. follows_overtaken p before s i ≡ true → is_spent p before s i ≡ true) q
    offered-each [] more n = tt
    offered-each (Got e ∷ b) more n = let was = step-got p e b more n in (offered b (going-on p e b n.fits.0) was, offered-each b [] was)
    offered-each (Told a ∷ q) more n = offered-each q (a ∷ more) (step-told p a q more n)

    -- the binds so far: one for each answer that counts, and one more where one is open or the endpoint got what it wants
    record BoundSoFar (q : Record) : Type 0 where
      pub at_most : times (is_bind s i) q ≤ bind_limit p s i
      pub one_more : times (is_bind s i) q ≤ in_use_count p q s i + 1
      pub free : is_spent p q s i ≡ false → follows_overtaken p q s i ≡ false → times (is_bind s i) q ≤ in_use_count p q s i

    under-limit : (q : Record) → has_failed p q s ≡ false → in_use_count p q s i < bind_limit p s i
    under-limit q free = leb-false (in_use_limit p s i) (in_use_count p q s i)
        (false_from_ne_true (nat_le (in_use_limit p s i) (in_use_count p q s i)) (λ over. clash (has_failed p q s)
        (at0 (λ k. has (is_failure s k) q || nat_le (in_use_limit p s k) (in_use_count p q s k)) (length (endpoints p s)) i within
        (or_right (has (is_failure s i) q) (nat_le (in_use_limit p s i) (in_use_count p q s i)) over)) free))

    -- what is told
    after-told : (a : Action) (q : Record) → BoundSoFar q → ask_due p (Told a) q ≡ true → (is_bind s i (Told a) && follows_overtaken p q s i) ≡ false
        → BoundSoFar (Told a ∷ q)
    after-told a q was due unbound = elim (cases_Bool (is_bind s i (Told a))) [
      | inl here ↦ (let turn = (bind-turn p (Told a) q s i here due).0 in
          let few = was.free (turn-free p q s i turn) (second (is_bind s i (Told a)) (follows_overtaken p q s i) here unbound) in
          let under = under-limit q turn.free in
          let counted : times (is_bind s i) (Told a ∷ q) ≡ times (is_bind s i) q + 1 =
          ap (λ b. if b then times (is_bind s i) q + 1 else times (is_bind s i) q) here in
          record {
            at_most = omega (arith, few, under, counted);
            one_more = omega (arith, few, counted);
            free = λ spent over. absurd (clash (is_spent p (Told a ∷ q) s i)
                (spent-asked p (Told a ∷ q) s i (or_left (is_bind_open (Told a ∷ q) s i) (is_adopt_open (Told a ∷ q) s i)
                (ap (λ b. if b then true else is_bind_open q s i) here))) spent);
          })
      | inr other ↦ (let same : times (is_bind s i) (Told a ∷ q) ≡ times (is_bind s i) q =
          ap (λ b. if b then times (is_bind s i) q + 1 else times (is_bind s i) q) other in
          record {
            at_most = rw same was.at_most;
            one_more = rw same was.one_more;
            free = λ spent over. rw same (was.free (false_from_ne_true (is_spent p q s i)
                (λ before. clash (is_spent p (Told a ∷ q) s i) (spent-grows p (Told a) q s i refl refl before) spent)) over);
          })
    ]
      where
        second : (x y : Bool) → x ≡ true → (x && y) ≡ false → y ≡ false
        second x y e h = grind arith

    -- an answer of the endpoint: it is spent, or was overtaken, or found the address in use and counts
    counts : (c : Bool) (n : ℕ) → n ≤ (if c then n + 1 else n)
    counts true n = omega arith
    counts false n = omega arith

    only : (x : Bool) → (x || false) ≡ true → x ≡ true
    only x h = grind arith

    here-is : (t j : ℕ) → (t == s && j == i) ≡ true → (t ≡ s) × (j ≡ i)
    here-is t j h = let both = and_parts (t == s) (j == i) h in (eqb-true t s both.0, eqb-true j i both.1)

    failure-fails : (e : Event) (q : Record) → is_failure s i (Got e) ≡ true → has_failed p (Got e ∷ q) s ≡ true
    failure-fails e q h = at0 (λ k. has (is_failure s k) (Got e ∷ q) || nat_le (in_use_limit p s k) (in_use_count p (Got e ∷ q) s k))
        (length (endpoints p s)) i within
        (or_left (has (is_failure s i) (Got e ∷ q)) (nat_le (in_use_limit p s i) (in_use_count p (Got e ∷ q) s i))
        (or_left (is_failure s i (Got e)) (has (is_failure s i) q) h))

    answered : (e : Event) (q : Record) → event_fits p (Got e) q ≡ true → (is_bind_answer s i (Got e) || is_adopt_answer s i (Got e)) ≡ true
        → (is_spent p (Got e ∷ q) s i ≡ true) ⊎ ((is_overtaken p s i e q ≡ true) ⊎ (in_use_count p (Got e ∷ q) s i ≡ in_use_count p q s i + 1))
    answered (Bound t j fd) q fit h =
        let here = only (t == s && j == i) h in
        elim (cases_Bool (has_live p q (address p t j))) [
          | inl live ↦ inr (inl (and_from (t == s && j == i) (has_live p q (address p t j)) here live))
          | inr none ↦ inl (spent-held p (Got (Bound t j fd) ∷ q) s i (held-now p (Got (Bound t j fd)) q s i (rw (here, none) refl)))
        ]
    answered (InUse t j) q fit h =
        let here = only (t == s && j == i) h in
        elim (cases_Bool (has_live p q (address p s i))) [
          | inl live ↦ inr (inl (and_from (t == s && j == i) (has_live p q (address p s i)) here live))
          | inr none ↦ inr (inr (rw (here, none) refl))
        ]
    answered (BindFailed t j) q fit h = inl (spent-failed p (Got (BindFailed t j) ∷ q) s i (failure-fails (BindFailed t j) q (only (t == s && j == i) h)))
    answered (AdoptFailed t j) q fit h = inl (spent-failed p (Got (AdoptFailed t j) ∷ q) s i (failure-fails (AdoptFailed t j) q h))
    answered (Adopted t j) q fit h =
        let both = here-is t j h in
        let asked : is_adopt_open q s i ≡ true = subst (λ u. is_adopt_open q u i ≡ true) both.0
        (subst (λ k. is_adopt_open q t k ≡ true) both.1 (and_parts (not (has_ended p q)) (is_adopt_open q t j) fit).1) in
        inl (spent-held p (Got (Adopted t j) ∷ q) s i (held-now p (Got (Adopted t j)) q s i (rw h (adopt-some p s i q asked))))
    answered _ q fit h = absurd (cc)

    -- what is got
    after-got : (e : Event) (q : Record) → BoundSoFar q → event_fits p (Got e) q ≡ true → (follows_overtaken p q s i ≡ true → is_spent p q s i ≡ true)
        → BoundSoFar (Got e ∷ q)
    after-got e q was fit offers =
        let more = counts (is_in_use s i (Got e) && not (has_live p q (address p s i))) (in_use_count p q s i) in
        let few = was.one_more in
        record {
          at_most = was.at_most;
          one_more = omega (arith, few, more);
          free = λ spent over. elim (cases_Bool (is_bind_answer s i (Got e) || is_adopt_answer s i (Got e))) [
            | inr other ↦ (let parts = or_parts (is_bind_answer s i (Got e)) (is_adopt_answer s i (Got e)) other in
                let unspent = false_from_ne_true (is_spent p q s i)
                (λ before. clash (is_spent p (Got e ∷ q) s i) (spent-grows p (Got e) q s i parts.0 parts.1 before) spent) in
                let fresh = false_from_ne_true (follows_overtaken p q s i) (λ was_over. clash (is_spent p q s i) (offers was_over) unspent) in
                let below = was.free unspent fresh in
                omega (arith, below, more))
            | inl answer ↦ elim (answered e q fit answer) [
              | inl now_spent ↦ absurd (clash (is_spent p (Got e ∷ q) s i) now_spent spent)
              | inr rest ↦ elim rest [
                | inl now_over ↦ absurd (clash (is_overtaken p s i e q) now_over over)
                | inr counted ↦ omega (arith, few, counted)
              ]
            ]
          ];
        }

    bound-so-far : (q : Record) → EachEntry (λ e before. event_fits p e before ≡ true) q → EachEntry (λ e before. ask_due p e before ≡ true) q
        → EachEntry (λ e before. (is_bind s i e && follows_overtaken p before s i) ≡ false) q
        → EachEarlier (λ before. follows_overtaken p before s i ≡ true → is_spent p before s i ≡ true) q → BoundSoFar q
    bound-so-far [] fits due unbound offers = record { at_most = omega arith; one_more = omega arith; free = λ spent over. omega arith }
    bound-so-far (Got e ∷ q) fits due unbound offers = after-got e q (bound-so-far q fits.1 due.1 unbound.1 offers.1) fits.0 offers.0
    bound-so-far (Told a ∷ q) fits due unbound offers = after-told a q (bound-so-far q fits.1 due.1 unbound.1 offers) due.0 unbound.0

-- in a right record each endpoint is bound thirty times at most, and a Unix one once
pub binds-few : (p : Plan) (q : Record) → Right p q → (s i : ℕ) → s < service_count p → i < length (endpoints p s) → times (is_bind s i) q ≤ bind_limit p s i
binds-few p q right s i inside within =
    let known : InStep p q [] =
    record { settled = right.settled.0; once = right.stronger.closes; due = right.asks.in_turn; fits = right.fits; earlier = right.settled.1 } in
    (bound-so-far p s i inside within q right.fits right.asks.in_turn (unbound p s i q [] known) (offered-each p s i inside within q [] known)).at_most
