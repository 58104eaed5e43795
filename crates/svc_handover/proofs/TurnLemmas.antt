-- When an endpoint is asked for: its service is at work, the earlier endpoints are held, and it isn't. So what is asked for or held is of a service that was
-- started.
use Rattle.std.proofs.Common.{ℕ, Bool, true, false, ◌&&◌, not, ◌==◌, ◌<◌, ◌⊎◌, List, [], ◌∷◌, ◌++◌, ◌≡◌, refl, subst, arith, inl, inr, length, nat_lt, if◌then◌else◌}
use Rattle.std.specs.List.{list_any, list_all, range_with_len}
use Rattle.std.proofs.lemmas.Bool.{and_parts, cases_Bool, or_right, eqb-true, not-true, lt-ltb}
use Rattle.svc_record.specs.declared.plan.Plan.{Plan}
use Rattle.svc_record.specs.declared.action.Action.TheVariants.{Bind, Adopt}
use Rattle.svc_record.specs.declared.entry.Entry.{Entry}
use Rattle.svc_record.specs.declared.entry.Entry.TheVariants.{Got, Told}
use Rattle.svc_record.specs.declared.event.Event.TheVariants.{Bound, Adopted}
use Rattle.svc_record.specs.Record.{Record, EachEntry}
use Rattle.svc_record.specs.Plans.{is_endpoint, address, any_with}
use Rattle.svc_record.specs.Descriptors.{has_live, live_numbers_with}
use Rattle.svc_record.specs.Asks.{is_open, is_bind, is_bind_answer, is_bind_open, is_adopt, is_adopt_answer, is_adopt_open, is_ask_open, last_adopt}
use Rattle.svc_record.specs.AskRules.{has_turn, ask_due}
use Rattle.svc_record.specs.Failed.{has_failed}
use Rattle.svc_record.specs.Starts.{is_start, is_started}
use Rattle.svc_record.specs.Endpoints.{held_numbers_of, held_numbers, is_held, is_busy, is_at_work}
use Rattle.svc_record.specs.Ends.{has_ended}
use Rattle.svc_record.specs.Fits.{event_fits, fits_row, is_new}
use Rattle.svc_endpoints.proofs.RangeLemmas.{fails0}

-- it is the endpoint's turn
pub record HasTurn (p : Plan) (q : Record) (s i : ℕ) : Type 0 where
  pub started : is_started q s ≡ true
  pub free : has_failed p q s ≡ false
  pub earlier : (k : ℕ) → k < i → is_held p q s k ≡ true
  pub unheld : is_held p q s i ≡ false
  pub unasked : is_ask_open q s i ≡ false

all-at : (f : ℕ → Bool) (n k : ℕ) → list_all f (range_with_len 0 n) ≡ true → k < n → f k ≡ true
all-at f n k h lt = elim (cases_Bool (f k)) [
  | inl hit ↦ hit
  | inr off ↦ absurd (let none = fails0 f n k lt off in cc)
]

turn-parts : (p : Plan) (q : Record) (s i : ℕ) → has_turn p q s i ≡ true → HasTurn p q s i
turn-parts p q s i h =
    let outer = and_parts ((is_endpoint p s i && is_at_work p q s) && list_all (is_held p q s) (range_with_len 0 i))
    (not (is_held p q s i) && not (is_ask_open q s i)) h in
    let front = and_parts (is_endpoint p s i && is_at_work p q s) (list_all (is_held p q s) (range_with_len 0 i)) outer.0 in
    let work = and_parts (is_started q s) (not (has_failed p q s)) (and_parts (is_endpoint p s i) (is_at_work p q s) front.0).1 in
    let back = and_parts (not (is_held p q s i)) (not (is_ask_open q s i)) outer.1 in
    record {
      started = work.0;
      free = not-true (has_failed p q s) work.1;
      earlier = λ k lt. all-at (is_held p q s) i k front.1 lt;
      unheld = not-true (is_held p q s i) back.0;
      unasked = not-true (is_ask_open q s i) back.1;
    }

-- a bind comes in its turn, where no live descriptor has the address
pub bind-turn : (p : Plan) (e : Entry) (q : Record) (s i : ℕ) → is_bind s i e ≡ true → ask_due p e q ≡ true
    → HasTurn p q s i × (has_live p q (address p s i) ≡ false)
bind-turn p (Told (Bind t j)) q s i here due =
    let both = and_parts (t == s) (j == i) here in
    let same : ask_due p (Told (Bind s i)) q ≡ true = subst (λ u. ask_due p (Told (Bind u i)) q ≡ true) (eqb-true t s both.0)
    (subst (λ k. ask_due p (Told (Bind t k)) q ≡ true) (eqb-true j i both.1) due) in
    let outer = and_parts (has_turn p q s i && not (has_live p q (address p s i))) (not (any_with p (address p s i) (is_busy p q))) same in
    let inner = and_parts (has_turn p q s i) (not (has_live p q (address p s i))) outer.0 in
    (turn-parts p q s i inner.0, not-true (has_live p q (address p s i)) inner.1)
bind-turn p _ q s i here due = absurd (cc)

-- and so does an adoption
pub adopt-turn : (p : Plan) (e : Entry) (q : Record) (s i : ℕ) → is_adopt s i e ≡ true → ask_due p e q ≡ true → HasTurn p q s i
adopt-turn p (Told (Adopt t j fd)) q s i here due =
    let both = and_parts (t == s) (j == i) here in
    let same : ask_due p (Told (Adopt s i fd)) q ≡ true = subst (λ u. ask_due p (Told (Adopt u i fd)) q ≡ true) (eqb-true t s both.0)
    (subst (λ k. ask_due p (Told (Adopt t k fd)) q ≡ true) (eqb-true j i both.1) due) in
    turn-parts p q s i (and_parts (has_turn p q s i) (list_any (λ n. n == fd) (live_numbers_with p q (address p s i))) same).0
adopt-turn p _ q s i here due = absurd (cc)

-- what held when an ask of a form was told, and stays, holds while it is open
since-asked : (P : Record → Type 0) (ask answer : Entry → Bool) (due : Entry → Record → Type 0) → ((e : Entry) (q : Record) → ask e ≡ true → due e q → P q)
    → ((e : Entry) (q : Record) → P q → P (e ∷ q))
    → (q : Record) → EachEntry due q → is_open ask answer q ≡ true → P q
since-asked P ask answer due at stays [] dues h = absurd (cc)
since-asked P ask answer due at stays (e ∷ q) dues h = elim (cases_Bool (ask e)) [
  | inl here ↦ stays e q (at e q here dues.0)
  | inr past ↦ elim (cases_Bool (answer e)) [
    | inl answered ↦ absurd (let none = rw (past, answered) at h in cc)
    | inr other ↦ stays e q (since-asked P ask answer due at stays q dues.1 (rw (past, other) at h))
  ]
]

-- what is held stays held
some-of : (xs ys : List ℕ) → nat_lt 0 (length (xs ++ ys)) ≡ true → (nat_lt 0 (length xs) ≡ true) ⊎ (nat_lt 0 (length ys) ≡ true)
some-of [] ys h = inr h
some-of (x ∷ xs) ys h = inl (lt-ltb 0 (length (x ∷ xs)) (omega arith))

some-later : (xs ys : List ℕ) → nat_lt 0 (length ys) ≡ true → nat_lt 0 (length (xs ++ ys)) ≡ true
some-later [] ys h = h
some-later (x ∷ xs) ys h = lt-ltb 0 (length (x ∷ (xs ++ ys))) (omega arith)

some-first : (xs ys : List ℕ) → nat_lt 0 (length xs) ≡ true → nat_lt 0 (length (xs ++ ys)) ≡ true
some-first [] ys h = absurd (cc)
some-first (x ∷ xs) ys h = lt-ltb 0 (length (x ∷ (xs ++ ys))) (omega arith)

pub held-grows : (p : Plan) (e : Entry) (q : Record) (s i : ℕ) → is_held p q s i ≡ true → is_held p (e ∷ q) s i ≡ true
held-grows p e q s i h = some-later (held_numbers_of p s i e q) (held_numbers p q s i) h

pub held-now : (p : Plan) (e : Entry) (q : Record) (s i : ℕ) → nat_lt 0 (length (held_numbers_of p s i e q)) ≡ true → is_held p (e ∷ q) s i ≡ true
held-now p e q s i h = some-first (held_numbers_of p s i e q) (held_numbers p q s i) h

unasked-open : (a b o : Bool) → a ≡ false → (if a then true else (if b then false else o)) ≡ true → o ≡ true
unasked-open true b o e h = absurd (cc)
unasked-open false true o e h = absurd (cc)
unasked-open false false o e h = h

module _ (p : Plan) (s i : ℕ) where
  -- the service of an endpoint that is asked for was started
  pub bind-started : (q : Record) → EachEntry (λ e before. ask_due p e before ≡ true) q → is_bind_open q s i ≡ true → is_started q s ≡ true
  bind-started = since-asked (λ q. is_started q s ≡ true) (is_bind s i) (is_bind_answer s i) (λ e before. ask_due p e before ≡ true)
      (λ e q here due. (bind-turn p e q s i here due).0.started) (λ e q h. or_right (is_start s e) (is_started q s) h)

  adopt-started : (q : Record) → EachEntry (λ e before. ask_due p e before ≡ true) q → is_adopt_open q s i ≡ true → is_started q s ≡ true
  adopt-started = since-asked (λ q. is_started q s ≡ true) (is_adopt s i) (is_adopt_answer s i) (λ e before. ask_due p e before ≡ true)
      (λ e q here due. (adopt-turn p e q s i here due).started) (λ e q h. or_right (is_start s e) (is_started q s) h)

  -- the earlier endpoints of one that is bound are held
  pub bind-earlier : (k : ℕ) → k < i → (q : Record) → EachEntry (λ e before. ask_due p e before ≡ true) q → is_bind_open q s i ≡ true → is_held p q s k ≡ true
  bind-earlier k lt = since-asked (λ q. is_held p q s k ≡ true) (is_bind s i) (is_bind_answer s i) (λ e before. ask_due p e before ≡ true)
      (λ e q here due. (bind-turn p e q s i here due).0.earlier k lt) (λ e q h. held-grows p e q s k h)

  -- and an open adoption has a descriptor
  pub adopt-some : (q : Record) → is_adopt_open q s i ≡ true → nat_lt 0 (length (last_adopt q s i)) ≡ true
  adopt-some [] h = absurd (cc)
  adopt-some (Told (Adopt t j fd) ∷ q) h = elim (cases_Bool (t == s && j == i)) [
    | inl here ↦ rw here refl
    | inr past ↦ rw past (adopt-some q (rw past at h))
  ]
  adopt-some (e ∷ q) h = adopt-some q (unasked-open (is_adopt s i e) (is_adopt_answer s i e) (is_adopt_open q s i) refl h)

-- the service of an endpoint that is held was started
pub held-started : (p : Plan) (q : Record) (s i : ℕ) → EachEntry (λ e before. event_fits p e before ≡ true) q
    → EachEntry (λ e before. ask_due p e before ≡ true) q → is_held p q s i ≡ true → is_started q s ≡ true
held-started p [] s i fits due h = absurd (cc)
held-started p (e ∷ q) s i fits due h = or_right (is_start s e) (is_started q s) (elim (some-of (held_numbers_of p s i e q) (held_numbers p q s i) h) [
  | inl now ↦ began e fits.0 now
  | inr earlier ↦ held-started p q s i fits.1 due.1 earlier
])
  where
    hit : (b : Bool) (xs : List ℕ) → nat_lt 0 (length (if b then xs else [])) ≡ true → b ≡ true
    hit true xs k = refl
    hit false xs k = absurd (cc)

    began : (e : Entry) → event_fits p e q ≡ true → nat_lt 0 (length (held_numbers_of p s i e q)) ≡ true → is_started q s ≡ true
    began (Got (Bound t j fd)) fit k =
        let here = and_parts (t == s && j == i) (not (has_live p q (address p t j)))
        (hit ((t == s && j == i) && not (has_live p q (address p t j))) (fd ∷ []) k) in
        let asked = and_parts (is_bind_open q t j) (is_new q fd) (and_parts (not (has_ended p q)) (fits_row p q (Bound t j fd)) fit).1 in
        subst (λ u. is_started q u ≡ true) (eqb-true t s (and_parts (t == s) (j == i) here.0).0) (bind-started p t j q due.1 asked.0)
    began (Got (Adopted t j)) fit k =
        let here = hit (t == s && j == i) (last_adopt q s i) k in
        let asked = (and_parts (not (has_ended p q)) (is_adopt_open q t j) fit).1 in
        subst (λ u. is_started q u ≡ true) (eqb-true t s (and_parts (t == s) (j == i) here).0) (adopt-started p t j q due.1 asked)
    began _ fit k = absurd (cc)
