-- The state after each answer stands for the longer record.
use Rattle.std.proofs.Common.{ℕ, Bool, true, false, ◌||◌, ◌&&◌, ◌==◌, not, inl, inr, List, [], ◌∷◌, ◌≡◌, refl, ap, sym, ◌∙◌, subst, arith, ◌<◌, ◌+◌, length, Option, map, filter, nat_le, if◌then◌else◌, slice_set, slice_index_or}
use Rattle.std.specs.List.{list_any}
use Rattle.std.proofs.lemmas.Bool.{cases_Bool, cases_eq, eq-eqb, eqb-true, ne_eqb, and_parts}
use Rattle.std.proofs.lemmas.List.{get_or-set_same, get_or-set_other}
use Rattle.svc_record.specs.declared.plan.Plan.{Plan}
use Rattle.svc_record.specs.declared.entry.Entry.TheVariants.{Got, Told}
use Rattle.svc_record.specs.declared.event.Event.TheVariants.{InUse, BindFailed, AdoptFailed, Adopted}
use Rattle.svc_record.specs.declared.action.Action.TheVariants.{Bind, Adopt}
use Rattle.svc_record.specs.Record.{Record, now}
use Rattle.svc_record.specs.Plans.{endpoints, address, service_count, same_address}
use Rattle.svc_record.specs.Descriptors.{Descriptor, live_descriptors, has_live}
use Rattle.svc_record.specs.Asks.{is_bind_open, is_adopt_open, last_adopt}
use Rattle.svc_record.specs.Failed.{has_failed, in_use_count, in_use_limit}
use Rattle.svc_record.specs.Endpoints.{held_numbers, in_use_within}
use Rattle.svc_record.specs.Starts.{is_started}
use Rattle.svc_endpoints.specs.declared.states.EndpointStatus.{EndpointStatus}
use Rattle.svc_endpoints.specs.declared.states.EndpointStatus.TheVariants.{Idle, Binding, AddressInUse, Adopting, Holding, AdoptionFailed}
use Rattle.svc_endpoints.specs.declared.states.EndpointState.{EndpointState}
use Rattle.svc_endpoints.specs.EndpointsData.{EndpointsData}
use Rattle.svc_endpoints.specs.EndpointsState.{idle, IsEndpointsSized, StatesStand, StandsAt, last_at, times_in_use_at, failed_at, numbers_with, is_binding, is_adopting, is_adoption_failed, fd_of, held_of}
use Rattle.svc_endpoints.specs.Effects.{put, has_open, not_empty, fail_if, is_last_refusal, refused, bind_failed, adopt_failed, adopted, asked, offered, held_now}
use Rattle.svc_endpoints.proofs.PutLemmas.{last_at-put, times_in_use_at-put}
use Rattle.svc_endpoints.proofs.OneLemmas.{one-bind, one-adopt, one-in_use, one-bind_failed, one-adopted, one-adopt_failed}
use Rattle.svc_endpoints.proofs.FailedLemmas.{failed-bind_failed, failed-adopt_failed, failed-in_use, fails_at}

-- a test of descriptors, and the numbers that pass it
any_filter : (f : Descriptor → Bool) (xs : List Descriptor) → list_any f xs ≡ not_empty (map (λ (x : Descriptor). x.number) (filter f xs))
any_filter f [] = refl
any_filter f (x ∷ xs) = elim (cases_Bool (f x)) [
  | inl y ↦ rw y refl
  | inr n ↦ rw n (any_filter f xs)
]

pub has_open-is : (p : Plan) (d : EndpointsData) (q : Record) → StatesStand p d q → (a : Option (List ℕ)) → has_open d.table a ≡ has_live p q a
has_open-is p d q h a = ap not_empty (h.with_is a) ∙ sym (any_filter (λ (x : Descriptor). same_address x.address a) (live_descriptors p q))

pub failed_at-fail : (p : Plan) (d : EndpointsData) (s : ℕ) (b : Bool) → s < length d.failed → (t : ℕ)
    → failed_at (fail_if b s d) t ≡ (failed_at d t || ((s == t) && b))
failed_at-fail p d s true lt t = elim (cases_eq s t) [
  | inl e ↦ rw (eq-eqb s t e)
      (subst (λ u. slice_index_or (slice_set d.failed s true) u false ≡ (failed_at d u || true)) e
      (get_or-set_same d.failed s true false lt ∙ or_true (failed_at d s)))
  | inr ne ↦ rw (ne_eqb s t ne) (get_or-set_other d.failed s t true false (λ w. ne (sym w)) ∙ or_false (failed_at d t))
]
  where
    or_true : (b : Bool) → true ≡ (b || true)
    or_true b = grind arith

    or_false : (b : Bool) → b ≡ (b || false)
    or_false b = grind arith
failed_at-fail p d s false lt t = grind arith

pub last_at-fail : (b : Bool) (s : ℕ) (d : EndpointsData) (t k : ℕ) → last_at (fail_if b s d) t k ≡ last_at d t k
last_at-fail true s d t k = refl
last_at-fail false s d t k = refl

pub times_in_use_at-fail : (b : Bool) (s : ℕ) (d : EndpointsData) (t k : ℕ) → times_in_use_at (fail_if b s d) t k ≡ times_in_use_at d t k
times_in_use_at-fail true s d t k = refl
times_in_use_at-fail false s d t k = refl

pub table-fail : (b : Bool) (s : ℕ) (d : EndpointsData) → (fail_if b s d).table ≡ d.table
table-fail true s d = refl
table-fail false s d = refl

-- where both tests hold, it is the same endpoint
pub at_here : (P : ℕ → ℕ → Type 0) (s t i k : ℕ) → P s i → (s == t && i == k) ≡ true → P t k
at_here P s t i k h e = let both = and_parts (s == t) (i == k) e in
    subst (λ u. P u k) (eqb-true s t both.0) (subst (λ j. P s j) (eqb-true i k both.1) h)

counted_if : (c l : Bool) (r r' n n' : ℕ) → (c ≡ true → r' ≡ (if not l then n + 1 else n)) → (c ≡ true → n ≡ n') → (c ≡ false → r ≡ n') → (l' : Bool)
    → (c ≡ true → l ≡ l') → (if c then r' else r) ≡ (if c && not l' then n' + 1 else n')
counted_if true true r r' n n' f g h l' k = f refl ∙ g refl ∙ (rw (sym (k refl)) refl)
counted_if true false r r' n n' f g h l' k = f refl ∙ ap (λ x. x + 1) (g refl) ∙ (rw (sym (k refl)) refl)
counted_if false l r r' n n' f g h l' k = h refl

pub same_if : (c : Bool) (r r' n : ℕ) → (c ≡ true → r' ≡ n) → r ≡ n → (if c then r' else r) ≡ n
same_if true r r' n f h = f refl
same_if false r r' n f h = h

-- a lost endpoint is of a failed service
pub lost-step : (p : Plan) (d : EndpointsData) (s i : ℕ) (b : Bool) (x : EndpointState) → s < length d.rows → i < length (slice_index_or d.rows s [])
    → s < length d.failed
    → ((t k : ℕ) → is_adoption_failed (last_at d t k) ≡ true → failed_at d t ≡ true) → (is_adoption_failed x.last ≡ true → b ≡ true)
    → (t k : ℕ) → is_adoption_failed (last_at (fail_if b s (put d s i x)) t k) ≡ true → failed_at (fail_if b s (put d s i x)) t ≡ true
lost-step p d s i b x in_rows in_row in_failed was new t k h =
    failed_at-fail p (put d s i x) s b in_failed t ∙ by_case (s == t) (i == k) x.last (last_at d t k)
    (sym (ap is_adoption_failed (last_at-fail b s (put d s i x) t k ∙ last_at-put d s i x in_rows in_row t k)) ∙ h) new (was t k)
  where
    by_case : (st ik : Bool) (y z : EndpointStatus) → is_adoption_failed (if st && ik then y else z) ≡ true → (is_adoption_failed y ≡ true → b ≡ true)
        → (is_adoption_failed z ≡ true → failed_at d t ≡ true) → (failed_at d t || (st && b)) ≡ true
    by_case true true y z h f g = rw (f h) (or_true (failed_at d t))
      where
        or_true : (c : Bool) → (c || true) ≡ true
        or_true c = grind arith
    by_case true false y z h f g = rw (g h) refl
    by_case false ik y z h f g = rw (g h) refl

module _ (p : Plan) (d : EndpointsData) (q : Record) (s i : ℕ) (sized : IsEndpointsSized p d) (inside : s < service_count p)
    (within : i < length (endpoints p s)) (was : StatesStand p d q) where
  in_rows : s < length d.rows
  in_rows = omega (arith, sized.services)

  in_row : i < length (slice_index_or d.rows s [])
  in_row = omega (arith, sized.each s inside)

  in_failed : s < length d.failed
  in_failed = omega (arith, sized.failed)

  pub stands-asked : failed_at d s ≡ false → is_adopting (last_at d s i) ≡ false → held_of (last_at d s i) ≡ [] → is_started q s ≡ true
      → StatesStand p (asked d s i) (Told (Bind s i) ∷ q)
  stands-asked free a h on = record {
    each = λ t k lt kl. subst (λ x. StandsAt p x (Told (Bind s i) ∷ q) t k) (sym (last_at-put d s i _ in_rows in_row t k))
        (one-bind (last_at d t k) (is_bind_open q t k) (is_adopt_open q t k) (held_numbers p q t k) (last_adopt q t k) (λ u. in_use_within u q t k)
        (is_started q t) (was.each t k lt kl) (s == t && i == k)
        (λ e. (
          at_here (λ u j. is_adopting (last_at d u j) ≡ false) s t i k a e,
          at_here (λ u j. held_of (last_at d u j) ≡ []) s t i k h e,
          at_here
              (λ u j. is_started q u ≡ true) s t i k on e,
        )));
    counts = λ t k lt kl f. times_in_use_at-put d s i _ in_rows in_row t k
        ∙ same_if (s == t && i == k) (times_in_use_at d t k) (times_in_use_at d s i) (in_use_count p q t k)
        (λ e. at_here (λ u j. times_in_use_at d s i ≡ in_use_count p q u j) s t i k (was.counts s i inside within free) e) (was.counts t k lt kl f);
    failed_is = was.failed_is;
    with_is = was.with_is;
    lost = lost-step p d s i false (record { last = Binding; times_in_use = times_in_use_at d s i }) in_rows in_row in_failed was.lost (λ e. absurd (cc));
    closed_came = was.closed_came;
  }

  pub stands-offered : (fd : ℕ) → failed_at d s ≡ false → is_binding (last_at d s i) ≡ false → held_of (last_at d s i) ≡ [] → is_started q s ≡ true
      → StatesStand p (offered d s i fd) (Told (Adopt s i fd) ∷ q)
  stands-offered fd free b h on = record {
    each = λ t k lt kl. subst (λ x. StandsAt p x (Told (Adopt s i fd) ∷ q) t k) (sym (last_at-put d s i _ in_rows in_row t k))
        (one-adopt (last_at d t k) (is_bind_open q t k) (is_adopt_open q t k) (held_numbers p q t k) (last_adopt q t k) (λ u. in_use_within u q t k)
        (is_started q t) (was.each t k lt kl) (s == t && i == k) fd
        (λ e. (
          at_here (λ u j. is_binding (last_at d u j) ≡ false) s t i k b e,
          at_here (λ u j. held_of (last_at d u j) ≡ []) s t i k h e,
          at_here
              (λ u j. is_started q u ≡ true) s t i k on e,
        )));
    counts = λ t k lt kl f. times_in_use_at-put d s i _ in_rows in_row t k
        ∙ same_if (s == t && i == k) (times_in_use_at d t k) (times_in_use_at d s i) (in_use_count p q t k)
        (λ e. at_here (λ u j. times_in_use_at d s i ≡ in_use_count p q u j) s t i k (was.counts s i inside within free) e) (was.counts t k lt kl f);
    failed_is = was.failed_is;
    with_is = was.with_is;
    lost = lost-step p d s i false (record { last = Adopting fd; times_in_use = times_in_use_at d s i }) in_rows in_row in_failed was.lost (λ e. absurd (cc));
    closed_came = was.closed_came;
  }

  pub stands-adopted : is_adopting (last_at d s i) ≡ true → failed_at d s ≡ false → StatesStand p (adopted d s i) (Got (Adopted s i) ∷ q)
  stands-adopted a free = let fd = holds_then (last_at d s i) a in record {
    each = λ t k lt kl. subst (λ x. StandsAt p x (Got (Adopted s i) ∷ q) t k)
        (sym (last_at-put d s i _ in_rows in_row t k ∙ ap (λ y. if s == t && i == k then y else last_at d t k) fd.1))
        (one-adopted (last_at d t k) (is_bind_open q t k) (is_adopt_open q t k) (held_numbers p q t k) (last_adopt q t k) (λ u. in_use_within u q t k)
        (is_started q t) (was.each t k lt kl) (s == t && i == k) fd.0
        (λ e. (at_here (λ u j. is_adopting (last_at d u j) ≡ true) s t i k a e, at_here (λ u j. fd_of (last_at d u j) ≡ fd.0 ∷ []) s t i k fd.2 e)));
    counts = λ t k lt kl f. times_in_use_at-put d s i _ in_rows in_row t k
        ∙ same_if (s == t && i == k) (times_in_use_at d t k) (times_in_use_at d s i) (in_use_count p q t k)
        (λ e. at_here (λ u j. times_in_use_at d s i ≡ in_use_count p q u j) s t i k (was.counts s i inside within free) e) (was.counts t k lt kl f);
    failed_is = was.failed_is;
    with_is = was.with_is;
    lost = lost-step p d s i false (record { last = held_now (last_at d s i); times_in_use = times_in_use_at d s i }) in_rows in_row in_failed was.lost
        (λ e. let no : is_adoption_failed (Holding fd.0) ≡ true = sym (ap is_adoption_failed fd.1) ∙ e in absurd (cc));
    closed_came = was.closed_came;
  }
    where
      holds_then : (x : EndpointStatus) → is_adopting x ≡ true → (fd : ℕ) × (held_now x ≡ Holding fd) × (fd_of x ≡ fd ∷ [])
      holds_then (Adopting fd) e = (fd, refl, refl)
      holds_then Idle e = absurd (cc)
      holds_then Binding e = absurd (cc)
      holds_then (AddressInUse at) e = absurd (cc)
      holds_then (Holding fd) e = absurd (cc)
      holds_then AdoptionFailed e = absurd (cc)

  fail_put : (b : Bool) (x : EndpointState) (t k : ℕ) → last_at (fail_if b s (put d s i x)) t k ≡ (if s == t && i == k then x.last else last_at d t k)
  fail_put b x t k = last_at-fail b s (put d s i x) t k ∙ last_at-put d s i x in_rows in_row t k

  fail_put_times_in_use : (b : Bool) (x : EndpointState) (t k : ℕ)
      → times_in_use_at (fail_if b s (put d s i x)) t k ≡ (if s == t && i == k then x.times_in_use else times_in_use_at d t k)
  fail_put_times_in_use b x t k = times_in_use_at-fail b s (put d s i x) t k ∙ times_in_use_at-put d s i x in_rows in_row t k

  or_still : (a b : Bool) → (a || b) ≡ false → a ≡ false
  or_still a b h = grind arith

  pub stands-bind_failed : is_binding (last_at d s i) ≡ true → failed_at d s ≡ false → StatesStand p (bind_failed d s i) (Got (BindFailed s i) ∷ q)
  stands-bind_failed b free = record {
    each = λ t k lt kl. subst (λ x. StandsAt p x (Got (BindFailed s i) ∷ q) t k) (sym (fail_put true _ t k))
        (one-bind_failed (last_at d t k) (is_bind_open q t k) (is_adopt_open q t k) (held_numbers p q t k) (last_adopt q t k) (λ u. in_use_within u q t k)
        (is_started q t) (was.each t k lt kl) (s == t && i == k)
        (λ e. at_here (λ u j. is_binding (last_at d u j) ≡ true) s t i k b e));
    counts = λ t k lt kl f. fail_put_times_in_use true _ t k ∙ same_if (s == t && i == k) (times_in_use_at d t k) (times_in_use_at d s i) (in_use_count p q t k)
        (λ e. at_here (λ u j. times_in_use_at d s i ≡ in_use_count p q u j) s t i k (was.counts s i inside within free) e)
        (was.counts t k lt kl (or_still (failed_at d t) ((s == t) && true) (sym (failed_at-fail p (put d s i idle) s true in_failed t) ∙ f)));
    failed_is = λ t lt. failed_at-fail p (put d s i idle) s true in_failed t ∙ ap (λ x. x || ((s == t) && true)) (was.failed_is t lt)
        ∙ and_true (has_failed p q t) (s == t) ∙ sym (failed-bind_failed p q s i within t);
    with_is = was.with_is;
    lost = lost-step p d s i true (record { last = Idle; times_in_use = times_in_use_at d s i }) in_rows in_row in_failed was.lost (λ e. refl);
    closed_came = was.closed_came;
  }
    where
      and_true : (a b : Bool) → (a || (b && true)) ≡ (a || b)
      and_true a b = grind arith

  pub stands-adopt_failed : is_adopting (last_at d s i) ≡ true → failed_at d s ≡ false → StatesStand p (adopt_failed d s i) (Got (AdoptFailed s i) ∷ q)
  stands-adopt_failed b free = record {
    each = λ t k lt kl. subst (λ x. StandsAt p x (Got (AdoptFailed s i) ∷ q) t k) (sym (fail_put true _ t k))
        (one-adopt_failed (last_at d t k) (is_bind_open q t k) (is_adopt_open q t k) (held_numbers p q t k) (last_adopt q t k) (λ u. in_use_within u q t k)
        (is_started q t) (was.each t k lt kl) (s == t && i == k)
        (λ e. at_here (λ u j. is_adopting (last_at d u j) ≡ true) s t i k b e));
    counts = λ t k lt kl f. fail_put_times_in_use true _ t k ∙ same_if (s == t && i == k) (times_in_use_at d t k) (times_in_use_at d s i) (in_use_count p q t k)
        (λ e. at_here (λ u j. times_in_use_at d s i ≡ in_use_count p q u j) s t i k (was.counts s i inside within free) e)
        (was.counts t k lt kl (or_still (failed_at d t) ((s == t) && true) (sym (failed_at-fail p (put d s i idle) s true in_failed t) ∙ f)));
    failed_is = λ t lt. failed_at-fail p (put d s i idle) s true in_failed t ∙ ap (λ x. x || ((s == t) && true)) (was.failed_is t lt)
        ∙ and_true (has_failed p q t) (s == t) ∙ sym (failed-adopt_failed p q s i within t);
    with_is = was.with_is;
    lost = lost-step p d s i true (record { last = AdoptionFailed; times_in_use = times_in_use_at d s i }) in_rows in_row in_failed was.lost (λ e. refl);
    closed_came = was.closed_came;
  }
    where
      and_true : (a b : Bool) → (a || (b && true)) ≡ (a || b)
      and_true a b = grind arith

  pub last_refusal-is : failed_at d s ≡ false → is_last_refusal p d s i ≡ fails_at p q s i within
  last_refusal-is free = ap (λ b. not b && nat_le (in_use_limit p s i) (times_in_use_at d s i + 1)) (has_open-is p d q was (address p s i))
      ∙ ap (λ n. not (has_live p q (address p s i)) && nat_le (in_use_limit p s i) (n + 1)) (was.counts s i inside within free)

  not_last : (a st ik last : Bool) → (a || (st && last)) ≡ false → (st && ik) ≡ true → last ≡ false
  not_last a st ik last h e = grind arith

  pub stands-refused : (at : ℕ) → at ≡ now q → is_binding (last_at d s i) ≡ true → failed_at d s ≡ false
      → StatesStand p (refused p d s i at) (Got (InUse s i) ∷ q)
  stands-refused at moment b free = record {
    each = λ t k lt kl. subst (λ x. StandsAt p x (Got (InUse s i) ∷ q) t k)
        (sym (fail_put (is_last_refusal p d s i) _ t k ∙ ap (λ m. if s == t && i == k then AddressInUse m else last_at d t k) moment))
        (one-in_use (last_at d t k) (is_bind_open q t k) (is_adopt_open q t k) (held_numbers p q t k) (last_adopt q t k) (λ u. in_use_within u q t k)
        (is_started q t) (was.each t k lt kl) (s == t && i == k) (now q)
        (λ e. at_here (λ u j. is_binding (last_at d u j) ≡ true) s t i k b e));
    counts = λ t k lt kl f. fail_put_times_in_use (is_last_refusal p d s i) _ t k
        ∙ counted_if (s == t && i == k) (has_open d.table (address p s i)) (times_in_use_at d t k)
        (if is_last_refusal p d s i then times_in_use_at d s i else
        (if not (has_open d.table (address p s i)) then times_in_use_at d s i + 1 else times_in_use_at d s i)) (times_in_use_at d s i)
        (in_use_count p q t k)
        (λ e. rw (not_last (failed_at d t) (s == t) (i == k) (is_last_refusal p d s i)
        (sym (failed_at-fail p (put d s i _) s (is_last_refusal p d s i) in_failed t) ∙ f) e) refl)
        (λ e. at_here (λ u j. times_in_use_at d s i ≡ in_use_count p q u j) s t i k (was.counts s i inside within free) e)
        (λ e. was.counts t k lt kl
        (or_still (failed_at d t) ((s == t) && is_last_refusal p d s i) (sym (failed_at-fail p (put d s i _) s (is_last_refusal p d s i) in_failed t) ∙ f)))
        (has_live p q (address p t k))
        (λ e. at_here (λ u j. has_open d.table (address p s i) ≡ has_live p q (address p u j)) s t i k (has_open-is p d q was (address p s i)) e);
    failed_is = λ t lt. failed_at-fail p (put d s i _) s (is_last_refusal p d s i) in_failed t
        ∙ ap (λ x. x || ((s == t) && is_last_refusal p d s i)) (was.failed_is t lt) ∙ ap (λ x. has_failed p q t || ((s == t) && x)) (last_refusal-is free)
        ∙ sym (failed-in_use p q s i within t);
    with_is = λ a. ap (λ tb. numbers_with tb a) (table-fail (is_last_refusal p d s i) s (put d s i _)) ∙ was.with_is a;
    lost = lost-step p d s i (is_last_refusal p d s i) _ in_rows in_row in_failed was.lost (λ e. absurd (cc));
    closed_came = was.closed_came;
  }
