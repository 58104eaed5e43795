-- The state after a Bound stands for the longer record.
use Rattle.std.proofs.Common.{ℕ, Bool, true, false, ◌||◌, ◌&&◌, ◌==◌, not, inl, inr, List, [], ◌∷◌, ◌≡◌, refl, ap, sym, ◌∙◌, subst, arith, ◌<◌, ◌≤◌, length, map, filter, Option, Some, if◌then◌else◌, slice_index_or}
use Rattle.std.proofs.lemmas.Bool.{cases_Bool, or_cases, eqb-true}
use Rattle.svc_record.specs.declared.plan.Plan.{Plan}
use Rattle.svc_record.specs.declared.entry.Entry.TheVariants.{Got, Told}
use Rattle.svc_record.specs.declared.event.Event.TheVariants.{Bound}
use Rattle.svc_record.specs.declared.action.Action.TheVariants.{Close}
use Rattle.svc_record.specs.Record.{Record, has}
use Rattle.svc_record.specs.Plans.{endpoints, address, service_count, same_address}
use Rattle.svc_record.specs.Descriptors.{Descriptor, has_live, brings}
use Rattle.svc_record.specs.Asks.{is_bind_open, is_adopt_open, last_adopt}
use Rattle.svc_record.specs.Failed.{in_use_count}
use Rattle.svc_record.specs.Endpoints.{held_numbers, in_use_within}
use Rattle.svc_record.specs.Starts.{is_started}
use Rattle.svc_record.specs.Fits.{is_new}
use Rattle.svc_endpoints.specs.declared.states.EndpointStatus.{EndpointStatus}
use Rattle.svc_endpoints.specs.declared.states.EndpointStatus.TheVariants.{Idle, Holding}
use Rattle.svc_endpoints.specs.declared.table.Open.{Open}
use Rattle.svc_endpoints.specs.EndpointsData.{EndpointsData}
use Rattle.svc_endpoints.specs.EndpointsState.{IsEndpointsSized, StatesKept, StatesStand, StandsAt, last_at, times_in_use_at, failed_at, numbers_with, is_binding, has_fd, fd_of}
use Rattle.svc_base.specs.NumberSets.{is_in}
use Rattle.svc_endpoints.specs.Effects.{has_open, not_empty, with_number, with_open, bound, bound_again}
use Rattle.svc_endpoints.proofs.PutLemmas.{last_at-put, times_in_use_at-put}
use Rattle.svc_endpoints.proofs.OneLemmas.{one-bound, binding_asks}
use Rattle.svc_endpoints.proofs.StatesLemmas.{at_here, same_if, has_open-is, lost-step}
use Rattle.svc_endpoints.proofs.LiveLemmas.{live-doubled, live_with-bound, same_eq, same_self, numbers_with-put}
use Rattle.svc_endpoints.proofs.KeptLemmas.{kept-put, asking_not_holding}

-- the table doesn't have the number
abbrev pub IsFresh : List Open → ℕ → Type 0
IsFresh table fd = (a : Option (List ℕ)) → is_in fd (numbers_with table a) ≡ false

closed_new : (here there : Bool) → not ((here || false) || there) ≡ true → (here ≡ false) × (not there ≡ true)
closed_new true there h = absurd (cc)
closed_new false there h = (refl, h)

pub empty_nil : (xs : List ℕ) → not_empty xs ≡ false → xs ≡ []
empty_nil [] h = refl
empty_nil (x ∷ xs) h = absurd (cc)

fd_not_nil : (x : EndpointStatus) → has_fd x ≡ true → fd_of x ≡ [] → ⊥
fd_not_nil (Holding fd) h e = cc
fd_not_nil Idle h e = absurd (cc)
fd_not_nil _ h e = cc

module _ (p : Plan) (d : EndpointsData) (s i fd : ℕ) (sized : IsEndpointsSized p d) (inside : s < service_count p) (within : i < length (endpoints p s))
    (binds : is_binding (last_at d s i) ≡ true) (free : failed_at d s ≡ false) where
  in_rows : s < length d.rows
  in_rows = omega (arith, sized.services)

  in_row : i < length (slice_index_or d.rows s [])
  in_row = omega (arith, sized.each s inside)

  in_failed : s < length d.failed
  in_failed = omega (arith, sized.failed)

  pub stands-again : (q : Record) → is_new q fd ≡ true → has_open d.table (address p s i) ≡ true → StatesStand p d q
      → StatesStand p (bound_again d s i fd) (Told (Close fd) ∷ Got (Bound s i fd) ∷ q)
  stands-again q new taken was = record {
    each = λ t k lt kl. subst (λ x. StandsAt p x (Told (Close fd) ∷ Got (Bound s i fd) ∷ q) t k)
        (sym (last_at-put (with_number fd d) s i (record { last = Idle; times_in_use = times_in_use_at d s i }) in_rows in_row t k
        ∙ ap (λ b. if s == t && i == k then (if b then Idle else Holding fd) else last_at d t k) (sym taken ∙ has_open-is p d q was (address p s i))))
        (one-bound (last_at d t k) (is_bind_open q t k) (is_adopt_open q t k) (held_numbers p q t k) (last_adopt q t k) (λ u. in_use_within u q t k)
        (is_started q t) (was.each t k lt kl) (s == t && i == k) (has_live p q (address p s i)) fd
        (λ e. at_here (λ u j. is_binding (last_at d u j) ≡ true) s t i k binds e));
    counts = λ t k lt kl f. times_in_use_at-put (with_number fd d) s i _ in_rows in_row t k
        ∙ same_if (s == t && i == k) (times_in_use_at d t k) (times_in_use_at d s i) (in_use_count p q t k)
        (λ e. at_here (λ u j. times_in_use_at d s i ≡ in_use_count p q u j) s t i k (was.counts s i inside within free) e) (was.counts t k lt kl f);
    failed_is = was.failed_is;
    lost = lost-step p (with_number fd d) s i false (record { last = Idle; times_in_use = times_in_use_at d s i }) in_rows in_row in_failed was.lost
        (λ e. absurd (cc));
    with_is = λ a. was.with_is a ∙ ap (λ w. numbers_of w a) (sym (live-doubled p q s i fd new));
    closed_came = λ g h. let parts = closed_new (fd == g) (has (brings g) q) h in rw parts.0 (was.closed_came g parts.1);
  }
    where
      numbers_of : List Descriptor → Option (List ℕ) → List ℕ
      numbers_of w a = map (λ (x : Descriptor). x.number) (filter (λ (x : Descriptor). same_address x.address a) w)

  -- the table with the new descriptor, by addresses
  pub more_with : (text : List ℕ) → Some text ≡ address p s i → has_open d.table (address p s i) ≡ false → (a : Option (List ℕ))
      → numbers_with (with_open fd text d).table a ≡ (if same_address (address p s i) a then fd ∷ [] else numbers_with d.table a)
  more_with text is none a = subst (λ b. numbers_with (with_open fd text d).table a ≡ (if same_address b a then fd ∷ [] else numbers_with d.table a)) is
      (numbers_with-put (record { fd = fd; address = Some text }) d.table
      (subst (λ b. numbers_with d.table b ≡ []) (sym is) (empty_nil (numbers_with d.table (address p s i)) none)) a)

  pub stands-bound : (q : Record) (text : List ℕ) → is_new q fd ≡ true → Some text ≡ address p s i → has_open d.table (address p s i) ≡ false
      → StatesStand p d q → StatesStand p (bound d s i fd text) (Got (Bound s i fd) ∷ q)
  stands-bound q text new is none was = record {
    each = λ t k lt kl. subst (λ x. StandsAt p x (Got (Bound s i fd) ∷ q) t k)
        (sym (last_at-put (with_open fd text d) s i (record { last = Holding fd; times_in_use = times_in_use_at d s i }) in_rows in_row t k
        ∙ ap (λ b. if s == t && i == k then (if b then Idle else Holding fd) else last_at d t k) (sym none ∙ has_open-is p d q was (address p s i))))
        (one-bound (last_at d t k) (is_bind_open q t k) (is_adopt_open q t k) (held_numbers p q t k) (last_adopt q t k) (λ u. in_use_within u q t k)
        (is_started q t) (was.each t k lt kl) (s == t && i == k) (has_live p q (address p s i)) fd
        (λ e. at_here (λ u j. is_binding (last_at d u j) ≡ true) s t i k binds e));
    counts = λ t k lt kl f. times_in_use_at-put (with_open fd text d) s i _ in_rows in_row t k
        ∙ same_if (s == t && i == k) (times_in_use_at d t k) (times_in_use_at d s i) (in_use_count p q t k)
        (λ e. at_here (λ u j. times_in_use_at d s i ≡ in_use_count p q u j) s t i k (was.counts s i inside within free) e) (was.counts t k lt kl f);
    failed_is = was.failed_is;
    lost = lost-step p (with_open fd text d) s i false (record { last = Holding fd; times_in_use = times_in_use_at d s i }) in_rows in_row in_failed was.lost
        (λ e. absurd (cc));
    with_is = λ a. more_with text is none a ∙ ap (λ w. if same_address (address p s i) a then fd ∷ [] else w) (was.with_is a)
        ∙ sym (live_with-bound p q s i fd new (was.closed_came fd new)
        (sym (was.with_is (address p s i)) ∙ empty_nil (numbers_with d.table (address p s i)) none) a);
    closed_came = λ g h. was.closed_came g (closed_new (fd == g) (has (brings g) q) h).1;
  }

  kept-number : StatesKept p d → StatesKept p (with_number fd d)
  kept-number was = record { asking_free = was.asking_free; turn = was.turn; live = was.live; one = was.one; distinct = was.distinct }

  pub kept-again : StatesKept p d → StatesKept p (bound_again d s i fd)
  kept-again was =
      kept-put p (with_number fd d) s i in_rows in_row (kept-number was) (record { last = Idle; times_in_use = times_in_use_at d s i })
      (asking_not_holding (last_at d s i) (binding_asks (last_at d s i) binds)) (λ e. absurd (cc)) (λ early f e. absurd (cc))

  -- the table has one more descriptor, of an address that it had none of
  kept-more : (text : List ℕ) → Some text ≡ address p s i → has_open d.table (address p s i) ≡ false → IsFresh d.table fd
      → StatesKept p d → StatesKept p (with_open fd text d)
  kept-more text is none fresh was = let more = more_with text is none in record {
    asking_free = was.asking_free;
    turn = was.turn;
    live = λ early t k f h. more (address p t k) ∙ elim (cases_Bool (same_address (address p s i) (address p t k))) [
      | inl y ↦ absurd
          (fd_not_nil (last_at d t k) h
          (sym (was.live early t k f h)
          ∙ subst (λ a. numbers_with d.table a ≡ []) (same_eq (address p s i) (address p t k) y)
          (empty_nil (numbers_with d.table (address p s i)) none)))
      | inr n ↦ rw n (was.live early t k f h)
    ];
    one = λ a. subst (λ (w : List ℕ). length w ≤ 1) (sym (more a)) (short (same_address (address p s i) a) (numbers_with d.table a) (was.one a));
    distinct = λ a b n h g. apart a b n (same_address (address p s i) a) (same_address (address p s i) b) refl refl (ap (is_in n) (sym (more a)) ∙ h)
        (ap (is_in n) (sym (more b)) ∙ g);
  }
    where
      not_fresh : (n : ℕ) (a : Option (List ℕ)) → is_in n (fd ∷ []) ≡ true → is_in n (numbers_with d.table a) ≡ true → ⊥
      not_fresh n a h g = elim (or_cases (fd == n) false h) [
        | inl e ↦ (let no : is_in n (numbers_with d.table a) ≡ false = subst (λ m. is_in m (numbers_with d.table a) ≡ false) (eqb-true fd n e) (fresh a) in cc)
        | inr m ↦ cc
      ]

      apart : (a b : Option (List ℕ)) (n : ℕ) (x y : Bool) → same_address (address p s i) a ≡ x → same_address (address p s i) b ≡ y
          → is_in n (if x then fd ∷ [] else numbers_with d.table a) ≡ true → is_in n (if y then fd ∷ [] else numbers_with d.table b) ≡ true → a ≡ b
      apart a b n true true e f h g = sym (same_eq (address p s i) a e) ∙ same_eq (address p s i) b f
      apart a b n true false e f h g = absurd (not_fresh n b h g)
      apart a b n false true e f h g = absurd (not_fresh n a g h)
      apart a b n false false e f h g = was.distinct a b n h g

      short : (b : Bool) (w : List ℕ) → length w ≤ 1 → length (if b then fd ∷ [] else w) ≤ 1
      short true w h = omega arith
      short false w h = h

  same_this : (text : List ℕ) → Some text ≡ address p s i → same_address (address p s i) (address p s i) ≡ true
  same_this text is = subst (λ a. same_address a a ≡ true) is (same_self text)

  pub kept-bound : (text : List ℕ) → Some text ≡ address p s i → has_open d.table (address p s i) ≡ false → IsFresh d.table fd
      → StatesKept p d → StatesKept p (bound d s i fd text)
  kept-bound text is none fresh was =
      kept-put p (with_open fd text d) s i in_rows in_row (kept-more text is none fresh was)
      (record { last = Holding fd; times_in_use = times_in_use_at d s i })
      (asking_not_holding (last_at d s i) (binding_asks (last_at d s i) binds)) (λ e. absurd (cc))
      (λ early f e. more_with text is none (address p s i) ∙ (rw (same_this text is) refl))
