-- What the states keep among themselves.
use Rattle.std.proofs.Common.{ℕ, Bool, true, false, ◌||◌, ◌&&◌, ◌==◌, ◌⊎◌, inl, inr, [], ◌∷◌, ◌≡◌, ◌≢◌, refl, ap, sym, ◌∙◌, subst, arith, ◌<◌, length, slice_index_or}
use Rattle.std.proofs.lemmas.Bool.{cases_Bool, cases_eq, cases_lt, eq-eqb, ne_eqb}
use Rattle.svc_record.specs.declared.plan.Plan.{Plan}
use Rattle.svc_record.specs.Plans.{endpoints, address, service_count}
use Rattle.svc_endpoints.specs.declared.states.EndpointStatus.{EndpointStatus}
use Rattle.svc_endpoints.specs.declared.states.EndpointStatus.TheVariants.{Idle, Binding, AddressInUse, Adopting, Holding, AdoptionFailed}
use Rattle.svc_endpoints.specs.declared.states.EndpointState.{EndpointState}
use Rattle.svc_endpoints.specs.EndpointsData.{EndpointsData}
use Rattle.svc_endpoints.specs.EndpointsState.{IsEndpointsSized, StatesKept, last_at, times_in_use_at, failed_at, numbers_with, is_binding, is_adopting, is_asking, is_holding, has_fd, fd_of}
use Rattle.svc_endpoints.specs.Effects.{put, fail_if, refused, bind_failed, adopt_failed, adopted, asked, offered, held_now, is_last_refusal}
use Rattle.svc_endpoints.proofs.PutLemmas.{last_at-put}
use Rattle.svc_endpoints.proofs.StatesLemmas.{failed_at-fail}
use Rattle.svc_endpoints.proofs.OneLemmas.{binding_asks}

pub asking_not_holding : (x : EndpointStatus) → is_asking x ≡ true → is_holding x ≡ false
asking_not_holding Binding e = refl
asking_not_holding Idle e = refl
asking_not_holding (AddressInUse at) e = refl
asking_not_holding (Adopting fd) e = refl
asking_not_holding (Holding fd) e = absurd (cc)
asking_not_holding AdoptionFailed e = refl

pub holding_not_asking : (x : EndpointStatus) → is_holding x ≡ true → is_asking x ≡ false
holding_not_asking (Holding fd) e = refl
holding_not_asking Idle e = refl
holding_not_asking Binding e = absurd (cc)
holding_not_asking (AddressInUse at) e = refl
holding_not_asking (Adopting fd) e = absurd (cc)
holding_not_asking AdoptionFailed e = refl

-- a service has one open ask at most
pub only_ask : (p : Plan) (d : EndpointsData) → StatesKept p d → (s i k : ℕ) → is_asking (last_at d s i) ≡ true → k ≢ i → is_asking (last_at d s k) ≡ false
only_ask p d kept s i k asks ne = elim (cases_lt k i) [
  | inl below ↦ holding_not_asking (last_at d s k) (kept.turn s i k asks below)
  | inr above ↦ elim (cases_Bool (is_asking (last_at d s k))) [
    | inl y ↦ (let held : is_holding (last_at d s i) ≡ true = kept.turn s k i y (omega arith) in
        let free = asking_not_holding (last_at d s i) asks in absurd (cc))
    | inr n ↦ n
  ]
]

module _ (p : Plan) (d : EndpointsData) (s i : ℕ) (inside : s < length d.rows) (within : i < length (slice_index_or d.rows s [])) (was : StatesKept p d)
    (x : EndpointState) where
  at_same : last_at (put d s i x) s i ≡ x.last
  at_same = last_at-put d s i x inside within s i ∙ (rw (eq-eqb s s refl, eq-eqb i i refl) refl)

  at_other : (t k : ℕ) → ((t ≡ s) → (k ≡ i) → ⊥) → last_at (put d s i x) t k ≡ last_at d t k
  at_other t k ne = last_at-put d s i x inside within t k ∙ elim (cases_eq s t) [
    | inl e ↦ rw (ne_eqb i k (λ f. ne (sym e) (sym f)), eq-eqb s t e) refl
    | inr nf ↦ rw (ne_eqb s t nf) refl
  ]

  place : (t k : ℕ) → ((t ≡ s) × (k ≡ i)) ⊎ (((t ≡ s) → (k ≡ i) → ⊥))
  place t k = elim (cases_eq t s) [
    | inl e ↦ elim (cases_eq k i) [ inl f ↦ inl (e, f) | inr n ↦ inr (λ a b. n b) ]
    | inr n ↦ inr (λ a b. n a)
  ]

  at_same_of : (t k : ℕ) → (t ≡ s) × (k ≡ i) → last_at (put d s i x) t k ≡ x.last
  at_same_of t k e = rw (e.0, e.1) at_same

  pub kept-put : is_holding (last_at d s i) ≡ false
      → (is_asking x.last ≡ true → (failed_at d s ≡ false) × ((k : ℕ) → k < i → is_holding (last_at d s k) ≡ true))
      → (d.loops ≡ [] → failed_at d s ≡ false → has_fd x.last ≡ true → numbers_with d.table (address p s i) ≡ fd_of x.last)
      → StatesKept p (put d s i x)
  kept-put was_free asks has = record {
    asking_free = λ t k h. elim (place t k) [
      | inl e ↦ rw e.0 (asks (sym (ap is_asking (at_same_of t k e)) ∙ h)).0
      | inr ne ↦ was.asking_free t k (sym (ap is_asking (at_other t k ne)) ∙ h)
    ];
    turn = λ t k j h lt. elim (place t j) [
      | inl e ↦ elim (place t k) [
        | inl f ↦ absurd (let a = e.1 in let b = f.1 in omega arith)
        | inr nf ↦ absurd
            (let held : is_holding (last_at d s i) ≡ true =
            subst (λ (m : ℕ). is_holding (last_at d s m) ≡ true) e.1
            (subst (λ (u : ℕ). is_holding (last_at d u j) ≡ true) e.0 (was.turn t k j (sym (ap is_asking (at_other t k nf)) ∙ h) lt)) in cc)
      ]
      | inr ne ↦ ap is_holding (at_other t j ne) ∙ elim (place t k) [
        | inl f ↦ subst (λ (u : ℕ). is_holding (last_at d u j) ≡ true) (sym f.0)
            ((asks (sym (ap is_asking (at_same_of t k f)) ∙ h)).1 j (let b = f.1 in omega arith))
        | inr nf ↦ was.turn t k j (sym (ap is_asking (at_other t k nf)) ∙ h) lt
      ]
    ];
    live = λ early t k free h. elim (place t k) [
      | inl e ↦ subst (λ (u : ℕ). numbers_with d.table (address p u k) ≡ fd_of (last_at (put d s i x) t k)) (sym e.0)
          (subst (λ (j : ℕ). numbers_with d.table (address p s j) ≡ fd_of (last_at (put d s i x) t k)) (sym e.1)
          (has early (subst (λ (u : ℕ). failed_at d u ≡ false) e.0 free) (sym (ap has_fd (at_same_of t k e)) ∙ h) ∙ sym (ap fd_of (at_same_of t k e))))
      | inr ne ↦ was.live early t k free (sym (ap has_fd (at_other t k ne)) ∙ h) ∙ sym (ap fd_of (at_other t k ne))
    ];
    one = was.one;
    distinct = was.distinct;
  }

  -- no ask of the service is left, where the endpoint whose ask was open has another state
  pub none_asks : is_asking (last_at d s i) ≡ true → is_asking x.last ≡ false → (k : ℕ) → is_asking (last_at (put d s i x) s k) ≡ false
  none_asks asks done k = elim (cases_eq k i) [
    | inl e ↦ ap is_asking (at_same_of s k (refl, e)) ∙ done
    | inr ne ↦ ap is_asking (at_other s k (λ a b. ne b)) ∙ only_ask p d was s i k asks ne
  ]

pub kept-fail : (p : Plan) (d : EndpointsData) (b : Bool) (s : ℕ) → s < length d.failed → StatesKept p d → ((k : ℕ) → is_asking (last_at d s k) ≡ false)
    → StatesKept p (fail_if b s d)
kept-fail p d false s lt was none = was
kept-fail p d true s lt was none = record {
  asking_free = λ t k h. failed_at-fail p d s true lt t ∙ elim (cases_eq s t) [
    | inl e ↦ (let no : is_asking (last_at d t k) ≡ false = subst (λ (u : ℕ). is_asking (last_at d u k) ≡ false) e (none k) in absurd (cc))
    | inr ne ↦ rw (ne_eqb s t ne) (or_still (failed_at d t) (was.asking_free t k h))
  ];
  turn = was.turn;
  live = λ early t k free h. was.live early t k (or_was (failed_at d t) ((s == t) && true) (sym (failed_at-fail p d s true lt t) ∙ free)) h;
  one = was.one;
  distinct = was.distinct;
}
  where
    or_still : (a : Bool) → a ≡ false → (a || false) ≡ false
    or_still a h = grind arith

    or_was : (a b : Bool) → (a || b) ≡ false → a ≡ false
    or_was a b h = grind arith

pub adopting_asks : (x : EndpointStatus) → is_adopting x ≡ true → is_asking x ≡ true
adopting_asks Idle e = absurd (cc)
adopting_asks Binding e = refl
adopting_asks (AddressInUse at) e = absurd (cc)
adopting_asks (Adopting fd) e = refl
adopting_asks (Holding fd) e = absurd (cc)
adopting_asks AdoptionFailed e = absurd (cc)

held_now_asks : (x : EndpointStatus) → is_adopting x ≡ true → is_asking (held_now x) ≡ false
held_now_asks (Adopting fd) e = refl
held_now_asks Idle e = refl
held_now_asks Binding e = absurd (cc)
held_now_asks (AddressInUse at) e = refl
held_now_asks (Holding fd) e = refl
held_now_asks AdoptionFailed e = refl

held_now_fd : (x : EndpointStatus) → fd_of (held_now x) ≡ fd_of x
held_now_fd (Adopting fd) = refl
held_now_fd Idle = refl
held_now_fd Binding = refl
held_now_fd (AddressInUse at) = refl
held_now_fd (Holding fd) = refl
held_now_fd AdoptionFailed = refl

module _ (p : Plan) (d : EndpointsData) (s i : ℕ) (sized : IsEndpointsSized p d) (inside : s < service_count p) (within : i < length (endpoints p s))
    (was : StatesKept p d) where
  in_rows : s < length d.rows
  in_rows = omega (arith, sized.services)

  in_row : i < length (slice_index_or d.rows s [])
  in_row = omega (arith, sized.each s inside)

  in_failed : s < length d.failed
  in_failed = omega (arith, sized.failed)

  -- the ask of the endpoint ends with no descriptor
  kept-end : (b : Bool) (x : EndpointState) → is_asking (last_at d s i) ≡ true → is_asking x.last ≡ false → has_fd x.last ≡ false
      → StatesKept p (fail_if b s (put d s i x))
  kept-end b x asks done none = kept-fail p (put d s i x) b s in_failed
      (kept-put p d s i in_rows in_row was x (asking_not_holding (last_at d s i) asks) (λ e. absurd (cc)) (λ early free e. absurd (cc)))
      (none_asks p d s i in_rows in_row was x asks done)

  pub kept-refused : (now : ℕ) → is_binding (last_at d s i) ≡ true → StatesKept p (refused p d s i now)
  kept-refused now b = kept-end (is_last_refusal p d s i) _ (binding_asks (last_at d s i) b) refl refl

  pub kept-bind_failed : is_binding (last_at d s i) ≡ true → StatesKept p (bind_failed d s i)
  kept-bind_failed b = kept-end true (record { last = Idle; times_in_use = times_in_use_at d s i }) (binding_asks (last_at d s i) b) refl refl

  pub kept-adopt_failed : is_adopting (last_at d s i) ≡ true → StatesKept p (adopt_failed d s i)
  kept-adopt_failed a = kept-end true (record { last = AdoptionFailed; times_in_use = times_in_use_at d s i }) (adopting_asks (last_at d s i) a) refl refl

  pub kept-adopted : is_adopting (last_at d s i) ≡ true → StatesKept p (adopted d s i)
  kept-adopted a =
      kept-put p d s i in_rows in_row was (record { last = held_now (last_at d s i); times_in_use = times_in_use_at d s i })
      (asking_not_holding (last_at d s i) (adopting_asks (last_at d s i) a))
      (λ e. let no = held_now_asks (last_at d s i) a in absurd (cc))
      (λ early free e. was.live early s i free (rw a refl) ∙ sym (held_now_fd (last_at d s i)))

  pub kept-asked : failed_at d s ≡ false → is_holding (last_at d s i) ≡ false → ((k : ℕ) → k < i → is_holding (last_at d s k) ≡ true)
      → StatesKept p (asked d s i)
  kept-asked free none before =
      kept-put p d s i in_rows in_row was (record { last = Binding; times_in_use = times_in_use_at d s i }) none (λ e. (free, before))
      (λ early f e. absurd (cc))

  pub kept-offered : (fd : ℕ) → failed_at d s ≡ false → is_holding (last_at d s i) ≡ false → ((k : ℕ) → k < i → is_holding (last_at d s k) ≡ true)
      → numbers_with d.table (address p s i) ≡ fd ∷ [] → StatesKept p (offered d s i fd)
  kept-offered fd free none before has =
      kept-put p d s i in_rows in_row was (record { last = Adopting fd; times_in_use = times_in_use_at d s i }) none (λ e. (free, before)) (λ early f e. has)

  pub asks_free_binding : is_binding (last_at d s i) ≡ true → failed_at d s ≡ false
  asks_free_binding b = was.asking_free s i (binding_asks (last_at d s i) b)

  pub asks_free_adopting : is_adopting (last_at d s i) ≡ true → failed_at d s ≡ false
  asks_free_adopting a = was.asking_free s i (adopting_asks (last_at d s i) a)
