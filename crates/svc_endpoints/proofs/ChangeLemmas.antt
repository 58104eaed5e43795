-- What a change at one endpoint that wasn't held leaves of the loops, and of what is drained.
use Rattle.std.proofs.Common.{ℕ, Bool, true, false, ◌||◌, ◌&&◌, ◌==◌, not, inl, inr, [], ◌≡◌, refl, ap, sym, ◌∙◌, subst, arith, ◌<◌, length, slice_index_or}
use Rattle.std.proofs.lemmas.Bool.{cases_eq, eq-eqb, ne_eqb}
use Rattle.svc_record.specs.declared.plan.Plan.{Plan}
use Rattle.svc_record.specs.Record.{Record}
use Rattle.svc_record.specs.Plans.{endpoints}
use Rattle.svc_endpoints.specs.declared.states.EndpointStatus.{EndpointStatus}
use Rattle.svc_endpoints.specs.declared.states.EndpointStatus.TheVariants.{Idle, Binding, AddressInUse, Adopting, Holding, AdoptionFailed}
use Rattle.svc_endpoints.specs.declared.states.EndpointState.{EndpointState}
use Rattle.svc_endpoints.specs.EndpointsData.{EndpointsData}
use Rattle.svc_endpoints.specs.EndpointsState.{ServesIn, LoopsStand, last_at, failed_at, is_binding, is_asking, is_holding, is_done}
use Rattle.svc_endpoints.specs.Effects.{put, fail_if}
use Rattle.svc_endpoints.specs.Loops.{has_loop, loop_count}
use Rattle.svc_endpoints.specs.Uses.{has_held, uses, is_holder_by, is_user, is_drained_by}
use Rattle.svc_endpoints.proofs.PutLemmas.{last_at-put}
use Rattle.svc_endpoints.proofs.StatesLemmas.{failed_at-fail, last_at-fail}
use Rattle.svc_endpoints.proofs.UseLemmas.{done-serves, drained-grows}
use Rattle.svc_base.proofs.Logic.{clash, false_where, bool_same}

-- only this endpoint's state changed, which wasn't held, and whether its service has failed
pub record Changed (p : Plan) (d d2 : EndpointsData) (s i : ℕ) : Type 0 where
  pub loops : d2.loops ≡ d.loops
  pub last : (t k : ℕ) → ((t ≡ s) → (k ≡ i) → ⊥) → last_at d2 t k ≡ last_at d t k
  pub failed : (t : ℕ) → ((t ≡ s) → ⊥) → failed_at d2 t ≡ failed_at d t
  pub within : i < length (endpoints p s)
  pub idle : is_holding (last_at d s i) ≡ false

-- what a failed service has, and isn't offered, isn't used
quiet : (fd : ℕ) (f d : Bool) (x : EndpointStatus) → f ≡ true → is_asking x ≡ false → uses fd f d x ≡ false
quiet fd f d (Holding n) e h = rw e refl
quiet fd f d (Adopting n) e h = absurd (cc)
quiet fd f d Idle e h = refl
quiet fd f d Binding e h = refl
quiet fd f d (AddressInUse at) e h = refl
quiet fd f d AdoptionFailed e h = refl

-- a bind uses nothing
pub binding-unused : (fd : ℕ) (f d : Bool) (x : EndpointStatus) → is_binding x ≡ true → uses fd f d x ≡ false
binding-unused fd f d Binding h = refl
binding-unused fd f d Idle h = absurd (cc)
binding-unused fd f d (AddressInUse at) h = absurd (cc)
binding-unused fd f d (Adopting n) h = absurd (cc)
binding-unused fd f d (Holding n) h = absurd (cc)
binding-unused fd f d AdoptionFailed h = absurd (cc)

module _ (p : Plan) (d d2 : EndpointsData) (s i : ℕ) (is : Changed p d d2 s i) where
  not_serving : (k : ℕ) → ServesIn p d s k → ⊥
  not_serving k h = clash (is_holding (last_at d s i)) (h.held i is.within) is.idle

  done_same : (t k : ℕ) → is_done p d2 t k ≡ is_done p d t k
  done_same t k = ap (λ l. loop_count l t k == p.tasks) is.loops

  serves_still : (t k : ℕ) → ServesIn p d t k → ServesIn p d2 t k
  serves_still t k h = record {
    inside = h.inside;
    within = h.within;
    free = is.failed t other ∙ h.free;
    held = λ j lt. ap is_holding (is.last t j (λ e f. other e)) ∙ h.held j lt;
  }
    where
      other : (t ≡ s) → ⊥
      other e = not_serving k (subst (λ u. ServesIn p d u k) e h)

  pub loops-changed : (q : Record) → LoopsStand p d q → LoopsStand p d2 q
  loops-changed q was = record {
    some_tasks = was.some_tasks;
    ends_are = λ t k j. ap (λ l. has_loop l t k j) is.loops ∙ was.ends_are t k j;
    counts = λ t k. ap (λ l. loop_count l t k) is.loops ∙ was.counts t k;
    told = λ t k j h. was.told t k j (ap (λ l. has_loop l t k j) (sym is.loops) ∙ h);
    serve = λ t k j h. serves_still t k (was.serve t k j (ap (λ l. has_loop l t k j) (sym is.loops) ∙ h));
  }

  module _ (q : Record) (was : LoopsStand p d q) (fd : ℕ) where
    not_here : (t k : ℕ) → is_done p d t k ≡ true → (t ≡ s) → ⊥
    not_here t k h e = not_serving k (subst (λ u. ServesIn p d u k) e (done-serves p d q was t k h))

    holder_same : (t k : ℕ) → ((t ≡ s) → ⊥) → is_holder_by d2 fd t k ≡ is_holder_by d fd t k
    holder_same t k ne =
        ap (λ b. not b && has_held fd (last_at d2 t k)) (is.failed t ne)
        ∙ ap (λ (x : EndpointStatus). not (failed_at d t) && has_held fd x) (is.last t k (λ e f. ne e))

    user_same : (t k : ℕ) → ((t ≡ s) → ⊥) → is_user p d2 fd t k ≡ is_user p d fd t k
    user_same t k ne = ap (λ b. uses fd b (is_done p d2 t k) (last_at d2 t k)) (is.failed t ne)
        ∙ ap (λ b. uses fd (failed_at d t) b (last_at d2 t k)) (done_same t k)
        ∙ ap (λ (x : EndpointStatus). uses fd (failed_at d t) (is_done p d t k) x) (is.last t k (λ e f. ne e))

    -- where the service fails, what is drained stays so
    pub drained-fails : failed_at d2 s ≡ true → ((k : ℕ) → is_asking (last_at d2 s k) ≡ false) → is_drained_by p d fd ≡ true → is_drained_by p d2 fd ≡ true
    drained-fails failed none = drained-grows p d d2 fd
        (λ t k holds done. holder_same t k (not_here t k done) ∙ holds)
        (λ t k inside within u. elim (cases_eq t s) [
          | inl e ↦ absurd
              (clash (is_user p d2 fd s k) (subst (λ v. is_user p d2 fd v k ≡ true) e u)
              (quiet fd (failed_at d2 s) (is_done p d2 s k) (last_at d2 s k) failed (none k)))
          | inr ne ↦ sym (user_same t k ne) ∙ u
        ])

    -- where it uses what it used, the same is drained
    pub drained-same : failed_at d2 s ≡ failed_at d s
        → uses fd (failed_at d s) (is_done p d s i) (last_at d2 s i) ≡ uses fd (failed_at d s) (is_done p d s i) (last_at d s i)
        → is_drained_by p d2 fd ≡ is_drained_by p d fd
    drained-same failed here = bool_same (is_drained_by p d2 fd) (is_drained_by p d fd)
        (drained-grows p d2 d fd (λ t k holds done. sym (holder_same t k (not_here t k (sym (done_same t k) ∙ done))) ∙ holds)
        (λ t k inside within u. each t k ∙ u))
        (drained-grows p d d2 fd (λ t k holds done. holder_same t k (not_here t k done) ∙ holds) (λ t k inside within u. sym (each t k) ∙ u))
      where
        each : (t k : ℕ) → is_user p d2 fd t k ≡ is_user p d fd t k
        each t k = elim (cases_eq t s) [
          | inr ne ↦ user_same t k ne
          | inl e ↦ subst (λ u. is_user p d2 fd u k ≡ is_user p d fd u k) (sym e) (at_s k)
        ]
          where
            at_s : (k : ℕ) → is_user p d2 fd s k ≡ is_user p d fd s k
            at_s k = ap (λ b. uses fd b (is_done p d2 s k) (last_at d2 s k)) failed ∙ ap (λ b. uses fd (failed_at d s) b (last_at d2 s k)) (done_same s k)
                ∙ elim (cases_eq k i) [
                  | inl e ↦ subst (λ j. uses fd (failed_at d s) (is_done p d s j) (last_at d2 s j) ≡ uses fd (failed_at d s) (is_done p d s j) (last_at d s j))
                      (sym e) here
                  | inr ne ↦ ap (λ (x : EndpointStatus). uses fd (failed_at d s) (is_done p d s k) x) (is.last s k (λ e f. ne f))
                ]

    -- no loop of the service ended
    pub changed-not_done : (k : ℕ) → is_done p d s k ≡ false
    changed-not_done k = false_where (is_done p d s k) (λ y. not_serving k (done-serves p d q was s k y))

-- a put, after which the service has failed where b says so
pub changed-put : (p : Plan) (d : EndpointsData) (s i : ℕ) (b : Bool) (x : EndpointState) → s < length d.rows → i < length (slice_index_or d.rows s [])
    → s < length d.failed → i < length (endpoints p s) → is_holding (last_at d s i) ≡ false → Changed p d (fail_if b s (put d s i x)) s i
changed-put p d s i b x in_rows in_row in_failed within idle = record {
  loops = same_loops b;
  last = λ t k ne. last_at-fail b s (put d s i x) t k ∙ last_at-put d s i x in_rows in_row t k ∙ elim (cases_eq s t) [
    | inl e ↦ rw (ne_eqb i k (λ f. ne (sym e) (sym f)), eq-eqb s t e) refl
    | inr nf ↦ rw (ne_eqb s t nf) refl
  ];
  failed = λ t ne. failed_at-fail p (put d s i x) s b in_failed t ∙ (rw (ne_eqb s t (λ e. ne (sym e))) (or_none (failed_at d t)));
  within = within;
  idle = idle;
}
  where
    same_loops : (b : Bool) → (fail_if b s (put d s i x)).loops ≡ d.loops
    same_loops true = refl
    same_loops false = refl

    or_none : (b : Bool) → (b || false) ≡ b
    or_none b = grind arith

-- the state that it has then
pub put-here : (p : Plan) (d : EndpointsData) (s i : ℕ) (b : Bool) (x : EndpointState) → s < length d.rows → i < length (slice_index_or d.rows s [])
    → last_at (fail_if b s (put d s i x)) s i ≡ x.last
put-here p d s i b x in_rows in_row = last_at-fail b s (put d s i x) s i ∙ last_at-put d s i x in_rows in_row s i ∙ (rw (eq-eqb s s refl, eq-eqb i i refl) refl)
