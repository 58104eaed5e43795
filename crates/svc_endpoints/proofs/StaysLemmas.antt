-- What an answer or a visit leaves of the flags of failed services, of what is held, of the states of the other services, and of addresses without a
-- live descriptor.
use Rattle.std.proofs.Common.{ℕ, Bool, true, false, not, ◌&&◌, ◌==◌, inl, inr, List, [], ◌∷◌, filter, ◌≡◌, refl, ap, sym, ◌∙◌, subst, arith, ◌<◌, length, Option, Some, None, slice_set, slice_index_or, if◌then◌else◌}
use Rattle.std.proofs.lemmas.Bool.{cases_Bool, ne_eqb}
use Rattle.svc_record.specs.declared.plan.Plan.{Plan}
use Rattle.svc_record.specs.Plans.{service_count, endpoints, address, same_address, any_with}
use Rattle.svc_endpoints.specs.declared.states.EndpointStatus.{EndpointStatus}
use Rattle.svc_endpoints.specs.declared.states.EndpointStatus.TheVariants.{Idle, Binding, Adopting, Holding, AdoptionFailed}
use Rattle.svc_endpoints.specs.declared.states.EndpointState.{EndpointState}
use Rattle.svc_endpoints.specs.declared.table.Open.{Open}
use Rattle.svc_endpoints.specs.declared.visit.Visit.{Visit}
use Rattle.svc_endpoints.specs.declared.visit.Visit.TheVariants.{Nothing, Binds, Adopts}
use Rattle.svc_endpoints.specs.EndpointsData.{EndpointsData}
use Rattle.svc_endpoints.specs.EndpointsState.{IsEndpointsSized, last_at, failed_at, is_binding, is_adopting, is_asking, is_holding, times_in_use_at, numbers_with}
use Rattle.svc_endpoints.specs.Effects.{first_of, not_empty, has_open, put, fail_if, refused, is_last_refusal, bind_failed, adopt_failed, adopted, held_now, bound_or_again}
use Rattle.svc_record.specs.declared.action.Action.{Action}
use Rattle.svc_endpoints.specs.Failing.{ClosesOwn, ClosesOwnIf, goes_among}
use Rattle.svc_endpoints.specs.Visits.{IsDecided, IsFirst, IsWithin, busy_in, adopt_or_bind, decide_at, after}
use Rattle.svc_endpoints.specs.Stays.{FailsOnly, StaysHeld, StaysUnheld, OthersStay, GainsNone, GainsOnly}
use Rattle.svc_endpoints.proofs.OneLemmas.{binding_asks}
use Rattle.svc_endpoints.proofs.LiveLemmas.{numbers_with-put}
use Rattle.svc_endpoints.proofs.KeptLemmas.{asking_not_holding, adopting_asks}
use Rattle.svc_endpoints.proofs.ChangeLemmas.{Changed, changed-put}
use Rattle.svc_endpoints.proofs.PutLemmas.{last_at-put}
use Rattle.svc_endpoints.proofs.StatesLemmas.{last_at-fail}
use Rattle.svc_endpoints.proofs.VisitedLemmas.{find_first}
use Rattle.svc_base.proofs.Logic.{clash}

-- where a state changed, it is one of an endpoint that wasn't held
held-changed : (p : Plan) (d e : EndpointsData) (s i : ℕ) → Changed p d e s i → StaysHeld d e
held-changed p d e s i h t k held =
    ap is_holding
    (h.last t k (λ a b. clash (is_holding (last_at d s i))
    (subst (λ u. is_holding (last_at d u i) ≡ true) a (subst (λ j. is_holding (last_at d t j) ≡ true) b held)) h.idle)) ∙ held

-- where the rows stay, all that is held does
pub held-same : (d e : EndpointsData) → e.rows ≡ d.rows → StaysHeld d e
held-same d e same t k held = subst (λ r. is_holding (last_at (record d { rows = r }) t k) ≡ true) (sym same) held

-- a service's flag that is set, or not
fails_if : (b : Bool) (s : ℕ) (flags : List Bool) (d : EndpointsData) → d.failed ≡ flags → FailsOnly s flags (fail_if b s d).failed
fails_if true s flags d same = inr (ap (λ f. slice_set f s true) same)
fails_if false s flags d same = inl same

-- the flags after each kind of answer
pub fails-refused : (p : Plan) (d : EndpointsData) (s i moment : ℕ) → FailsOnly s d.failed (refused p d s i moment).failed
fails-refused p d s i moment = fails_if (is_last_refusal p d s i) s d.failed (put d s i _) refl

pub failed-bound : (b : Bool) (d : EndpointsData) (s i fd : ℕ) (text : List ℕ) → (bound_or_again b d s i fd text).failed ≡ d.failed
failed-bound true d s i fd text = refl
failed-bound false d s i fd text = refl

-- what is held after each kind of answer
module _ (p : Plan) (d : EndpointsData) (s i : ℕ) (sized : IsEndpointsSized p d) (inside : s < service_count p) (within : i < length (endpoints p s)) where
  in_rows : s < length d.rows
  in_rows = omega (arith, sized.services)

  in_row : i < length (slice_index_or d.rows s [])
  in_row = omega (arith, sized.each s inside)

  in_failed : s < length d.failed
  in_failed = omega (arith, sized.failed)

  pub held-put : (b : Bool) (x : EndpointState) → is_holding (last_at d s i) ≡ false → StaysHeld d (fail_if b s (put d s i x))
  held-put b x free = held-changed p d (fail_if b s (put d s i x)) s i (changed-put p d s i b x in_rows in_row in_failed within free)

  unheld_binding : is_binding (last_at d s i) ≡ true → is_holding (last_at d s i) ≡ false
  unheld_binding h = asking_not_holding (last_at d s i) (binding_asks (last_at d s i) h)

  unheld_adopting : is_adopting (last_at d s i) ≡ true → is_holding (last_at d s i) ≡ false
  unheld_adopting h = asking_not_holding (last_at d s i) (adopting_asks (last_at d s i) h)

  pub held-refused : (moment : ℕ) → is_binding (last_at d s i) ≡ true → StaysHeld d (refused p d s i moment)
  held-refused moment h = held-put (is_last_refusal p d s i) _ (unheld_binding h)

  pub held-bind_failed : is_binding (last_at d s i) ≡ true → StaysHeld d (bind_failed d s i)
  held-bind_failed h = held-put true (record { last = Idle; times_in_use = times_in_use_at d s i }) (unheld_binding h)

  pub held-adopt_failed : is_adopting (last_at d s i) ≡ true → StaysHeld d (adopt_failed d s i)
  held-adopt_failed h = held-put true (record { last = AdoptionFailed; times_in_use = times_in_use_at d s i }) (unheld_adopting h)

  pub held-adopted : is_adopting (last_at d s i) ≡ true → StaysHeld d (adopted d s i)
  held-adopted h = held-put false (record { last = held_now (last_at d s i); times_in_use = times_in_use_at d s i }) (unheld_adopting h)

  pub held-bound : (b : Bool) (fd : ℕ) (text : List ℕ) → is_binding (last_at d s i) ≡ true → StaysHeld d (bound_or_again b d s i fd text)
  held-bound true fd text h = held-put false (record { last = Idle; times_in_use = times_in_use_at d s i }) (unheld_binding h)
  held-bound false fd text h = held-put false (record { last = Holding fd; times_in_use = times_in_use_at d s i }) (unheld_binding h)

-- what is held after a visit
module _ (p : Plan) (d : EndpointsData) (s : ℕ) (sized : IsEndpointsSized p d) (inside : s < service_count p) where
  held_asked : (j : ℕ) → IsFirst p d s j → (kept_busy : Bool) (found : Option ℕ) → StaysHeld d (after d s (adopt_or_bind kept_busy j found))
  held_asked j first kept_busy (Some fd) =
      held-put p d s j sized inside first.within false (record { last = Adopting fd; times_in_use = times_in_use_at d s j }) first.missing
  held_asked j first true None = λ t k held. held
  held_asked j first false None =
      held-put p d s j sized inside first.within false (record { last = Binding; times_in_use = times_in_use_at d s j }) first.missing

  held_first : (j : ℕ) → IsFirst p d s j → (asking kept_busy : Bool) (found : Option ℕ)
      → StaysHeld d (after d s (if asking then Nothing else adopt_or_bind kept_busy j found))
  held_first j first true kept_busy found = λ t k held. held
  held_first j first false kept_busy found = held_asked j first kept_busy found

  held_where : (v w : Visit) → v ≡ w → StaysHeld d (after d s w) → StaysHeld d (after d s v)
  held_where v w is h = subst (λ (x : Visit). StaysHeld d (after d s x)) (sym is) h

  held_on : (moment : ℕ) (v : Visit) → IsDecided p d s true moment v → StaysHeld d (after d s v)
  held_on moment v decided = elim (cases_Bool (failed_at d s)) [
    | inl bad ↦ held_where v Nothing (decided.failed bad) (λ t k held. held)
    | inr free ↦ elim (find_first p d s (length (endpoints p s)) (omega arith)) [
      | inl all ↦ held_where v Nothing (decided.held refl free all) (λ t k held. held)
      | inr some ↦ held_where v (decide_at p d s moment some.0) (decided.first refl free some.0 some.1)
          (held_first some.0 some.1 (is_asking (last_at d s some.0)) (any_with p (address p s some.0) (busy_in d moment))
          (first_of (numbers_with d.table (address p s some.0))))
    ]
  ]

  pub held-visit : (on : Bool) (moment : ℕ) (v : Visit) → IsDecided p d s on moment v → StaysHeld d (after d s v)
  held-visit true moment v decided = held_on moment v decided
  held-visit false moment v decided = held_where v Nothing (decided.off refl) (λ t k held. held)

-- what the other services are left
others-then : (s : ℕ) (d e f : EndpointsData) → OthersStay s d e → f.rows ≡ e.rows → OthersStay s d f
others-then s d e f h same t k ne = ap (λ (r : List (List EndpointState)). last_at (record d { rows = r }) t k) same ∙ h t k ne

module _ (p : Plan) (d : EndpointsData) (s i : ℕ) (sized : IsEndpointsSized p d) (inside : s < service_count p) (within : i < length (endpoints p s)) where
  pub others-put : (b : Bool) (x : EndpointState) → OthersStay s d (fail_if b s (put d s i x))
  others-put b x t k ne =
      last_at-fail b s (put d s i x) t k ∙ last_at-put d s i x (omega (arith, sized.services)) (omega (arith, sized.each s inside)) t k
      ∙ (rw (ne_eqb s t (λ e. ne (sym e))) refl)

  pub others-refused : (moment : ℕ) → OthersStay s d (refused p d s i moment)
  others-refused moment = others-put (is_last_refusal p d s i) _

  pub others-bind_failed : OthersStay s d (bind_failed d s i)
  others-bind_failed = others-put true (record { last = Idle; times_in_use = times_in_use_at d s i })

  pub others-adopt_failed : OthersStay s d (adopt_failed d s i)
  others-adopt_failed = others-put true (record { last = AdoptionFailed; times_in_use = times_in_use_at d s i })

  pub others-adopted : OthersStay s d (adopted d s i)
  others-adopted = others-put false (record { last = held_now (last_at d s i); times_in_use = times_in_use_at d s i })

  pub others-bound : (b : Bool) (fd : ℕ) (text : List ℕ) → OthersStay s d (bound_or_again b d s i fd text)
  others-bound true fd text = others-put false (record { last = Idle; times_in_use = times_in_use_at d s i })
  others-bound false fd text = others-put false (record { last = Holding fd; times_in_use = times_in_use_at d s i })

pub others-visit : (p : Plan) (d : EndpointsData) (s : ℕ) → IsEndpointsSized p d → s < service_count p → (v : Visit) → IsWithin p s v
    → OthersStay s d (after d s v)
others-visit p d s sized inside Nothing within = λ t k ne. refl
others-visit p d s sized inside (Binds i) within =
    others-put p d s i sized inside within false (record { last = Binding; times_in_use = times_in_use_at d s i })
others-visit p d s sized inside (Adopts i fd) within =
    others-put p d s i sized inside within false (record { last = Adopting fd; times_in_use = times_in_use_at d s i })

-- what isn't held by them
unheld_if : (c : Bool) (x y : EndpointStatus) → is_holding x ≡ false → is_holding y ≡ false → is_holding (if c then x else y) ≡ false
unheld_if true x y h g = h
unheld_if false x y h g = g

unheld-then : (d e f : EndpointsData) → StaysUnheld d e → f.rows ≡ e.rows → StaysUnheld d f
unheld-then d e f h same t k off = ap (λ (r : List (List EndpointState)). is_holding (last_at (record d { rows = r }) t k)) same ∙ h t k off

module _ (p : Plan) (d : EndpointsData) (s i : ℕ) (sized : IsEndpointsSized p d) (inside : s < service_count p) (within : i < length (endpoints p s)) where
  pub unheld-put : (b : Bool) (x : EndpointState) → is_holding x.last ≡ false → StaysUnheld d (fail_if b s (put d s i x))
  unheld-put b x free t k off =
      ap is_holding (last_at-fail b s (put d s i x) t k ∙ last_at-put d s i x (omega (arith, sized.services)) (omega (arith, sized.each s inside)) t k)
      ∙ unheld_if (s == t && i == k) x.last (last_at d t k) free off

  pub unheld-refused : (moment : ℕ) → StaysUnheld d (refused p d s i moment)
  unheld-refused moment = unheld-put (is_last_refusal p d s i) _ refl

  pub unheld-bind_failed : StaysUnheld d (bind_failed d s i)
  unheld-bind_failed = unheld-put true (record { last = Idle; times_in_use = times_in_use_at d s i }) refl

  pub unheld-adopt_failed : StaysUnheld d (adopt_failed d s i)
  unheld-adopt_failed = unheld-put true (record { last = AdoptionFailed; times_in_use = times_in_use_at d s i }) refl

pub unheld-visit : (p : Plan) (d : EndpointsData) (s : ℕ) → IsEndpointsSized p d → s < service_count p → (v : Visit) → IsWithin p s v
    → StaysUnheld d (after d s v)
unheld-visit p d s sized inside Nothing within = λ t k off. off
unheld-visit p d s sized inside (Binds i) within =
    unheld-put p d s i sized inside within false (record { last = Binding; times_in_use = times_in_use_at d s i }) refl
unheld-visit p d s sized inside (Adopts i fd) within =
    unheld-put p d s i sized inside within false (record { last = Adopting fd; times_in_use = times_in_use_at d s i }) refl

-- a part of the table has no address that the table hasn't
open_left : (f : Open → Bool) (table : List Open) (a : Option (List ℕ)) → has_open table a ≡ false → has_open (filter f table) a ≡ false
open_left f [] a none = refl
open_left f (o ∷ more) a none = elim (cases_Bool (same_address o.address a)) [
  | inl y ↦ absurd (let no = rw y at none in cc)
  | inr n ↦ (let rest = open_left f more a (rw n at none) in elim (cases_Bool (f o)) [
    | inl kept ↦ rw (kept, n) rest
    | inr gone ↦ rw gone rest
  ])
]

pub gains-filter : (d new : EndpointsData) (f : Open → Bool) → new.table ≡ filter f d.table → GainsNone d new
gains-filter d new f is a none = ap (λ table. has_open table a) is ∙ open_left f d.table a none

-- of the table alone something is gone
pub record OnlyCloses (d next : EndpointsData) : Type 0 where
  pub rows : next.rows ≡ d.rows
  pub failed : next.failed ≡ d.failed
  pub gains : GainsNone d next

pub closes-own : (lead : List Action) (p : Plan) (keep : List ℕ) (s : ℕ) (offered : Option ℕ) (d next : EndpointsData) (before after : List Action × ℕ)
    → ClosesOwn lead p keep s offered d next before after → OnlyCloses d next
closes-own lead p keep s offered d next before after c = record {
  rows = ap (λ (m : EndpointsData). m.rows) c.left;
  failed = ap (λ (m : EndpointsData). m.failed) c.left;
  gains = gains-filter d next (λ (o : Open). not (goes_among p keep d c.own o)) (ap (λ (m : EndpointsData). m.table) c.left);
}

pub closes-own_if : (b : Bool) (lead : List Action) (p : Plan) (keep : List ℕ) (s : ℕ) (offered : Option ℕ) (d next : EndpointsData)
    (before after : List Action × ℕ) → ClosesOwnIf b lead p keep s offered d next before after → OnlyCloses d next
closes-own_if true lead p keep s offered d next before after c = closes-own lead p keep s offered d next before after c
closes-own_if false lead p keep s offered d next before after c = record {
  rows = ap (λ (m : EndpointsData). m.rows) c.0;
  failed = ap (λ (m : EndpointsData). m.failed) c.0;
  gains = λ a none. ap (λ (m : EndpointsData). has_open m.table a) c.0 ∙ none;
}

-- the parts fit the plan still
pub sized-own_if : (b : Bool) (lead : List Action) (p : Plan) (keep : List ℕ) (s : ℕ) (offered : Option ℕ) (d next : EndpointsData)
    (before after : List Action × ℕ) → ClosesOwnIf b lead p keep s offered d next before after → IsEndpointsSized p d → IsEndpointsSized p next
sized-own_if true lead p keep s offered d next before after c sized = subst (λ (m : EndpointsData). IsEndpointsSized p m) (sym c.left) (record {
  services = sized.services;
  failed = sized.failed;
  each = sized.each;
  few = sized.few;
  shared = sized.shared;
  tasks = sized.tasks;
})
sized-own_if false lead p keep s offered d next before after c sized = subst (λ (m : EndpointsData). IsEndpointsSized p m) (sym c.0) sized

-- what an answer leaves, after which what goes is closed
module _ (d mid made new : EndpointsData) (is : made ≡ mid) (closes : OnlyCloses made new) where
  rows_then : new.rows ≡ mid.rows
  rows_then = closes.rows ∙ ap (λ (m : EndpointsData). m.rows) is

  pub fails-answer : (s : ℕ) → FailsOnly s d.failed mid.failed → FailsOnly s d.failed new.failed
  fails-answer s h = subst (FailsOnly s d.failed) (sym (closes.failed ∙ ap (λ (m : EndpointsData). m.failed) is)) h

  pub held-answer : StaysHeld d mid → StaysHeld d new
  held-answer h t k held = held-same mid new rows_then t k (h t k held)

  pub others-answer : (s : ℕ) → OthersStay s d mid → OthersStay s d new
  others-answer s h = others-then s d mid new h rows_then

  pub unheld-answer : StaysUnheld d mid → StaysUnheld d new
  unheld-answer h = unheld-then d mid new h rows_then

  pub gains-answer : mid.table ≡ d.table → GainsNone d new
  gains-answer same a none =
      closes.gains a (ap (λ (m : EndpointsData). has_open m.table a) is ∙ ap (λ (table : List Open). has_open table a) same ∙ none)

-- a bind's descriptor has the one address
none_there : (xs : List ℕ) → not_empty xs ≡ false → xs ≡ []
none_there [] h = refl
none_there (x ∷ xs) h = absurd (cc)

pub gains-bound : (b : Bool) (d : EndpointsData) (s i fd : ℕ) (text : List ℕ) → b ≡ has_open d.table (Some text)
    → GainsOnly (Some text) d (bound_or_again b d s i fd text)
gains-bound true d s i fd text is a other none = none
gains-bound false d s i fd text is a other none =
    ap not_empty
    (numbers_with-put (record { fd = fd; address = Some text }) d.table (none_there (numbers_with d.table (Some text)) (sym is)) a ∙ (rw other refl))
    ∙ none
