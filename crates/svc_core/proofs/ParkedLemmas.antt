-- Places that wait behind a service, an endpoint of which keeps their address busy.
use Rattle.std.proofs.Common.{ℕ, Bool, true, inl, inr, false, List, ◌≡◌, ◌≢◌, refl, ap, sym, ◌∙◌, subst, arith, ◌<◌, ◌≤◌, ◌+◌, length, slice_index}
use Rattle.std.proofs.lemmas.Bool.{cases_eq, cases_lt}
use Rattle.svc_base.proofs.Logic.{clash}
use Rattle.svc_graph.specs.Bits.{is_set}
use Rattle.svc_record.specs.declared.plan.Plan.{Plan}
use Rattle.svc_record.specs.Plans.{address, same_address}
use Rattle.svc_endpoints.specs.declared.states.EndpointState.{EndpointState}
use Rattle.svc_endpoints.specs.declared.states.EndpointStatus.{EndpointStatus}
use Rattle.svc_endpoints.specs.EndpointsData.{EndpointsData}
use Rattle.svc_endpoints.specs.EndpointsState.{failed_at, last_at, is_asking, is_holding}
use Rattle.svc_endpoints.specs.Effects.{has_open}
use Rattle.svc_endpoints.specs.Rests.{IsBusyUntil, LackSame, SharesWith}
use Rattle.svc_endpoints.specs.Stays.{StaysHeld, StaysUnheld, OthersStay, GainsNone}
use Rattle.svc_endpoints.specs.Visits.{IsFirst, busy_of, busy_in}
use Rattle.svc_core.specs.StartsState.{is_flagged}
use Rattle.svc_core.specs.WaitsData.{WaitsData}
use Rattle.svc_core.specs.WaitsState.{IsParked, StaysBusy, is_open}

-- a service has one first endpoint that isn't held
pub first-one : (p : Plan) (d : EndpointsData) (s i j : ℕ) → IsFirst p d s i → IsFirst p d s j → i ≡ j
first-one p d s i j a b = elim (cases_eq i j) [
  | inl e ↦ e
  | inr ne ↦ elim (cases_lt i j) [
    | inl lt ↦ absurd (clash (is_holding (last_at d s i)) (b.earlier i lt) a.missing)
    | inr ge ↦ absurd (clash (is_holding (last_at d s j)) (a.earlier j (omega arith)) b.missing)
  ]
]

-- what waits for the address of a service waits for that of another one too that lacks the same
pub shares-on : (p : Plan) (d : EndpointsData) (s t u : ℕ) → SharesWith p d s t → LackSame p d t u → SharesWith p d s u
shares-on p d s t u shares lack = record {
  at = shares.at;
  first = shares.first;
  none = shares.none;
  other = lack.other;
  other_first = lack.other_first;
  same = ap (λ a. same_address a (address p s shares.at)) lack.same
      ∙ ap (λ i. same_address (address p t i) (address p s shares.at)) (first-one p d t lack.at shares.other lack.first shares.other_first) ∙ shares.same;
}

-- it stays the first where the same are held, or where the service's states stay
first_kept : (p : Plan) (d d' : EndpointsData) (s j : ℕ) → StaysHeld d d' → StaysUnheld d d' → IsFirst p d s j → IsFirst p d' s j
first_kept p d d' s j held unheld x = record { within = x.within; missing = unheld s j x.missing; earlier = λ k lt. held s k (x.earlier k lt) }

first_others : (p : Plan) (d d' : EndpointsData) (x s j : ℕ) → OthersStay x d d' → s ≢ x → IsFirst p d s j → IsFirst p d' s j
first_others p d d' x s j others ne f =
    record { within = f.within; missing = ap is_holding (others s j ne) ∙ f.missing; earlier = λ k lt. ap is_holding (others s k ne) ∙ f.earlier k lt }

-- an endpoint that is asked for is busy at each moment
pub asking-busy : (d : EndpointsData) (moment t k : ℕ) → is_asking (last_at d t k) ≡ true → busy_in d moment t k ≡ true
asking-busy d moment t k asks = rw asks refl

-- a busy endpoint whose state and flag stay
stays_moved : (d d' : EndpointsData) (from : ℕ) (w : WaitsData) (e t k : ℕ) → last_at d' t k ≡ last_at d t k → failed_at d' t ≡ failed_at d t
    → StaysBusy d from w e t k → StaysBusy d' from w e t k
stays_moved d d' from w e t k last failed (inl asks) = inl (ap is_asking last ∙ asks)
stays_moved d d' from w e t k last failed (inr (inl next)) = inr (inl next)
stays_moved d d' from w e t k last failed (inr (inr rest)) =
    inr (inr (
      rest.0,
      λ m le. ap (λ (x : EndpointStatus). busy_of (failed_at d' t) m x) last ∙ ap (λ (f : Bool). busy_of f m (last_at d t k)) failed
          ∙ rest.1 m le,
    ))

-- more bits set
stays_grown : (d : EndpointsData) (from : ℕ) (u v : WaitsData) (e t k : ℕ) → length v.counts.marks ≡ length u.counts.marks
    → ((a b : ℕ) → is_set u.bits a b ≡ true → is_set v.bits a b ≡ true) → v.until ≡ u.until → StaysBusy d from u e t k → StaysBusy d from v e t k
stays_grown d from u v e t k count kept until (inl asks) = inl asks
stays_grown d from u v e t k count kept until (inr (inl next)) =
    inr (inl (kept 0 e next.0, next.1))
stays_grown d from u v e t k count kept until (inr (inr rest)) =
    inr (inr (
      subst (λ n. is_set v.bits (n + 2) e ≡ true) (sym count) (kept (length u.counts.marks + 2) e rest.0),
      subst (λ m. IsBusyUntil d t k m)
          (sym until) rest.1,
    ))

-- a pass that has gone on, but not over the place
pub stays-on : (d : EndpointsData) (from next : ℕ) (w : WaitsData) (e t k : ℕ) → (from ≤ e → is_open w e ≡ true → next ≤ e) → StaysBusy d from w e t k
    → StaysBusy d next w e t k
stays-on d from next w e t k far (inl asks) = inl asks
stays-on d from next w e t k far (inr (inl opened)) = inr (inl (opened.0, far opened.1 opened.0))
stays-on d from next w e t k far (inr (inr rest)) = inr (inr rest)

module _ (p : Plan) (order : List ℕ) (on : List Bool) where
  pub parked-grown : (d : EndpointsData) (from : ℕ) (u v : WaitsData) (s c : ℕ) → length v.counts.marks ≡ length u.counts.marks
      → ((a b : ℕ) → is_set u.bits a b ≡ true → is_set v.bits a b ≡ true) → v.until ≡ u.until
      → IsParked p order on d from u s c → IsParked p order on d from v s c
  parked-grown d from u v s c count kept until x = record {
    by = x.by;
    earlier = x.earlier;
    started = x.started;
    shares = x.shares;
    busy = stays_grown d from u v x.by (slice_index order x.by) x.shares.other count kept until x.busy;
    behind = kept (1 + slice_index order x.by) c x.behind;
    parked = subst (λ n. is_set v.bits (n + 1) c ≡ true) (sym count) (kept (length u.counts.marks + 1) c x.parked);
  }

  pub parked-on : (d : EndpointsData) (from next : ℕ) (w : WaitsData) (s c : ℕ) (x : IsParked p order on d from w s c)
      → (from ≤ x.by → is_open w x.by ≡ true → next ≤ x.by) → IsParked p order on d next w s c
  parked-on d from next w s c x far = record {
    by = x.by;
    earlier = x.earlier;
    started = x.started;
    shares = x.shares;
    busy = stays-on d from next w x.by (slice_index order x.by) x.shares.other far x.busy;
    behind = x.behind;
    parked = x.parked;
  }

  pub parked-started : (next : List Bool) (d : EndpointsData) (from : ℕ) (w : WaitsData) (s c : ℕ)
      → ((t : ℕ) → is_flagged on t ≡ true → is_flagged next t ≡ true) → IsParked p order on d from w s c → IsParked p order next d from w s c
  parked-started next d from w s c more x = record {
    by = x.by;
    earlier = x.earlier;
    started = more (slice_index order x.by) x.started;
    shares = x.shares;
    busy = x.busy;
    behind = x.behind;
    parked = x.parked;
  }

  -- states of the service x changed, the place of which is still to be visited, but nothing is held by that
  pub parked-kept : (d d' : EndpointsData) (from : ℕ) (w : WaitsData) (x s c : ℕ) → StaysHeld d d' → StaysUnheld d d' → GainsNone d d' → OthersStay x d d'
      → ((t : ℕ) → t ≢ x → failed_at d' t ≡ failed_at d t)
      → ((j : ℕ) → j < length order → slice_index order j ≡ x → (is_open w j ≡ true) × (from ≤ j)) → c < length order → IsParked p order on d from w s c
      → IsParked p order on d' from w s c
  parked-kept d d' from w x s c held unheld gains others failed opened lt y = record {
    by = y.by;
    earlier = y.earlier;
    started = y.started;
    shares = record {
      at = y.shares.at;
      first = first_kept p d d' s y.shares.at held unheld y.shares.first;
      none = gains _ y.shares.none;
      other = y.shares.other;
      other_first = first_kept p d d' (slice_index order y.by) y.shares.other held unheld y.shares.other_first;
      same = y.shares.same;
    };
    busy = elim (cases_eq (slice_index order y.by) x) [
      | inl same ↦ inr (inl (opened y.by (let le = y.earlier in omega arith) same))
      | inr ne ↦ stays_moved d d' from w y.by (slice_index order y.by) y.shares.other (others (slice_index order y.by) y.shares.other ne)
          (failed (slice_index order y.by) ne) y.busy
    ];
    behind = y.behind;
    parked = y.parked;
  }

  -- states of a service changed, behind which it doesn't wait, and the address that it waits for has no live descriptor yet
  pub parked-others : (d d' : EndpointsData) (from : ℕ) (w : WaitsData) (x s c : ℕ) → OthersStay x d d' → d'.failed ≡ d.failed → s ≢ x
      → (y : IsParked p order on d from w s c) → slice_index order y.by ≢ x → has_open d'.table (address p s y.shares.at) ≡ false
      → IsParked p order on d' from w s c
  parked-others d d' from w x s c others failed own y ne none = record {
    by = y.by;
    earlier = y.earlier;
    started = y.started;
    shares = record {
      at = y.shares.at;
      first = first_others p d d' x s y.shares.at others own y.shares.first;
      none = none;
      other = y.shares.other;
      other_first = first_others p d d' x (slice_index order y.by) y.shares.other others ne y.shares.other_first;
      same = y.shares.same;
    };
    busy = stays_moved d d' from w y.by (slice_index order y.by) y.shares.other (others (slice_index order y.by) y.shares.other ne)
        (ap (λ flags. is_flagged flags (slice_index order y.by)) failed) y.busy;
    behind = y.behind;
    parked = y.parked;
  }

  -- no state changed
  pub parked-rows : (d d' : EndpointsData) (from : ℕ) (w : WaitsData) (s c : ℕ) → d'.rows ≡ d.rows → d'.failed ≡ d.failed → GainsNone d d'
      → IsParked p order on d from w s c → IsParked p order on d' from w s c
  parked-rows d d' from w s c rows failed gains y = record {
    by = y.by;
    earlier = y.earlier;
    started = y.started;
    shares = record {
      at = y.shares.at;
      first = first_kept p d d' s y.shares.at held unheld y.shares.first;
      none = gains _ y.shares.none;
      other = y.shares.other;
      other_first = first_kept p d d' (slice_index order y.by) y.shares.other held unheld y.shares.other_first;
      same = y.shares.same;
    };
    busy = stays_moved d d' from w y.by (slice_index order y.by) y.shares.other (same (slice_index order y.by) y.shares.other)
        (ap (λ flags. is_flagged flags (slice_index order y.by)) failed) y.busy;
    behind = y.behind;
    parked = y.parked;
  }
    where
      same : (t k : ℕ) → last_at d' t k ≡ last_at d t k
      same t k = ap (λ (r : List (List EndpointState)). last_at (record d { rows = r }) t k) rows

      held : StaysHeld d d'
      held t k h = ap is_holding (same t k) ∙ h

      unheld : StaysUnheld d d'
      unheld t k h = ap is_holding (same t k) ∙ h
