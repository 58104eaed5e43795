-- The blank states stand for the empty record.
use Rattle.std.proofs.Common.{ℕ, Bool, true, false, not, ◌||◌, ◌&&◌, inl, inr, List, [], ◌≡◌, refl, ap, sym, ◌∙◌, subst, arith, ◌<◌, ◌≤◌, length, nat_le, slice_index_or, if◌then◌else◌}
use Rattle.std.proofs.lemmas.Bool.{cases_lt}
use Rattle.std.proofs.lemmas.List.{get_or_past}
use Rattle.svc_graph.specs.Bits.{HasRows}
use Rattle.svc_record.specs.declared.plan.Plan.{Plan}
use Rattle.svc_record.specs.Plans.{service_count, endpoints, is_unix}
use Rattle.svc_record.specs.Failed.{has_failed}
use Rattle.svc_endpoints.specs.declared.states.EndpointStatus.{EndpointStatus}
use Rattle.svc_endpoints.specs.declared.states.EndpointStatus.TheVariants.{Idle}
use Rattle.svc_endpoints.specs.declared.states.EndpointState.{EndpointState}
use Rattle.svc_endpoints.specs.EndpointsData.{EndpointsData}
use Rattle.svc_endpoints.specs.EndpointsState.{StatesKept, StatesStand, EndpointsStand, OneStands, last_at, failed_at, state_at, idle, is_asking, is_adoption_failed, has_fd}
use Rattle.svc_endpoints.specs.Calm.{AreBusyKnown}
use Rattle.svc_endpoints.specs.Counts.{row_size}
use Rattle.svc_endpoints.specs.Visits.{busy_of}
use Rattle.svc_endpoints.proofs.RangeLemmas.{none0}

none_limit : (u : Bool) → nat_le (if u then 1 else 30) 0 ≡ false
none_limit true = refl
none_limit false = refl

module _ (p : Plan) (d : EndpointsData) (blank : (s i : ℕ) → state_at d s i ≡ idle) (free : (s : ℕ) → failed_at d s ≡ false) (no_end : d.loops ≡ [])
    (empty : d.table ≡ []) (nothing : d.came ≡ []) (some_tasks : 0 < p.tasks) where
  last_is : (s i : ℕ) → last_at d s i ≡ Idle
  last_is s i = ap (λ (x : EndpointState). x.last) (blank s i)

  none_failed : (s : ℕ) → has_failed p [] s ≡ false
  none_failed s = none0 _ (length (endpoints p s)) (λ k lt. none_limit (is_unix p s k))

  states-new : StatesStand p d []
  states-new = record {
    each = λ s i lt within. subst (λ (x : EndpointStatus). OneStands x false false [] [] (λ t. false) false) (sym (last_is s i))
        (record { binding_is = refl; adopting_is = refl; held_is = refl; adopts_is = λ e. refl; within_is = λ e t. refl; on_is = λ e. e });
    counts = λ s i lt within f. ap (λ (x : EndpointState). x.times_in_use) (blank s i);
    failed_is = λ s lt. free s ∙ sym (none_failed s);
    with_is = λ a. rw empty refl;
    lost = λ s i e. let none : is_adoption_failed Idle ≡ true = sym (ap is_adoption_failed (last_is s i)) ∙ e in absurd (cc);
    closed_came = λ fd new. refl;
  }

  kept-new : StatesKept p d
  kept-new = record {
    asking_free = λ s i e. free s;
    turn = λ s i k e lt. let none : is_asking Idle ≡ true = sym (ap is_asking (last_is s i)) ∙ e in absurd (cc);
    live = λ early s i f e. let none : has_fd Idle ≡ true = sym (ap has_fd (last_is s i)) ∙ e in absurd (cc);
    one = λ a. rw empty (omega arith);
    distinct = λ a b fd h g. absurd (let none = rw empty at h in cc);
  }

  pub stands-new : EndpointsStand p d []
  stands-new = record {
    states = states-new;
    loops = record {
      some_tasks = some_tasks;
      ends_are = λ s i j. rw no_end refl;
      counts = λ s i. rw no_end refl;
      told = λ s i j h. absurd (let none = rw no_end at h in cc);
      serve = λ s i j h. absurd (let none = rw no_end at h in cc);
    };
    kept = kept-new;
    asks_due = tt;
    asks_known = tt;
    closes_once = tt;
    fails = λ s lt. rw (none_failed s) refl;
    closes = λ fd came. absurd (cc);
    one_live = refl;
    open_are = rw empty refl;
    came_are = nothing;
    came_apart = refl;
  }

-- of blank states none is busy, and the rows are short
pub blank-known : (rows : List (List EndpointState)) (failed : List Bool) (busy : List ℕ) → length rows ≤ 1024 → length failed ≡ length rows → HasRows busy 1
    → ((s i : ℕ) → slice_index_or (slice_index_or rows s []) i idle ≡ idle) → AreBusyKnown rows failed busy
blank-known rows failed busy few flags bits blank = record {
  few = few;
  flags = flags;
  bits = bits;
  calm = λ s off k moment. ap (λ (x : EndpointState). busy_of (slice_index_or failed s false) moment x.last) (blank s k)
      ∙ quiet (slice_index_or failed s false);
}
  where
    quiet : (b : Bool) → (false || (not b && false)) ≡ false
    quiet true = refl
    quiet false = refl

pub blank-few : (p : Plan) (rows : List (List EndpointState)) → length rows ≡ service_count p
    → ((s : ℕ) → s < service_count p → length (slice_index_or rows s []) ≡ length (endpoints p s))
    → ((s : ℕ) → s < service_count p → length (endpoints p s) ≤ 64) → (s : ℕ) → row_size rows s ≤ 64
blank-few p rows same each few s = elim (cases_lt s (service_count p)) [
  | inl inside ↦ (let a = each s inside in let b = few s inside in omega (arith, a, b))
  | inr past ↦ (let none : row_size rows s ≡ 0 = ap (λ (r : List EndpointState). length r) (get_or_past rows s [] (omega (arith, same, past))) in omega
      (arith, none))
]
