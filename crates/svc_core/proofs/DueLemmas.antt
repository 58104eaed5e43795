-- The least moment at which something is due, from the parts.
use Rattle.std.proofs.Common.{ℕ, Bool, true, false, not, ◌&&◌, inl, inr, List, ◌≡◌, sym, subst, arith, ◌<◌, ◌+◌, length, Option, None, slice_index}
use Rattle.std.specs.Prelude.{◌⊎◌, ◌^◌}
use Rattle.std.proofs.lemmas.Bool.{cases_eq, cases_lt, and_from, or_left}
use Rattle.svc_record.specs.declared.plan.Plan.{Plan}
use Rattle.svc_moments.specs.Least.{IsLeast, earlier_of}
use Rattle.svc_moments.proofs.LeastLemmas.{least-both, least-by, least-never}
use Rattle.svc_endpoints.specs.EndpointsData.{EndpointsData}
use Rattle.svc_base.proofs.Logic.{clash}
use Rattle.svc_record.specs.Plans.{address, same_address, any_with}
use Rattle.svc_endpoints.specs.EndpointsState.{IsEndpointsSized, StatesKept, last_at, failed_at, is_asking, is_holding, rests_in}
use Rattle.svc_endpoints.specs.Effects.{has_open}
use Rattle.svc_endpoints.specs.Visits.{busy_in}
use Rattle.svc_endpoints.proofs.BusyLemmas.{one-with}
use Rattle.svc_endpoints.proofs.KeptLemmas.{asking_not_holding}
use Rattle.svc_endpoints.proofs.VisitLemmas.{first_same}
use Rattle.svc_endpoints.specs.Calm.{IsServiceCalm}
use Rattle.svc_endpoints.specs.Dues.{AsksAt}
use Rattle.svc_endpoints.proofs.DueStands.{calm-same, asks-free}
use Rattle.svc_core.specs.CoreData.{CoreData, IsFormed}
use Rattle.svc_core.specs.WaitsData.{WaitsData}
use Rattle.svc_core.specs.WaitsState.{AreIdle, AsksNothing, IsParked, StaysBusy, is_open}
use Rattle.svc_core.specs.StartsState.{is_flagged}
use Rattle.svc_boot.specs.BootState.{is_due_in}
use Rattle.svc_offer.specs.OfferState.{over_since}
use Rattle.svc_offer.specs.OfferDues as offers
use Rattle.svc_drain.specs.DrainDues as drains
use Rattle.svc_core.specs.Dues.{AsksThere, AsksAmong, AsksSome, RunsAndAsks, NothingAsked, IsRested, IsDueAt}

-- of none of the services, and of one more
module _ (p : Plan) (order : List ℕ) (on : List Bool) (d : EndpointsData) where
  pub among-none : IsLeast (AsksAmong p order on d 0) None
  among-none = least-never (AsksAmong p order on d 0) (λ t due. absurd (let inside = due.inside in omega (arith, inside)))

  pub among-more : (n : ℕ) (a b c : Option ℕ) → c ≡ earlier_of a b → IsLeast (AsksAmong p order on d n) a → IsLeast (AsksThere p order on d n) b
      → IsLeast (AsksAmong p order on d (n + 1)) c
  among-more n a b c is first here =
      subst (IsLeast (AsksAmong p order on d (n + 1))) (sym is)
      (least-by (λ t. AsksAmong p order on d n t ⊎ AsksThere p order on d n t) (AsksAmong p order on d (n + 1)) (earlier_of a b)
      (λ t due. elim due [
        | inl x ↦ record { place = x.place; inside = (let inside = x.inside in omega (arith, inside)); there = x.there }
        | inr y ↦ record { place = n; inside = omega arith; there = y }
      ])
      (λ t due. elim (cases_eq due.place n) [
        | inl e ↦ inr (subst (λ k. AsksThere p order on d k t) e due.there)
        | inr ne ↦ inl (record { place = due.place; inside = (let inside = due.inside in omega (arith, inside, ne)); there = due.there })
      ])
      (least-both (AsksAmong p order on d n) (AsksThere p order on d n) a b first here))

  pub there-none : (k : ℕ) → is_flagged on (slice_index order k) ≡ false → IsLeast (AsksThere p order on d k) None
  there-none k off = least-never (AsksThere p order on d k) (λ t due. (let started = due.started in cc))

  pub there-some : (k : ℕ) (a : Option ℕ) → is_flagged on (slice_index order k) ≡ true → IsLeast (AsksAt p d (slice_index order k)) a
      → IsLeast (AsksThere p order on d k) a
  there-some k a started least = least-by (AsksAt p d (slice_index order k)) (AsksThere p order on d k) a
      (λ t asks. record { started = started; asks = asks }) (λ t due. due.asks) least

-- the server doesn't run, or no endpoint is ever busy
pub visits-off : (core : CoreData) → core.drain.running ≡ false → IsLeast (RunsAndAsks core) None
visits-off core off = least-never (RunsAndAsks core) (λ t due. (let runs = due.runs in cc))

pub visits-calm : (core : CoreData) → IsEndpointsSized core.plan core.endpoints
    → ((s : ℕ) → s < length core.endpoints.rows → IsServiceCalm core.endpoints s) → NothingAsked core → IsLeast (RunsAndAsks core) None
visits-calm core sized calm none = least-never (RunsAndAsks core) (λ t due. none (record {
  runs = due.runs;
  asks = record {
    place = due.asks.place;
    inside = due.asks.inside;
    there = record {
      started = due.asks.there.started;
      asks = calm-same core.plan core.endpoints (slice_index core.order due.asks.place) t core.drain.moment sized calm due.asks.there.asks;
    };
  };
}))

pub visits-on : (core : CoreData) (a : Option ℕ) → core.drain.running ≡ true
    → IsLeast (AsksAmong core.plan core.order core.starts.started core.endpoints (length core.order)) a → IsLeast (RunsAndAsks core) a
visits-on core a runs least = least-by (AsksAmong core.plan core.order core.starts.started core.endpoints (length core.order)) (RunsAndAsks core) a
    (λ t asks. record { runs = runs; asks = asks }) (λ t due. due.asks) least

-- the least of all that may be due
pub step-least : (core : CoreData) (tries asks ends visits first second all : Option ℕ) → first ≡ earlier_of tries asks → second ≡ earlier_of ends visits
    → all ≡ earlier_of first second
    → IsLeast (λ t. is_due_in core.boot.receiving t ≡ true) tries → IsLeast (λ t. offers.is_due_at core.offer.state t ≡ true) asks
    → IsLeast (λ t. drains.is_due_at core.plan core.drain (over_since core.offer.state) t ≡ true) ends → IsLeast (RunsAndAsks core) visits
    → IsLeast (IsDueAt core) all
step-least core tries asks ends visits first second all is_first is_second is_all try ask end visit =
    subst (IsLeast (IsDueAt core)) (sym is_all)
    (least-both (λ t. (is_due_in core.boot.receiving t ≡ true) ⊎ (offers.is_due_at core.offer.state t ≡ true))
    (λ t. (drains.is_due_at core.plan core.drain (over_since core.offer.state) t ≡ true) ⊎ RunsAndAsks core t) first second
    (subst (IsLeast (λ t. (is_due_in core.boot.receiving t ≡ true) ⊎ (offers.is_due_at core.offer.state t ≡ true))) (sym is_first)
    (least-both (λ t. is_due_in core.boot.receiving t ≡ true) (λ t. offers.is_due_at core.offer.state t ≡ true) tries asks try ask))
    (subst (IsLeast (λ t. (drains.is_due_at core.plan core.drain (over_since core.offer.state) t ≡ true) ⊎ RunsAndAsks core t)) (sym is_second)
    (least-both (λ t. drains.is_due_at core.plan core.drain (over_since core.offer.state) t ≡ true) (RunsAndAsks core) ends visits end visit)))

-- of the core's value, from its fields
pub visits-of : {old now : CoreData} {at : Option ℕ} → old ≡ now → (IsRested old → IsLeast (RunsAndAsks old) at)
    → IsRested now → IsLeast (RunsAndAsks now) at
visits-of {at = at} is least = subst (λ (core : CoreData). IsRested core → IsLeast (RunsAndAsks core) at) is least

pub dues-of : {old now : CoreData} {at : Option ℕ} → old ≡ now → (IsRested old → IsLeast (IsDueAt old) at)
    → IsRested now → IsLeast (IsDueAt now) at
dues-of {at = at} is least = subst (λ (core : CoreData). IsRested core → IsLeast (IsDueAt core) at) is least

-- while every place is closed and no rest ends, none is asked for by time alone
pub visits-still : (core : CoreData) (w : WaitsData) → IsFormed core.plan core.order core.starts core.endpoints → StatesKept core.plan core.endpoints
    → AreIdle core.plan core.order core.starts core.endpoints 0 w → ((k : ℕ) → k < length core.order → is_open w k ≡ false)
    → w.until ≡ 18446744073709551615 → IsLeast (RunsAndAsks core) None
visits-still core w formed kept idle shut long = record { before = λ t small early due. at t small due.asks; there = tt }
  where
    nothing : (s t : ℕ) → AsksAt core.plan core.endpoints s t → AsksNothing core.plan core.endpoints s → ⊥
    nothing s t asks none = elim none [
      | inl all ↦ elim all [
        | inl bad ↦ clash (failed_at core.endpoints s) bad asks.free
        | inr held ↦ clash (is_holding (last_at core.endpoints s asks.at)) (held asks.at asks.first.within) asks.first.missing
      ]
      | inr ask ↦ elim (cases_eq ask.at asks.at) [
        | inl e ↦ clash (is_asking (last_at core.endpoints s asks.at)) (subst (λ i. is_asking (last_at core.endpoints s i) ≡ true) e ask.asks)
            (asks-free core.plan core.endpoints s t asks).0
        | inr ne ↦ elim (cases_lt ask.at asks.at) [
          | inl lt ↦ clash (is_holding (last_at core.endpoints s ask.at)) (asks.first.earlier ask.at lt)
              (asking_not_holding (last_at core.endpoints s ask.at) ask.asks)
          | inr le ↦ clash (is_holding (last_at core.endpoints s asks.at)) (kept.turn s ask.at asks.at ask.asks (omega (arith, ne, le))) asks.first.missing
        ]
      ]
    ]

    busy-at : (t : ℕ) → t < 2 ^ 64 → (k : ℕ) → k < length core.order → (u i : ℕ) → StaysBusy core.endpoints 0 w k u i → busy_in core.endpoints t u i ≡ true
    busy-at t small k inside u i stays = elim stays [
      | inl asks ↦ or_left (is_asking (last_at core.endpoints u i)) (not (failed_at core.endpoints u) && rests_in (last_at core.endpoints u i) t) asks
      | inr more ↦ elim more [
        | inl opens ↦ absurd (clash (is_open w k) opens.0 (shut k inside))
        | inr rests ↦ rests.1 t (omega (arith, small, long))
      ]
    ]

    parked : (t : ℕ) → t < 2 ^ 64 → (s k : ℕ) → k < length core.order → AsksAt core.plan core.endpoints s t
        → IsParked core.plan core.order core.starts.started core.endpoints 0 w s k → ⊥
    parked t small s k inside asks at =
        let before = at.earlier in
        let place : at.by < length core.order = omega (arith, before, inside) in
        let same = first_same core.plan core.endpoints s asks.at at.shares.at asks.first at.shares.first in
        let free = (asks-free core.plan core.endpoints s t asks).1
        (subst (λ i. has_open core.endpoints.table (address core.plan s i) ≡ false) (sym same) at.shares.none) in
        let busy = one-with core.plan (address core.plan s at.shares.at) (busy_in core.endpoints t) (slice_index core.order at.by) at.shares.other
        (formed.in_order.inside at.by place) at.shares.other_first.within
        (and_from (same_address (address core.plan (slice_index core.order at.by) at.shares.other) (address core.plan s at.shares.at))
        (busy_in core.endpoints t (slice_index core.order at.by) at.shares.other) at.shares.same
        (busy-at t small at.by place (slice_index core.order at.by) at.shares.other at.busy)) in
        clash (any_with core.plan (address core.plan s at.shares.at) (busy_in core.endpoints t)) busy
        (subst (λ i. any_with core.plan (address core.plan s i) (busy_in core.endpoints t) ≡ false) same free)

    at : (t : ℕ) → t < 2 ^ 64 → AsksSome core.plan core.order core.starts.started core.endpoints t → ⊥
    at t small due = elim (idle due.place due.inside (shut due.place due.inside)) [
      | inl done ↦ nothing (slice_index core.order due.place) t due.there.asks done.1
      | inr rest ↦ elim rest [
        | inl waits ↦ clash (is_flagged core.starts.started (slice_index core.order due.place)) due.there.started waits.0
        | inr behind ↦ parked t small (slice_index core.order due.place) due.place due.inside due.there.asks behind.1
      ]
    ]
