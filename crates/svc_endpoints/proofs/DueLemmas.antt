-- When a visit of a started service tells something.
use Rattle.std.proofs.Common.{ℕ, Bool, true, false, List, [], ◌∷◌, ◌≡◌, refl, sym, ◌∙◌, subst, Option, Some, None, if◌then◌else◌}
use Rattle.svc_record.specs.declared.plan.Plan.{Plan}
use Rattle.svc_record.specs.Plans.{address, any_with}
use Rattle.svc_moments.specs.Least.{IsLeast, EndsAt}
use Rattle.svc_moments.proofs.LeastLemmas.{least-by, least-never, least-always, least-end}
use Rattle.svc_endpoints.specs.declared.visit.Visit.TheVariants.{Nothing}
use Rattle.svc_endpoints.specs.EndpointsData.{EndpointsData}
use Rattle.svc_endpoints.specs.EndpointsState.{last_at, failed_at, is_asking, numbers_with}
use Rattle.svc_endpoints.specs.Effects.{has_open, first_of, not_empty}
use Rattle.svc_endpoints.specs.Visits.{busy_in, IsFirst, decide_at, adopt_or_bind}
use Rattle.svc_endpoints.specs.Dues.{AsksAt, is_silent}
use Rattle.svc_endpoints.proofs.VisitLemmas.{first_same}

open_asks : (asks kept : Bool) (j : ℕ) (fds : List ℕ) → asks ≡ false → not_empty fds ≡ true
    → is_silent (if asks then Nothing else adopt_or_bind kept j (first_of fds)) ≡ false
open_asks false kept j (x ∷ fds) e h = refl
open_asks false kept j [] e h = absurd (cc)
open_asks true kept j fds e h = absurd (cc)

shut_asks : (asks kept : Bool) (j : ℕ) (fds : List ℕ) → asks ≡ false → not_empty fds ≡ false
    → is_silent (if asks then Nothing else adopt_or_bind kept j (first_of fds)) ≡ kept
shut_asks false true j [] e h = refl
shut_asks false false j [] e h = refl
shut_asks false kept j (x ∷ fds) e h = absurd (cc)
shut_asks true kept j fds e h = absurd (cc)

-- by the first endpoint that isn't held
module _ (p : Plan) (d : EndpointsData) (s j : ℕ) (free : failed_at d s ≡ false) (first : IsFirst p d s j) where
  asks-here : (t : ℕ) → is_silent (decide_at p d s t j) ≡ false → AsksAt p d s t
  asks-here t h = record { free = free; at = j; first = first; asks = h }

  here-asks : (t : ℕ) → AsksAt p d s t → is_silent (decide_at p d s t j) ≡ false
  here-asks t due = subst (λ k. is_silent (decide_at p d s t k) ≡ false) (first_same p d s due.at j due.first first) due.asks

  pub never-asked : is_asking (last_at d s j) ≡ true → IsLeast (AsksAt p d s) None
  never-asked asks = least-never (AsksAt p d s) (λ t due. (
      let h = here-asks t due in
      let silent : is_silent (decide_at p d s t j) ≡ true = rw asks refl in
      cc))

  pub always-asked : is_asking (last_at d s j) ≡ false → has_open d.table (address p s j) ≡ true → IsLeast (AsksAt p d s) (Some 0)
  always-asked asks opens = least-always (AsksAt p d s)
      (asks-here 0 (open_asks (is_asking (last_at d s j)) (any_with p (address p s j) (busy_in d 0)) j (numbers_with d.table (address p s j)) asks opens))

  pub asked-once : (end : Option ℕ) → is_asking (last_at d s j) ≡ false → has_open d.table (address p s j) ≡ false
      → EndsAt (λ t. any_with p (address p s j) (busy_in d t)) end → IsLeast (AsksAt p d s) end
  asked-once end asks shut ends =
      let same = λ (t : ℕ). shut_asks (is_asking (last_at d s j)) (any_with p (address p s j) (busy_in d t)) j (numbers_with d.table (address p s j))
      asks shut in
      least-by (λ t. any_with p (address p s j) (busy_in d t) ≡ false) (AsksAt p d s) end
      (λ t free_now. asks-here t (same t ∙ free_now)) (λ t due. sym (same t) ∙ here-asks t due)
      (least-end (λ t. any_with p (address p s j) (busy_in d t)) end ends)

-- a service that has failed
pub never-failed : (p : Plan) (d : EndpointsData) (s : ℕ) → failed_at d s ≡ true → IsLeast (AsksAt p d s) None
never-failed p d s bad = least-never (AsksAt p d s) (λ t due. (let free = due.free in cc))
