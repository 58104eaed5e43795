-- The plan of a script's services is one that a server can be run by.
use Rattle.std.proofs.Common.{◌≡◌, ℕ, zero, suc, ◌+◌, ◌<◌, ◌≤◌, Bool, true, ◌==◌, leb, ltb, List, [], ◌∷◌, length, map, take, get_or, Option, refl, sym, ap, subst, ◌∙◌, inl, inr, arith, All, add-zero, zero-add}
use Rattle.std.specs.List.{list_any, range_with_len}
use Rattle.std.proofs.lemmas.Bool.{and_parts, ltb-true, leb-true, eqb-true, cases_lt, both_ways}
use Rattle.std.proofs.lemmas.List.{length-map}
use Rattle.std.proofs.lemmas.List.Elements.{All-map, All-filter, filter_passes}
use Rattle.std.proofs.lemmas.List.Folds.{Any-from_list_any}
use Rattle.std.proofs.lemmas.List.FromFn.{get_or-range_with_len, length-range_with_len}
use Rattle.std.proofs.lemmas.Option.{slice_get_cases}
use Rattle.svc_conf.specs.declared.server.configuration.Opt.{Opt}
use Rattle.svc_record.specs.declared.plan.ServicePlan.{ServicePlan}
use Rattle.svc_record.specs.Plans.{service_count, depends}
use Rattle.svc_record.specs.Validity.{IsAddress, IsValid, depends_on}
use Rattle.svc_record.proofs.ValidLemmas.{valid-plan}
use Rattle.svc_text.specs.declared.service.EndpointLine.{EndpointLine}
use Rattle.svc_text.specs.declared.service.ServiceLine.{ServiceLine}
use Rattle.svc_text.specs.ServiceLines.{is_address}
use Rattle.svc_text.specs.Accepted.{IsAccepted, AreAccepted}
use Rattle.svc_text.specs.Script.{Parts}
use Rattle.svc_text.specs.Dependencies.{edges_up_to, RefusesNone}
use Rattle.svc_text.specs.Filters.{filter_number}
use Rattle.svc_text.specs.ScriptPlans.{endpoint_of, depends_of, service_plan, plans_from, plan_of}
use Rattle.svc_text.proofs.EdgeLemmas.{fewer_acyclic}

pub plans-length : (services : List ServiceLine) (s : ℕ) (xs : List ServiceLine) → length (plans_from services s xs) ≡ length xs
plans-length services s [] = refl
plans-length services s (x ∷ xs) = ap suc (plans-length services (s + 1) xs)

-- what each service of a sort gives, all give
plans-All : (P : ServicePlan → Type 0) (Q : ServiceLine → Type 0) (services : List ServiceLine)
    → ((s : ℕ) (x : ServiceLine) → Q x → P (service_plan services s x))
    → (s : ℕ) (xs : List ServiceLine) → All Q xs → All P (plans_from services s xs)
plans-All P Q services f s [] h k d lt = absurd (omega arith)
plans-All P Q services f s (x ∷ xs) h zero d lt = f s x (h 0 x (omega arith))
plans-All P Q services f s (x ∷ xs) h (suc k) d lt = plans-All P Q services f (s + 1) xs (λ i e below. h (suc i) e (omega arith)) k d (omega arith)

plans-depends : (services : List ServiceLine) (s : ℕ) (xs : List ServiceLine) (k : ℕ) (d : ServicePlan) → k < length xs
    → (get_or (plans_from services s xs) k d).depends ≡ depends_of services (s + k)
plans-depends services s [] k d lt = absurd (omega arith)
plans-depends services s (x ∷ xs) zero d lt = ap (depends_of services) (sym (add-zero s))
plans-depends services s (x ∷ xs) (suc k) d lt =
    let e : (s + 1) + k ≡ s + suc k = omega arith in plans-depends services (s + 1) xs k d (omega arith) ∙ ap (depends_of services) e

-- ---- endpoints

good_address : (number : Option ℕ) (e : EndpointLine) → is_address e.address ≡ true → IsAddress (endpoint_of number e)
good_address number e h =
    let p = and_parts (ltb 0 (length e.address)) (leb (length e.address) 4096) h in
    let some : 0 < length e.address = ltb-true 0 (length e.address) p.0 in
    (omega arith, leb-true (length e.address) 4096 p.1)

pub good_endpoints : (number : Option ℕ) (x : ServiceLine) → IsAccepted x
    → (length (map (endpoint_of number) x.endpoints) ≤ 64) × All IsAddress (map (endpoint_of number) x.endpoints)
good_endpoints number x h = (
  omega (arith, length-map x.endpoints (endpoint_of number), h.few_endpoints),
  All-map IsAddress (endpoint_of number) x.endpoints (λ k d lt. good_address number (get_or x.endpoints k d) (h.addresses k d lt)),
)

-- ---- dependencies

depends_inside : (services : List ServiceLine) (s : ℕ) → All (λ d. d < length services) (depends_of services s)
depends_inside services s =
    All-filter (edges_up_to services (length services) s) (λ d. d < length services) (range_with_len 0 (length services)) (λ k d lt.
    let below : k < length services = omega (arith, length-range_with_len 0 (length services)) in
    omega (arith, get_or-range_with_len 0 (length services) k d below))

depends_edge : (services : List ServiceLine) (a b : ℕ) → list_any (λ x. x == b) (depends_of services a) ≡ true
    → edges_up_to services (length services) a b ≡ true
depends_edge services a b h =
    let f : ℕ → Bool = edges_up_to services (length services) a in
    let found = Any-from_list_any (λ x. x == b) (depends_of services a) h in
    let passes : f (get_or (depends_of services a) found.0 found.1) ≡ true = filter_passes f (range_with_len 0 (length services)) found.0 found.1 found.2 in
    let here : get_or (depends_of services a) found.0 found.1 ≡ b = found.3 ∙ eqb-true found.1 b found.4 in
    ap f (sym here) ∙ passes

listed_depends : (opt : Opt) (parts : Parts) (s : ℕ) → s < length parts.services → depends (plan_of opt parts) s ≡ depends_of parts.services s
listed_depends opt parts s lt =
    let services : List ServiceLine = parts.services in
    elim (slice_get_cases (plans_from services 0 services) s).1 [
      | inl at ↦
          let same : at.0.depends ≡ depends_of services s =
          ap (λ (x : ServicePlan). x.depends) (sym at.3) ∙ plans-depends services 0 services s at.0 lt ∙ ap (depends_of services) (zero-add s) in
          rw at.2 same
      | inr past ↦ absurd (let le = past.0 in omega (arith, plans-length services 0 services))
    ]

no_depends : (opt : Opt) (parts : Parts) (s : ℕ) → length parts.services ≤ s → depends (plan_of opt parts) s ≡ []
no_depends opt parts s le =
    elim (slice_get_cases (plans_from parts.services 0 parts.services) s).1 [
      | inl at ↦ absurd (let lt = at.1 in omega (arith, plans-length parts.services 0 parts.services))
      | inr past ↦ rw past.1 refl
    ]

plan_inside : (opt : Opt) (parts : Parts) (s : ℕ) → s < service_count (plan_of opt parts)
    → All (λ d. d < service_count (plan_of opt parts)) (depends (plan_of opt parts) s)
plan_inside opt parts s lt =
    let services : List ServiceLine = parts.services in
    let count : service_count (plan_of opt parts) ≡ length services = plans-length services 0 services in
    let same : depends (plan_of opt parts) s ≡ depends_of services s = listed_depends opt parts s (omega arith) in
    subst (All (λ d. d < service_count (plan_of opt parts))) (sym same)
    (subst (λ (n : ℕ). All (λ d. d < n) (depends_of services s)) (sym count) (depends_inside services s))

plan_edge : (opt : Opt) (parts : Parts) (a b : ℕ) → depends_on (plan_of opt parts) a b ≡ true → edges_up_to parts.services (length parts.services) a b ≡ true
plan_edge opt parts a b h =
    elim (cases_lt a (length parts.services)) [
      | inl lt ↦ depends_edge parts.services a b (ap (list_any (λ x. x == b)) (sym (listed_depends opt parts a lt)) ∙ h)
      | inr le ↦ absurd (both_ways (list_any (λ x. x == b) []) refl (ap (list_any (λ x. x == b)) (sym (no_depends opt parts a le)) ∙ h))
    ]

-- ---- the plan

pub plan_valid : (opt : Opt) (parts : Parts) → AreAccepted parts.services → RefusesNone parts.services → 0 < parts.conf.listener_tasks_per_fd
    → IsValid (plan_of opt parts)
plan_valid opt parts h sound tasks =
    valid-plan (plan_of opt parts) (record {
      few = omega (arith, plans-length parts.services 0 parts.services, h.few);
      tasks = tasks;
      endpoints = plans-All (λ (x : ServicePlan). (length x.endpoints ≤ 64) × All IsAddress x.endpoints) IsAccepted parts.services
          (λ s x k. good_endpoints (filter_number (take s parts.services) x) x k) 0 parts.services h.each;
    }) (record {
      inside = plan_inside opt parts;
      acyclic = fewer_acyclic (depends_on (plan_of opt parts)) (edges_up_to parts.services (length parts.services)) (plan_edge opt parts) sound.acyclic;
    })
