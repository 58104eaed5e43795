-- What the plan of the generator says.
use Rattle.std.proofs.Common.{◌≡◌, ◌⊎◌, ℕ, zero, suc, ◌+◌, ◌<◌, ◌≤◌, Bool, true, false, List, [], ◌∷◌, ◌++◌, length, filter, get_or, codes, Option, Some, None, refl, sym, ap, ◌∙◌, inl, inr, arith, add-zero, zero-add}
use Rattle.std.specs.Prelude.{bytes_eq}
use Rattle.std.specs.List.{list_all, range_with_len, slice_get}
use Rattle.std.specs.Fmt.{decimal}
use Rattle.std.specs.Str.Parse.{digits_value}
use Rattle.std.proofs.lemmas.Bool.{both_ways, cases_lt}
use Rattle.std.proofs.lemmas.Fmt.{decimal_is_IsNumeral}
use Rattle.std.proofs.lemmas.Option.{slice_get_past}
use Rattle.std.proofs.lemmas.Slice.Eq.{bytes_eq-Decides}
use Rattle.svc_graph.specs.declared.plan.EndpointPlan.{EndpointPlan}
use Rattle.svc_graph.specs.declared.plan.Kind.TheVariants.{Plain, Notifying}
use Rattle.svc_record.specs.declared.plan.ServicePlan.{ServicePlan}
use Rattle.svc_record.specs.Plans.{service, service_count, depends, has_kind, endpoints, endpoint_numbers, address, same_address, is_unix}
use Rattle.svc_text.specs.declared.service.ServiceLine.{ServiceLine}
use Rattle.svc_text.specs.Dependencies.{edges_up_to}
use Rattle.svc_text.specs.ScriptPlans.{plans_from, service_plan, endpoint_of}
use Rattle.svc_main.specs.Generator.{is_even, made_port, made_endpoint, made_service, made_services, made_plan}
use Rattle.svc_main.proofs.GeneratorLemmas.{services_length, services_at, edge_before_one}
use Rattle.svc_text.proofs.PlanLemmas.{plans-length}

-- ---- the services

plans-at : (services : List ServiceLine) (s k : ℕ) (xs : List ServiceLine) (d : ServiceLine) → k < length xs
    → slice_get (plans_from services s xs) k ≡ Some (service_plan services (s + k) (get_or xs k d))
plans-at services s k [] d lt = absurd (omega arith)
plans-at services s zero (x ∷ xs) d lt = ap (λ (n : ℕ). Some (service_plan services n x)) (sym (add-zero s))
plans-at services s (suc k) (x ∷ xs) d lt =
    let e : (s + 1) + k ≡ s + suc k = omega arith in
    plans-at services (s + 1) k xs d (omega arith) ∙ ap (λ (n : ℕ). Some (service_plan services n (get_or xs k d))) e

pub plan-count : (n : ℕ) → service_count (made_plan n) ≡ n
plan-count n = plans-length (made_services n) 0 (made_services n) ∙ services_length n

-- what the plan says of service s
pub made : ℕ → ℕ → ServicePlan
made n s = service_plan (made_services n) s (made_service s)

pub plan-at : (n s : ℕ) → s < n → service (made_plan n) s ≡ Some (made n s)
unfolding made
plan-at n s lt =
    plans-at (made_services n) 0 s (made_services n) (made_service s) (omega (arith, services_length n))
    ∙ ap (λ (k : ℕ). Some (service_plan (made_services n) k (get_or (made_services n) s (made_service s)))) (zero-add s)
    ∙ ap (λ (x : ServiceLine). Some (service_plan (made_services n) s x)) (services_at n s (made_service s) lt)

pub plan-past : (n s : ℕ) → n ≤ s → service (made_plan n) s ≡ None
plan-past n s le = slice_get_past (made_plan n).services s (let count = plan-count n in omega (arith, count))

-- ---- its endpoint

pub endpoints-at : (n s : ℕ) → s < n → endpoints (made_plan n) s ≡ endpoint_of None (made_endpoint s) ∷ []
unfolding made
endpoints-at n s lt = rw (plan-at n s lt) refl

pub endpoints-past : (n s : ℕ) → n ≤ s → endpoints (made_plan n) s ≡ []
endpoints-past n s le = rw (plan-past n s le) refl

pub numbers-at : (n s : ℕ) → s < n → endpoint_numbers (made_plan n) s ≡ 0 ∷ []
numbers-at n s lt = ap (λ (es : List EndpointPlan). range_with_len 0 (length es)) (endpoints-at n s lt)

pub made_text : ℕ → List ℕ
made_text s = codes "127.0.0.1:" ++ decimal (made_port s)

pub address-at : (n s : ℕ) → s < n → address (made_plan n) s 0 ≡ Some (made_text s)
unfolding made_text
address-at n s lt = rw (endpoints-at n s lt) refl

pub address-past : (n s : ℕ) → n ≤ s → (i : ℕ) → address (made_plan n) s i ≡ None
address-past n s le i = rw (endpoints-past n s le) refl

pub address-late : (n s i : ℕ) → s < n → 0 < i → address (made_plan n) s i ≡ None
address-late n s zero lt some = absurd (omega arith)
address-late n s (suc i) lt some = rw (endpoints-at n s lt) refl

pub unix-at : (n s : ℕ) → s < n → is_unix (made_plan n) s 0 ≡ false
unix-at n s lt = rw (endpoints-at n s lt) refl

cut_front : (xs ys zs : List ℕ) → xs ++ ys ≡ xs ++ zs → ys ≡ zs
cut_front [] ys zs h = h
cut_front (x ∷ xs) ys zs h = cut_front xs ys zs (let tail : xs ++ ys ≡ xs ++ zs = cc in tail)

same-text : (s t : ℕ) → s < 1024 → t < 1024 → made_text s ≡ made_text t → s ≡ t
unfolding made_text
same-text s t ls lt h =
    let same : decimal (made_port s) ≡ decimal (made_port t) = cut_front (codes "127.0.0.1:") (decimal (made_port s)) (decimal (made_port t)) h in
    let a = (decimal_is_IsNumeral (made_port s) (omega arith)).1 in
    let b = (decimal_is_IsNumeral (made_port t) (omega arith)).1 in
    let port : made_port s ≡ made_port t = sym a ∙ ap (digits_value 10) same ∙ b in
    omega arith

-- only the service's own endpoint has its address
pub own-address : (n s t i : ℕ) → n ≤ 1024 → s < n → same_address (address (made_plan n) t i) (address (made_plan n) s 0) ≡ true → (t ≡ s) × (i ≡ 0)
own-address n s t i few lt h = by-service (cases_lt t n)
  where
    by-service : (t < n) ⊎ (n ≤ t) → (t ≡ s) × (i ≡ 0)
    by-service (inr past) =
        absurd (both_ways false refl (ap (λ (a : Option (List ℕ)). same_address a (address (made_plan n) s 0)) (sym (address-past n t past i)) ∙ h))
    by-service (inl inside) = by-endpoint (cases_lt 0 i)
      where
        by-endpoint : (0 < i) ⊎ (i ≤ 0) → (t ≡ s) × (i ≡ 0)
        by-endpoint (inl late) =
            absurd (both_ways false refl (ap (λ (a : Option (List ℕ)). same_address a (address (made_plan n) s 0)) (sym (address-late n t i inside late)) ∙ h))
        by-endpoint (inr first) =
            let zero-is : i ≡ 0 = omega arith in
            let at : address (made_plan n) t i ≡ Some (made_text t) = ap (address (made_plan n) t) zero-is ∙ address-at n t inside in
            let texts : bytes_eq (made_text t) (made_text s) ≡ true =
            ap (λ (a : Option (List ℕ)). same_address a (Some (made_text s))) (sym at) ∙ ap (same_address (address (made_plan n) t i)) (sym (address-at n s lt))
            ∙ h in
            (same-text t s (omega arith) (omega arith) ((bytes_eq-Decides (made_text t) (made_text s)).0 texts), zero-is)

-- ---- its kind and its dependencies

pub kind-even : (n s : ℕ) → s < n → is_even s ≡ true → has_kind (made_plan n) Plain s ≡ true
unfolding made
kind-even n s lt even = rw (plan-at n s lt, even) refl

pub kind-odd : (n s : ℕ) → s < n → is_even s ≡ false → has_kind (made_plan n) Notifying s ≡ true
unfolding made
kind-odd n s lt odd = rw (plan-at n s lt, odd) refl

all-filter : (p f : ℕ → Bool) (xs : List ℕ) → ((x : ℕ) → f x ≡ true → p x ≡ true) → list_all p (filter f xs) ≡ true
all-filter p f [] h = refl
all-filter p f (x ∷ xs) h = by (f x) refl (all-filter p f xs h)
  where
    by : (b : Bool) → f x ≡ b → list_all p (filter f xs) ≡ true → list_all p (filter f (x ∷ xs)) ≡ true
    by true is rest = rw (is, h x is) rest
    by false is rest = rw is rest

-- where the service before passes a test, all that the service depends on do
pub depends-pass : (n s : ℕ) (p : ℕ → Bool) → s < n → ((t : ℕ) → t + 1 ≡ s → p t ≡ true) → list_all p (depends (made_plan n) s) ≡ true
unfolding made
depends-pass n s p lt h =
    rw (plan-at n s lt)
    (all-filter p (edges_up_to (made_services n) (length (made_services n)) s) (range_with_len 0 (length (made_services n)))
    (λ t edge. h t (edge_before_one n (length (made_services n)) s t (services_length n) edge)))
