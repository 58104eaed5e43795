-- An endpoint with an address that passes a test, among all.
use Rattle.std.proofs.Common.{ℕ, Bool, true, false, not, ◌&&◌, List, ◌≡◌, refl, arith, ◌<◌, length, Option}
use Rattle.std.specs.List.{list_any}
use Rattle.svc_record.specs.declared.plan.Plan.{Plan}
use Rattle.svc_record.specs.Plans.{service_count, endpoints, endpoint_numbers, address, same_address, any_with}
use Rattle.svc_endpoints.specs.declared.states.EndpointStatus.{EndpointStatus}
use Rattle.svc_endpoints.specs.declared.states.EndpointStatus.TheVariants.{Idle, Binding, AddressInUse, Adopting, Holding, AdoptionFailed}
use Rattle.svc_endpoints.specs.EndpointsState.{is_holding}
use Rattle.svc_endpoints.specs.Visits.{busy_of}
use Rattle.svc_endpoints.proofs.RangeLemmas.{at0}

pub one-with : (p : Plan) (a : Option (List ℕ)) (test : ℕ → ℕ → Bool) (s i : ℕ) → s < service_count p → i < length (endpoints p s)
    → (same_address (address p s i) a && test s i) ≡ true → any_with p a test ≡ true
one-with p a test s i inside within h = at0 (λ t. list_any (λ k. same_address (address p t k) a && test t k) (endpoint_numbers p t)) (service_count p) s inside
    (at0 (λ k. same_address (address p s k) a && test s k) (length (endpoints p s)) i within h)

-- what is held, and what nothing is known of, isn't busy
pub held-rests : (failed : Bool) (moment : ℕ) (x : EndpointStatus) → is_holding x ≡ true → busy_of failed moment x ≡ false
held-rests true moment (Holding fd) h = refl
held-rests false moment (Holding fd) h = refl
held-rests failed moment (Adopting fd) h = absurd (cc)
held-rests failed moment Idle h = absurd (cc)
held-rests failed moment Binding h = absurd (cc)
held-rests failed moment (AddressInUse at) h = absurd (cc)
held-rests failed moment AdoptionFailed h = absurd (cc)

pub idle-rests : (failed : Bool) (moment : ℕ) (x : EndpointStatus) → x ≡ Idle → busy_of failed moment x ≡ false
idle-rests failed moment x e = rw e (plain failed)
  where
    plain : (f : Bool) → (not f && false) ≡ false
    plain f = grind arith

pub and-none : (b c : Bool) → c ≡ false → (b && c) ≡ false
and-none b c h = grind arith
