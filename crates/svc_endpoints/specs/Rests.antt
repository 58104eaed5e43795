-- How a started service stands, as far as a visit of it goes.
use Rattle.std.specs.Prelude.{ℕ, true, false, ◌≡◌, ◌≢◌, ◌<◌, ◌≤◌, ◌⊎◌, List, Option, length}
use Rattle.svc_record.specs.declared.plan.Plan.{Plan}
use Rattle.svc_record.specs.Plans.{service_count, endpoints, address, same_address}
use Rattle.svc_endpoints.specs.declared.rests.Standing.{Standing}
use Rattle.svc_endpoints.specs.declared.rests.Standing.TheVariants.{Served, Asking, Resting, Behind, Due}
use Rattle.svc_endpoints.specs.EndpointsData.{EndpointsData}
use Rattle.svc_endpoints.specs.EndpointsState.{last_at, failed_at, is_asking, is_holding}
use Rattle.svc_endpoints.specs.Effects.{has_open}
use Rattle.svc_endpoints.specs.Visits.{IsFirst, busy_in}

-- there is nothing to ask for: the service has failed, or each of its endpoints is held
abbrev pub HasAll : Plan → EndpointsData → ℕ → Type 0
HasAll p d s = (failed_at d s ≡ true) ⊎ ((i : ℕ) → i < length (endpoints p s) → is_holding (last_at d s i) ≡ true)

-- an endpoint with the address is the first of its service that isn't held, and is asked for
pub record AsksWith (p : Plan) (d : EndpointsData) (t k : ℕ) (a : Option (List ℕ)) : Type 0 where
  pub first : IsFirst p d t k
  pub asks : is_asking (last_at d t k) ≡ true
  pub same : same_address (address p t k) a ≡ true

-- the first endpoint of s that isn't held has the address of the first one of t that isn't, which no live descriptor has
pub record SharesWith (p : Plan) (d : EndpointsData) (s t : ℕ) : Type 0 where
  pub at : ℕ
  pub first : IsFirst p d s at
  pub none : has_open d.table (address p s at) ≡ false
  pub other : ℕ
  pub other_first : IsFirst p d t other
  pub same : same_address (address p t other) (address p s at) ≡ true

-- the first endpoints of s and t that aren't held have one address
pub record LackSame (p : Plan) (d : EndpointsData) (s t : ℕ) : Type 0 where
  pub at : ℕ
  pub first : IsFirst p d s at
  pub other : ℕ
  pub other_first : IsFirst p d t other
  pub same : address p t other ≡ address p s at

-- no other service has an endpoint with the address of endpoint i of s
abbrev pub IsAlone : Plan → ℕ → ℕ → Type 0
IsAlone p s i = (t k : ℕ) → t < service_count p → k < length (endpoints p t) → t ≢ s → same_address (address p s i) (address p t k) ≡ false

-- it is busy at each moment up to this one
abbrev pub IsBusyUntil : EndpointsData → ℕ → ℕ → ℕ → Type 0
IsBusyUntil d t k end = (moment : ℕ) → moment ≤ end → busy_in d moment t k ≡ true

-- the first endpoint of the service that isn't held is asked for
pub record AsksFirst (p : Plan) (d : EndpointsData) (s : ℕ) : Type 0 where
  pub at : ℕ
  pub first : IsFirst p d s at
  pub asks : is_asking (last_at d s at) ≡ true

-- it rests at the moment, and up to the end
pub record RestsUntil (p : Plan) (d : EndpointsData) (s moment end : ℕ) : Type 0 where
  pub shares : SharesWith p d s s
  pub busy : IsBusyUntil d s shares.other end
  pub lasts : moment ≤ end

-- its address is asked for by t
pub record WaitsBehind (p : Plan) (d : EndpointsData) (s t : ℕ) : Type 0 where
  pub inside : t < service_count p
  pub shares : SharesWith p d s t
  pub asks : is_asking (last_at d t shares.other) ≡ true

-- the service stands so at the moment
abbrev pub IsStanding : Plan → EndpointsData → ℕ → ℕ → Standing → Type 0
IsStanding p d s moment Served = HasAll p d s
IsStanding p d s moment Asking = AsksFirst p d s
IsStanding p d s moment (Resting end) = RestsUntil p d s moment end
IsStanding p d s moment (Behind t) = WaitsBehind p d s t
IsStanding p d s moment Due = Unit {0}
