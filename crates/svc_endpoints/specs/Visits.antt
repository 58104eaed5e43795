-- One visit of a service: what it tells, and what it leaves.
use Rattle.std.specs.Prelude.{ℕ, Bool, true, false, ◌≡◌, ◌<◌, not, ◌&&◌, ◌||◌, List, [], ◌∷◌, Option, Some, None, length, if◌then◌else◌}
use Rattle.std.specs.List.{list_any}
use Rattle.svc_record.specs.declared.plan.Plan.{Plan}
use Rattle.svc_record.specs.declared.action.Action.{Action}
use Rattle.svc_record.specs.declared.action.Action.TheVariants.{Bind, Adopt}
use Rattle.svc_record.specs.Plans.{endpoints, address, any_with, same_address, endpoint_numbers}
use Rattle.svc_record.specs.Record.{Record, has, tell}
use Rattle.svc_record.specs.Endpoints.{endpoint_right, endpoint_right_late}
use Rattle.svc_record.specs.Closes.{is_broadcast}
use Rattle.svc_endpoints.specs.declared.states.EndpointStatus.{EndpointStatus}
use Rattle.svc_endpoints.specs.declared.visit.Visit.{Visit}
use Rattle.svc_endpoints.specs.declared.visit.Visit.TheVariants.{Nothing, Binds, Adopts}
use Rattle.svc_endpoints.specs.EndpointsData.{EndpointsData}
use Rattle.svc_endpoints.specs.EndpointsState.{last_at, failed_at, numbers_with, is_asking, is_holding, rests_in, EndpointsStand}
use Rattle.svc_endpoints.specs.Effects.{first_of, asked, offered}

-- an ask is open, or it rests, while no live descriptor has its address
abbrev pub busy_of : Bool → ℕ → EndpointStatus → Bool
busy_of failed moment x = is_asking x || (not failed && rests_in x moment)

-- the same of endpoint k of t
abbrev pub busy_in : EndpointsData → ℕ → ℕ → ℕ → Bool
busy_in d moment t k = busy_of (failed_at d t) moment (last_at d t k)

-- the same for one of the service's endpoints with the address
abbrev pub any_busy : Plan → EndpointsData → ℕ → Option (List ℕ) → ℕ → Bool
any_busy p d moment a t = list_any (λ k. same_address (address p t k) a && busy_in d moment t k) (endpoint_numbers p t)

-- the actions of a visit
abbrev pub told_by : ℕ → Visit → List Action
told_by s Nothing = []
told_by s (Binds i) = Bind s i ∷ []
told_by s (Adopts i fd) = Adopt s i fd ∷ []

-- what the visit makes of the states
abbrev pub after : EndpointsData → ℕ → Visit → EndpointsData
after d s Nothing = d
after d s (Binds i) = asked d s i
after d s (Adopts i fd) = offered d s i fd

-- the endpoint is one of the service
abbrev pub IsWithin : Plan → ℕ → Visit → Type 0
IsWithin p s Nothing = Unit {0}
IsWithin p s (Binds i) = i < length (endpoints p s)
IsWithin p s (Adopts i fd) = i < length (endpoints p s)

-- the first endpoint that isn't held
pub record IsFirst (p : Plan) (d : EndpointsData) (s j : ℕ) : Type 0 where
  pub within : j < length (endpoints p s)
  pub missing : is_holding (last_at d s j) ≡ false
  pub earlier : (k : ℕ) → k < j → is_holding (last_at d s k) ≡ true

-- offered what is live of its address, else asked for where nobody is busy with the address
abbrev pub adopt_or_bind : Bool → ℕ → Option ℕ → Visit
adopt_or_bind kept_busy j (Some fd) = Adopts j fd
adopt_or_bind kept_busy j None = if kept_busy then Nothing else Binds j

-- what is done for the first endpoint that isn't held
abbrev pub decide_at : Plan → EndpointsData → ℕ → ℕ → ℕ → Visit
decide_at p d s moment j =
    if is_asking (last_at d s j) then Nothing
    else adopt_or_bind (any_with p (address p s j) (busy_in d moment)) j (first_of (numbers_with d.table (address p s j)))

-- what is done for the service: nothing where it isn't started, has failed or has all it needs
pub record IsDecided (p : Plan) (d : EndpointsData) (s : ℕ) (on : Bool) (moment : ℕ) (v : Visit) : Type 0 where
  pub off : on ≡ false → v ≡ Nothing
  pub failed : failed_at d s ≡ true → v ≡ Nothing
  pub held : on ≡ true → failed_at d s ≡ false → ((i : ℕ) → i < length (endpoints p s) → is_holding (last_at d s i) ≡ true) → v ≡ Nothing
  pub first : on ≡ true → failed_at d s ≡ false → (j : ℕ) → IsFirst p d s j → v ≡ decide_at p d s moment j

-- nothing, or one ask of an endpoint of the service
abbrev pub IsAskOf : ℕ → List Action → Type 0
IsAskOf s [] = Unit {0}
IsAskOf s (Bind t i ∷ []) = t ≡ s
IsAskOf s (Adopt t i fd ∷ []) = t ≡ s
IsAskOf s _ = ⊥

-- after a visit the parts stand for the longer record, and each endpoint of the service is held or waits, where the service is at work; before the
-- broadcast what is held is live
pub record Visited (p : Plan) (d : EndpointsData) (s : ℕ) (q : Record) (told : List Action) : Type 0 where
  pub stands : EndpointsStand p d (tell q told)
  pub right : has is_broadcast q ≡ false → (i : ℕ) → i < length (endpoints p s) → endpoint_right p (tell q told) s i ≡ true
  pub right_late : (i : ℕ) → i < length (endpoints p s) → endpoint_right_late p (tell q told) s i ≡ true
