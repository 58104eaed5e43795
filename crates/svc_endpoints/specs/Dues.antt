-- When a visit of a started service tells something.
use Rattle.std.specs.Prelude.{ℕ, Bool, true, false, ◌≡◌}
use Rattle.svc_record.specs.declared.plan.Plan.{Plan}
use Rattle.svc_endpoints.specs.declared.visit.Visit.{Visit}
use Rattle.svc_endpoints.specs.declared.visit.Visit.TheVariants.{Nothing}
use Rattle.svc_endpoints.specs.EndpointsData.{EndpointsData}
use Rattle.svc_endpoints.specs.EndpointsState.{failed_at}
use Rattle.svc_endpoints.specs.Visits.{IsFirst, decide_at}

-- the visit tells nothing
abbrev pub is_silent : Visit → Bool
is_silent Nothing = true
is_silent _ = false

-- the service hasn't failed, and a visit of it at the moment t offers a descriptor to its first endpoint that isn't held, or binds it
pub record AsksAt (p : Plan) (d : EndpointsData) (s t : ℕ) : Type 0 where
  pub free : failed_at d s ≡ false
  pub at : ℕ
  pub first : IsFirst p d s at
  pub asks : is_silent (decide_at p d s t at) ≡ false
