-- What contracts see of a core.
use Rattle.std.specs.Prelude.{ℕ, Bool, true, false, List}
use Rattle.svc_record.specs.declared.plan.Plan.{Plan}
use Rattle.svc_record.specs.declared.action.StepEnd.{StepEnd}
use Rattle.svc_record.specs.declared.action.StepEnd.TheVariants.{On, Served}
use Rattle.svc_record.specs.Validity.{IsValid, IsStartupOrder, IsInOrder}
use Rattle.svc_endpoints.specs.EndpointsData.{EndpointsData}
use Rattle.svc_endpoints.specs.EndpointsState.{IsEndpointsSized}
use Rattle.svc_boot.specs.BootData.{BootData}
use Rattle.svc_offer.specs.OfferData.{OfferData}
use Rattle.svc_drain.specs.DrainData.{DrainData}
use Rattle.svc_connections.specs.ConnectionsData.{ConnectionsData}
use Rattle.svc_core.specs.StartsData.{StartsData}
use Rattle.svc_core.specs.StartsState.{IsStartsSized}

-- the plan, the services in their startup order, the parts, and what the last step left of the run
pub record CoreData : Type 0 where
  pub plan : Plan
  pub order : List ℕ
  pub starts : StartsData
  pub endpoints : EndpointsData
  pub boot : BootData
  pub offer : OfferData
  pub drain : DrainData
  pub connections : ConnectionsData
  pub end : StepEnd

-- the run goes on
abbrev pub is_on : StepEnd → Bool
is_on On = true
is_on _ = false

-- it went through its shutdown
abbrev pub is_served : StepEnd → Bool
is_served Served = true
is_served _ = false

-- the core with this end
abbrev pub with_end : StepEnd → CoreData → CoreData
with_end end core = record core { end = end }

-- the order and the parts fit the plan
pub record IsFormed (p : Plan) (order : List ℕ) (st : StartsData) (d : EndpointsData) : Type 0 where
  pub valid : IsValid p
  pub in_order : IsInOrder p order
  pub least : IsStartupOrder p order
  pub starts : IsStartsSized p st
  pub endpoints : IsEndpointsSized p d
