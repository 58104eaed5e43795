-- The places that a pass visits, as its code holds them.
use Rattle.std.specs.Prelude.{ℕ, Bool, ◌<◌, ◌+◌, List, length, slice_index}
use Rattle.svc_base.specs.Items.{list_of}
use Rattle.svc_record.specs.declared.action.Action.{Action}
use Rattle.svc_endpoints.specs.EndpointsData.{EndpointsRoom}
use Rattle.svc_boot.specs.BootData.{BootData}
use Rattle.svc_core.specs.declared.pass.Place.{Place}
use Rattle.svc_core.specs.declared.pass.VisitedPlace.{VisitedPlace}
use Rattle.svc_core.specs.CoreData.{IsFormed}
use Rattle.svc_core.specs.Passes.{Starting, Passes}
use Rattle.svc_core.specs.StartsData.{StartsData}
use Rattle.svc_core.specs.WaitsData.{WaitsData}
use Rattle.svc_core.specs.WaitsState.{IsDueAt, IsHeir, IsKnown, StartsOnly}

-- the service at the place
abbrev pub service_at : Place → ℕ
service_at v = slice_index v.order.now v.place

-- the service may be visited: it is started, or may start
abbrev pub MayVisit : Place → StartsData → List Bool → Bool → Type 0
MayVisit v st failed complete = IsDueAt v.plan.now st failed complete (service_at v)

-- no other service is started, and this one only where it is due
abbrev pub StartsNoOther : Place → List Bool → Bool → StartsData → StartsData → Type 0
StartsNoOther v failed complete st st' = StartsOnly v.plan.now failed complete (service_at v) st st'

-- what is known of the places, as the pass has come to the place `from`
abbrev pub Knows : Place → ℕ → StartsData → EndpointsRoom → BootData → WaitsData → Type 0
Knows v from st d b w = IsKnown v.plan.now v.order.now st d.parts b.complete v.drain.now.moment from w

-- the first half of the place's visit, and its visit
abbrev pub StartsAt : Place → StartsData → StartsData → EndpointsRoom → BootData → BootData → List Action × ℕ → List Action × ℕ → Type 0
StartsAt v st st' d b b' before after = Starting v.plan.now v.order.now v.drain.now v.place st st' d.parts b b' (list_of before) (list_of after)

abbrev pub VisitsAt : Place → StartsData → StartsData → EndpointsRoom → EndpointsRoom → BootData → BootData → List Action × ℕ → List Action × ℕ → Type 0
VisitsAt v st st' d d' b b' before after =
    Passes v.plan.now v.order.now v.drain.now v.place (v.place + 1) st st' d.parts d'.parts b b' (list_of before) (list_of after)

-- the service at the place that was visited
abbrev pub service_of : VisitedPlace → ℕ
service_of v = slice_index v.order.now v.place

-- it is a place of the order, and the parts fit the plan
pub record IsPlaceFormed (v : VisitedPlace) : Type 0 where
  pub formed : IsFormed v.plan.now v.order.now v.starts.now v.endpoints.now.parts
  pub place : v.place < length v.order.now

-- what is known of the places after it, as the pass has come to the place `from`
abbrev pub KnowsPlaces : VisitedPlace → ℕ → WaitsData → Type 0
KnowsPlaces v from w = IsKnown v.plan.now v.order.now v.starts.now v.endpoints.now.parts v.complete v.moment from w

-- the place is that of an heir of what waits behind this one
abbrev pub IsNextHeir : VisitedPlace → WaitsData → ℕ → Type 0
IsNextHeir v w next = IsHeir v.plan.now v.order.now v.starts.now.started v.endpoints.now.parts w v.place next
