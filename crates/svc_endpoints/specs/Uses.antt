-- Which descriptors are drained, by the states: held, and no longer used.
use Rattle.std.specs.Prelude.{ℕ, Bool, false, ◌==◌, not, ◌&&◌}
use Rattle.std.specs.List.{list_any, list_all}
use Rattle.svc_record.specs.declared.plan.Plan.{Plan}
use Rattle.svc_record.specs.Plans.{services, endpoint_numbers, is_endpoint}
use Rattle.svc_endpoints.specs.declared.states.EndpointStatus.{EndpointStatus}
use Rattle.svc_endpoints.specs.declared.states.EndpointStatus.TheVariants.{Adopting, Holding}
use Rattle.svc_endpoints.specs.EndpointsData.{EndpointsData}
use Rattle.svc_endpoints.specs.EndpointsState.{last_at, failed_at, is_holding, is_done}

-- the descriptor is offered to it
abbrev pub has_offer : ℕ → EndpointStatus → Bool
has_offer fd (Adopting n) = n == fd
has_offer fd _ = false

-- the descriptor holds it
abbrev pub has_held : ℕ → EndpointStatus → Bool
has_held fd (Holding n) = n == fd
has_held fd _ = false

-- the descriptor is offered to it, or holds it, and its service hasn't failed and isn't done with it
abbrev pub uses : ℕ → Bool → Bool → EndpointStatus → Bool
uses fd failed done (Adopting n) = n == fd
uses fd failed done (Holding n) = (not failed && not done) && n == fd
uses fd failed done _ = false

-- the endpoint holds the descriptor, and its service hasn't failed
abbrev pub is_holder_by : EndpointsData → ℕ → ℕ → ℕ → Bool
is_holder_by d fd s i = not (failed_at d s) && has_held fd (last_at d s i)

-- the endpoint uses the descriptor
abbrev pub is_user : Plan → EndpointsData → ℕ → ℕ → ℕ → Bool
is_user p d fd s i = uses fd (failed_at d s) (is_done p d s i) (last_at d s i)

-- some endpoint of the service passes the test
abbrev pub any_of : Plan → (ℕ → ℕ → Bool) → ℕ → Bool
any_of p test s = list_any (test s) (endpoint_numbers p s)

-- some endpoint does
abbrev pub any_endpoint : Plan → (ℕ → ℕ → Bool) → Bool
any_endpoint p test = list_any (any_of p test) (services p)

-- the descriptor is held, and no longer used
abbrev pub is_drained_by : Plan → EndpointsData → ℕ → Bool
is_drained_by p d fd = any_endpoint p (is_holder_by d fd) && not (any_endpoint p (is_user p d fd))

-- the service is started where on says so, hasn't failed, and all its endpoints are held
abbrev pub serves_by : Plan → EndpointsData → Bool → ℕ → Bool
serves_by p d on s = (on && not (failed_at d s)) && list_all (λ i. is_holding (last_at d s i)) (endpoint_numbers p s)

-- it serves, and a loop of its endpoint goes on
abbrev pub accepts_by : Plan → EndpointsData → Bool → ℕ → ℕ → Bool
accepts_by p d on s i = (serves_by p d on s && is_endpoint p s i) && not (is_done p d s i)
