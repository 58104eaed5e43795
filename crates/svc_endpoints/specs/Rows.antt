-- What is kept beside the states of one service's endpoints.
use Rattle.std.specs.Prelude.{ℕ, true, ◌≡◌, ◌<◌, ◌≤◌, List, length, slice_index_or}
use Rattle.svc_endpoints.specs.declared.states.EndpointState.{EndpointState}
use Rattle.svc_endpoints.specs.declared.states.EndpointStatus.TheVariants.{Idle}
use Rattle.svc_endpoints.specs.EndpointsState.{idle, is_holding}

-- so many endpoints, the first ones, are held, and from another on nothing is known of any
pub record IsRowKept (states : List EndpointState) (held touched : ℕ) : Type 0 where
  pub within : held ≤ length states
  pub each : (k : ℕ) → k < held → is_holding (slice_index_or states k idle).last ≡ true
  pub idle_after : (k : ℕ) → touched ≤ k → (slice_index_or states k idle).last ≡ Idle
