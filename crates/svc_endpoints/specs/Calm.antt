-- Services none of whose endpoints is busy with its address, at whatever moment.
use Rattle.std.specs.Prelude.{ℕ, Bool, false, ◌≡◌, ◌≤◌, List, [], length, slice_index_or}
use Rattle.svc_graph.specs.Bits.{is_set, HasRows}
use Rattle.svc_endpoints.specs.declared.states.EndpointStatus.{EndpointStatus}
use Rattle.svc_endpoints.specs.declared.states.EndpointState.{EndpointState}
use Rattle.svc_endpoints.specs.EndpointsData.{EndpointsData}
use Rattle.svc_endpoints.specs.EndpointsState.{idle, failed_at}
use Rattle.svc_endpoints.specs.Visits.{busy_of}

-- the endpoint is busy at no moment, while its service has failed or hasn't
abbrev pub IsCalm : Bool → EndpointStatus → Type 0
IsCalm failed x = (moment : ℕ) → busy_of failed moment x ≡ false

-- the same of each endpoint of the row
abbrev pub IsRowCalm : Bool → List EndpointState → Type 0
IsRowCalm failed row = (k : ℕ) → IsCalm failed (slice_index_or row k idle).last

-- the same of each endpoint of the service
abbrev pub IsServiceCalm : EndpointsData → ℕ → Type 0
IsServiceCalm d s = IsRowCalm (failed_at d s) (slice_index_or d.rows s [])

-- of each service that isn't calm the bit is set
pub record AreBusyKnown (rows : List (List EndpointState)) (failed : List Bool) (busy : List ℕ) : Type 0 where
  pub few : length rows ≤ 1024
  pub flags : length failed ≡ length rows
  pub bits : HasRows busy 1
  pub calm : (s : ℕ) → is_set busy 0 s ≡ false → IsRowCalm (slice_index_or failed s false) (slice_index_or rows s [])
