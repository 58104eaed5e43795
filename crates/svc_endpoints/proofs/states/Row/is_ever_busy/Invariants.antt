use Rattle.std.proofs.Common.{◌<◌, ℕ, slice_index_or}
use Rattle.svc_endpoints.specs.EndpointsState.{idle}
use Rattle.svc_endpoints.specs.Calm.{IsCalm}
use Rattle.svc_endpoints.proofs.states.Row.is_ever_busy.Given as goal

abbrev pub invariant-loop-k : goal.invariant-loop-k
invariant-loop-k l = (j : ℕ) → j < l.k → IsCalm l.failed (slice_index_or l.self j idle).last
