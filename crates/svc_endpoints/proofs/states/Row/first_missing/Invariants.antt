use Rattle.std.proofs.Common.{◌≡◌, ◌<◌, ℕ, true, slice_index_or}
use Rattle.svc_endpoints.specs.EndpointsState.{is_holding, idle}
use Rattle.svc_endpoints.proofs.states.Row.first_missing.Given as goal

abbrev pub invariant-loop-i : goal.invariant-loop-i
invariant-loop-i l = (k : ℕ) → k < l.i → is_holding (slice_index_or l.self k idle).last ≡ true
