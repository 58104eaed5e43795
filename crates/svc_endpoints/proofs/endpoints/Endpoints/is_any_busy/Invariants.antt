use Rattle.std.proofs.Common.{◌≡◌, ◌<◌, ◌-◌, Some, ℕ, false}
use Rattle.svc_endpoints.specs.Visits.{any_busy}
use Rattle.svc_endpoints.proofs.endpoints.Endpoints.is_any_busy.Given as goal

abbrev pub invariant-loop-t : goal.invariant-loop-t
invariant-loop-t l = (u : ℕ) → u < l.from → any_busy l.plan l.self.parts l.moment (Some l.text) u ≡ false

abbrev pub decreases-loop-t : goal.decreases-loop-t
decreases-loop-t l = 1024 - l.from
