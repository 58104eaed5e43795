use Rattle.std.proofs.Common.{◌≡◌, ◌<◌, Some, ℕ, false, ◌&&◌}
use Rattle.svc_record.specs.Plans.{address, same_address}
use Rattle.svc_endpoints.specs.Visits.{busy_in}
use Rattle.svc_endpoints.proofs.endpoints.Endpoints.is_row_busy.Given as goal

abbrev pub invariant-loop-k : goal.invariant-loop-k
invariant-loop-k l = (j : ℕ) → j < l.k → (same_address (address l.plan l.t j) (Some l.text) && busy_in l.self.parts l.moment l.t j) ≡ false
