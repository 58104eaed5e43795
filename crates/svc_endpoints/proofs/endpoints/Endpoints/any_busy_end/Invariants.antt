use Rattle.std.proofs.Common.{◌-◌, Some}
use Rattle.svc_record.specs.Plans.{any_with}
use Rattle.svc_moments.proofs.LeastLemmas.{Swept}
use Rattle.svc_endpoints.specs.Visits.{busy_in, any_busy}
use Rattle.svc_endpoints.proofs.endpoints.Endpoints.any_busy_end.Given as goal

abbrev pub invariant-loop-t : goal.invariant-loop-t
invariant-loop-t l =
    Swept (λ m u. any_busy l.plan l.self.parts m (Some l.text) u) (λ m. any_with l.plan (Some l.text) (busy_in l.self.parts m)) l.from l.end

abbrev pub decreases-loop-t : goal.decreases-loop-t
decreases-loop-t l = 1024 - l.from
