use Rattle.std.proofs.Common.{◌&&◌, Some}
use Rattle.svc_record.specs.Plans.{address, same_address}
use Rattle.svc_moments.proofs.LeastLemmas.{Swept}
use Rattle.svc_endpoints.specs.Visits.{busy_in, any_busy}
use Rattle.svc_endpoints.proofs.endpoints.Endpoints.row_busy_end.Given as goal

abbrev pub invariant-loop-k : goal.invariant-loop-k
invariant-loop-k l =
    Swept (λ m j. same_address (address l.plan l.t j) (Some l.text) && busy_in l.self.parts m l.t j) (λ m. any_busy l.plan l.self.parts m (Some l.text) l.t)
    l.k l.end
