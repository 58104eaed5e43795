use Rattle.std.proofs.Common.{arith, sym, ◌∙◌, Some}
use Rattle.svc_endpoints.specs.Visits.{busy_in}
use Rattle.svc_endpoints.proofs.BusyLemmas.{one-with}
use Rattle.svc_endpoints.proofs.endpoints.Endpoints.is_last_busy.Goals as goal

pub returns : goal.returns
returns c = λ h.
    let s = c.service_count.ensures in
    let i = c.endpoint_count.ensures in
    one-with c.args.plan.now (Some c.args.text.now) (busy_in c.args.self.now.parts c.args.moment) c.last_asked-s.result.0 c.last_asked-s.result.1
    (omega (arith, s)) (omega (arith, i)) (sym c.is_busy_at.ensures ∙ h)
