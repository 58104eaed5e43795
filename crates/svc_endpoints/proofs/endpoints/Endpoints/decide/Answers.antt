use Rattle.std.proofs.Common.{arith, sym, ◌∙◌}
use Rattle.svc_endpoints.proofs.VisitLemmas.{decided-at}
use Rattle.svc_endpoints.proofs.endpoints.Endpoints.decide.Goals as goal

pub returns-clause-is : goal.returns-clause-is
returns-clause-is c =
    let e = c.endpoint_count.ensures in
    decided-at c.args.plan.now c.args.self.now.parts c.args.s c.args.started c.args.moment c.first_missing-j.result c.decide_at.result c.if-not-started.false
    (sym c.has_failed.ensures ∙ c.if-has_failed.false)
    (record { within = omega (arith, e); missing = c.first_missing-j.ensures.missing (omega (arith, e)); earlier = c.first_missing-j.ensures.earlier })
    c.decide_at.ensures.is
