use Rattle.std.proofs.Common.{sym, ◌∙◌}
use Rattle.svc_endpoints.proofs.EndedLemmas.{serves-first}
use Rattle.svc_endpoints.proofs.endpoints.Endpoints.serves.Goals as goal

pub returns : goal.returns
returns c = serves-first c.args.plan.now c.args.self.now.parts c.args.s c.args.started c.first_missing.result c.endpoint_count.result c.if-not-started.false
    (sym c.has_failed.ensures ∙ c.if-has_failed.false) c.endpoint_count.ensures c.first_missing.ensures.missing c.first_missing.ensures.earlier
