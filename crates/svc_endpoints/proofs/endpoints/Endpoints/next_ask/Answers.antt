use Rattle.std.proofs.Common.{sym, ◌∙◌}
use Rattle.svc_endpoints.proofs.DueLemmas.{never-failed}
use Rattle.svc_endpoints.proofs.endpoints.Endpoints.next_ask.Goals as goal

pub returns-then-has_failed : goal.returns-then-has_failed
returns-then-has_failed c = never-failed c.args.plan.now c.args.self.now.parts c.args.s (sym c.has_failed.ensures ∙ c.if-has_failed.true)
