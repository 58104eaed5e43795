use Rattle.std.proofs.Common.{sym, ◌∙◌}
use Rattle.svc_core.proofs.PlaceLemmas.{known-unstarted}
use Rattle.svc_core.proofs.pass.VisitedPlace.settle.Goals as goal

pub returns-then-not-is_started : goal.returns-then-not-is_started
returns-then-not-is_started c =
    known-unstarted c.args.self.now.plan.now c.args.self.now.order.now c.args.self.now.starts.now c.args.self.now.endpoints.now.parts
    c.args.self.now.complete c.args.self.now.moment c.args.self.now.place
    c.args.waits.now (sym c.is_started.ensures ∙ c.if-not-is_started.true) c.requires.open c.requires.known
