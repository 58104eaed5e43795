use Rattle.std.proofs.Common.{Bool, inl, subst}
use Rattle.svc_core.specs.WaitsState.{KnowsReady}
use Rattle.svc_core.proofs.WaitsLemmas.{opens-none}
use Rattle.svc_core.proofs.PlaceLemmas.{on-fresh}
use Rattle.svc_core.proofs.waits.Waits.catch_up.Goals as goal

pub returns-then-is_fresh_at-clause-opens : goal.returns-then-is_fresh_at-clause-opens
returns-then-is_fresh_at-clause-opens c = opens-none c.args.order.now c.args.self.now

pub returns-then-is_fresh_at-clause-complete : goal.returns-then-is_fresh_at-clause-complete
returns-then-is_fresh_at-clause-complete c = c.is_fresh_at.ensures.complete c.if-is_fresh_at.true

pub returns-then-is_fresh_at-clause-ready : goal.returns-then-is_fresh_at-clause-ready
returns-then-is_fresh_at-clause-ready c =
    subst (λ (complete : Bool). KnowsReady c.args.plan.now c.args.starts.now c.args.failed.now complete c.args.self.now)
    (c.is_fresh_at.ensures.complete c.if-is_fresh_at.true)
    (on-fresh c.args.self.now.fresh (c.is_fresh_at.ensures.fresh c.if-is_fresh_at.true) c.requires.watched)

pub returns-then-is_fresh_at-clause-only : goal.returns-then-is_fresh_at-clause-only
returns-then-is_fresh_at-clause-only c = λ t on. inl on
