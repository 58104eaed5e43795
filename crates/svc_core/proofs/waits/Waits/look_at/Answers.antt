use Rattle.std.proofs.Common.{true, inl, ◌≡◌, ◌∙◌, sym}
use Rattle.svc_core.specs.StartsState.{is_flagged, ready_now}
use Rattle.svc_core.proofs.CountLemmas.{and_clash, only-marked}
use Rattle.svc_core.proofs.WaitsLemmas.{marked-here, opens-none}
use Rattle.svc_core.proofs.waits.Waits.look_at.Goals as goal

pub returns-then-not-is_ready-clause-opens : goal.returns-then-not-is_ready-clause-opens
returns-then-not-is_ready-clause-opens c = opens-none c.args.order.now c.args.self.now

pub returns-then-not-is_ready-clause-ready : goal.returns-then-not-is_ready-clause-ready
returns-then-not-is_ready-clause-ready c = λ on.
    and_clash (ready_now c.args.plan.now c.args.starts.now c.args.failed.now c.args.complete c.args.s) on
    (sym c.is_ready.ensures ∙ c.if-not-is_ready.true) (is_flagged c.args.self.now.counts.marks c.args.s ≡ true)

pub returns-then-not-is_ready-clause-only : goal.returns-then-not-is_ready-clause-only
returns-then-not-is_ready-clause-only c = λ t on. inl on

pub returns-clause-opens : goal.returns-clause-opens
returns-clause-opens c = c.mark.ensures.opens

pub returns-clause-complete : goal.returns-clause-complete
returns-clause-complete c = c.mark.ensures.complete

pub returns-clause-ready : goal.returns-clause-ready
returns-clause-ready c = λ on. marked-here c.args.order.now c.args.s c.args.self.now c.mark.new.self c.mark.ensures

pub returns-clause-only : goal.returns-clause-only
returns-clause-only c =
    only-marked c.args.plan.now c.args.order.now c.args.starts.now c.args.failed.now c.args.complete c.args.s c.args.self.now c.mark.new.self
    (sym c.is_ready.ensures ∙ c.if-not-is_ready.false) c.mark.ensures
