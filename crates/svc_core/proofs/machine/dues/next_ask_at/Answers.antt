use Rattle.std.proofs.Common.{sym, ◌∙◌}
use Rattle.svc_core.proofs.DueLemmas.{there-none, there-some}
use Rattle.svc_core.proofs.machine.dues.next_ask_at.Goals as goal

pub returns-then-not-is_started : goal.returns-then-not-is_started
returns-then-not-is_started c =
    there-none c.args.plan.now c.args.order.now c.args.starts.now.started c.args.endpoints.now.parts c.args.k
    (sym c.is_started.ensures ∙ c.if-not-is_started.true)

pub returns : goal.returns
returns c =
    there-some c.args.plan.now c.args.order.now c.args.starts.now.started c.args.endpoints.now.parts c.args.k c.next_ask.result
    (sym c.is_started.ensures ∙ c.if-not-is_started.false) c.next_ask.ensures
