use Rattle.svc_core.proofs.DueLemmas.{among-none, among-more}
use Rattle.svc_core.proofs.machine.dues.next_ask.Goals as goal

pub loop-k-init : goal.loop-k-init
loop-k-init c = among-none c.args.plan.now c.args.order.now c.args.starts.now.started c.args.endpoints.now.parts

pub loop-k-preserved : goal.loop-k-preserved
loop-k-preserved c =
    among-more c.args.plan.now c.args.order.now c.args.starts.now.started c.args.endpoints.now.parts c.loop-k.k c.loop-k.least c.next_ask_at.result
    _ c.earlier-least.ensures c.loop-k.invariant c.next_ask_at.ensures
