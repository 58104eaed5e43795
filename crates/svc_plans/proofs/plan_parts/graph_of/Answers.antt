use Rattle.std.proofs.Common.{arith}
use Rattle.svc_text.proofs.EdgeLemmas.{nodes_start}
use Rattle.svc_plans.proofs.plan_parts.graph_of.Goals as goal

pub returns : goal.returns
returns c = nodes_start c.loop-line.graph c.args.services.now c.loop-line.line-index (omega (arith, c.loop-line-test.false)) c.loop-line.invariant
