use Rattle.svc_text.proofs.EdgeLemmas.{HasNodes}
use Rattle.svc_plans.proofs.plan_parts.graph_of.Given as goal

abbrev pub invariant-loop-line : goal.invariant-loop-line
invariant-loop-line l = HasNodes l.graph l.line-index
