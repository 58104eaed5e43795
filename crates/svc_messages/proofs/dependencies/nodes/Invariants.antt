use Rattle.svc_text.proofs.EdgeLemmas.{HasNodes}
use Rattle.svc_messages.proofs.dependencies.nodes.Given as goal

abbrev pub invariant-loop-service : goal.invariant-loop-service
invariant-loop-service l = HasNodes l.graph l.service-index
