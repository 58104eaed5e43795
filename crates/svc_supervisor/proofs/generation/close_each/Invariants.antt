use Rattle.svc_supervisor.proofs.ClosingLemmas.{ClosedUpTo}
use Rattle.svc_supervisor.proofs.generation.close_each.Given as goal

abbrev pub invariant-loop-generation : goal.invariant-loop-generation
invariant-loop-generation l = ClosedUpTo l.generation-index l.fn.generations l.generations
