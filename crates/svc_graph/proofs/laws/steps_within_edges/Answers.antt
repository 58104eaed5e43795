use Rattle.svc_graph.proofs.Waits.{steps-none, steps-mark, steps-most}
use Rattle.svc_graph.proofs.laws.steps_within_edges.Goals as goal

pub returns-clause-none : goal.returns-clause-none
returns-clause-none c = steps-none

pub returns-clause-each : goal.returns-clause-each
returns-clause-each c = steps-mark

pub returns-clause-most : goal.returns-clause-most
returns-clause-most c = steps-most
