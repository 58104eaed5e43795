use Rattle.svc_socket.proofs.StepLemmas.{step_failed}
use Rattle.svc_socket.proofs.protocols.l4.ext.set_step.Goals as goal

pub returns-else-set : goal.returns-else-set
returns-else-set g c = step_failed c.args.step c.in-Some.given _ _ c.in-Some.is c.if-set.ensures
