use Rattle.svc_listen.proofs.SetLemmas.{step_tried}
use Rattle.svc_listen.proofs.listeners.l4.arrivals.set_step.Goals as goal

pub returns-in-Some : goal.returns-in-Some
returns-in-Some g c = step_tried c.set.result c.args.c c.args.step c.in-Some.setting _ _ c.in-Some.is c.set.ensures
