use Rattle.svc_listen.proofs.SetLemmas.{given-settings}
use Rattle.svc_listen.proofs.listeners.l4.arrivals.with_options.Goals as goal

pub returns : goal.returns
returns c = given-settings c.args.opt.now _ _ _ _ c.keepalive_step.ensures c.dscp_step.ensures c.send_step.ensures c.receive_step.ensures
