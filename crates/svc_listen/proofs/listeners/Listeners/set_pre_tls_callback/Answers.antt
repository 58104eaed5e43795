use Rattle.svc_listen.proofs.ListLemmas.{in_force-callback}
use Rattle.svc_listen.proofs.listeners.Listeners.set_pre_tls_callback.Goals as goal

pub invariant_of-self : goal.invariant_of-self
invariant_of-self c = rw c.set_callbacks.ensures (in_force-callback c.args.callback _ c.self.invariant)

pub returns-clause-in_force : goal.returns-clause-in_force
returns-clause-in_force c = rw c.set_callbacks.ensures (in_force-callback c.args.callback _ c.self.invariant)
