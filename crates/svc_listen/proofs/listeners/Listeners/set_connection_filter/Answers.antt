use Rattle.svc_listen.proofs.ListLemmas.{in_force-filter}
use Rattle.svc_listen.proofs.listeners.Listeners.set_connection_filter.Goals as goal

pub invariant_of-self : goal.invariant_of-self
invariant_of-self c = rw c.set_filters.ensures (in_force-filter c.args.filter _ c.self.invariant)

pub returns-clause-in_force : goal.returns-clause-in_force
returns-clause-in_force c = rw c.set_filters.ensures (in_force-filter c.args.filter _ c.self.invariant)
