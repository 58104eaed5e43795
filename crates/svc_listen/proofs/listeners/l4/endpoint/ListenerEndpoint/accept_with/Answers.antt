use Rattle.svc_listen.proofs.AcceptLemmas.{accepts-given}
use Rattle.svc_listen.proofs.listeners.l4.endpoint.ListenerEndpoint.accept_with.Goals as goal

pub returns-clause-given : goal.returns-clause-given
returns-clause-given g c = accepts-given _ _ _ _ _ _ _ _ _ _ c.take_arrival.ensures
