use Rattle.svc_listen.proofs.AcceptLemmas.{accepts-cause, accepts-count}
use Rattle.svc_listen.proofs.listeners.stack.TransportStack.accept.Goals as goal

pub returns-clause-cause : goal.returns-clause-cause
returns-clause-cause g c = accepts-cause _ _ _ _ _ _ _ _ _ _ c.accept_with.ensures.taken

pub returns-clause-filters : goal.returns-clause-filters
returns-clause-filters g c = accepts-count _ _ _ _ _ _ _ _ _ _ c.accept_with.ensures.taken
