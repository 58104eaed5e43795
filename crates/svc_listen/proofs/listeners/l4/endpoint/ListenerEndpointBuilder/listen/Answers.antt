use Rattle.svc_listen.proofs.ListenLemmas.{listens-cause}
use Rattle.svc_listen.proofs.listeners.l4.endpoint.ListenerEndpointBuilder.listen.Goals as goal

pub returns-in-Some-clause-listens : goal.returns-in-Some-clause-listens
returns-in-Some-clause-listens g c = rw c.in-Some.is c.listen_with.ensures.listens

pub returns-in-None-clause-listens : goal.returns-in-None-clause-listens
returns-in-None-clause-listens g c = rw c.in-None.is c.listen_alone.ensures.listens

pub returns-in-Some-clause-cause : goal.returns-in-Some-clause-cause
returns-in-Some-clause-cause g c = listens-cause _ c.args.self _ _ _ _ _ c.listen_with.ensures.listens

pub returns-in-None-clause-cause : goal.returns-in-None-clause-cause
returns-in-None-clause-cause g c = listens-cause _ c.args.self _ _ _ _ _ c.listen_alone.ensures.listens
