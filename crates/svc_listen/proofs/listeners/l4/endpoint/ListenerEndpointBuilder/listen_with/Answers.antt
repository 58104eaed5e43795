use Rattle.std.proofs.Common.{ap}
use Rattle.svc_listen.proofs.ListenLemmas.{listens-no_address, listens-ok, listens-err}
use Rattle.svc_listen.proofs.listeners.l4.endpoint.ListenerEndpointBuilder.listen_with.Goals as goal

pub returns-in-None-clause-listens : goal.returns-in-None-clause-listens
returns-in-None-clause-listens g c =
    listens-no_address _ c.args.self _ _ c.self.inside.listen_addr c.self.inside.connection_filter _ c.self.view_is c.in-None.is
    (ap (λ r. r.reason) c.refused.ensures)

pub returns-in-Ok-clause-listens : goal.returns-in-Ok-clause-listens
returns-in-Ok-clause-listens g c =
    listens-ok _ c.args.self _ _ _ _ c.self.inside.listen_addr c.self.inside.connection_filter c.in-Some.addr c.in-Ok.number _ c.self.view_is c.in-Some.is
    c.in-Ok.ensures c.endpoint.ensures

pub returns-in-Err-clause-listens : goal.returns-in-Err-clause-listens
returns-in-Err-clause-listens g c =
    listens-err _ c.args.self _ _ _ _ c.self.inside.listen_addr c.self.inside.connection_filter c.in-Some.addr c.in-Err.reason _ c.self.view_is c.in-Some.is
    c.in-Err.ensures (ap (λ r. r.reason) c.refused-in-Err.ensures)
