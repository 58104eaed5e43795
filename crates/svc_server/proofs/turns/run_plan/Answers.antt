use Rattle.std.proofs.Common.{List, length, ap}
use Rattle.svc_server.proofs.SaidLemmas.{names-now}
use Rattle.svc_server.proofs.TurnLemmas.{hands-first}
use Rattle.svc_server.proofs.turns.run_plan.Goals as goal

pub run-answer-requires-clause-hands : goal.run-answer-requires-clause-hands
run-answer-requires-clause-hands g c =
    hands-first g.B.ServiceWithDependents.named c.args.services.items c.in-Ok.begun.pending
    (g.H.Host.account c.args.host.now) c.args.planned.plan c.in-Ok.begun.core.plan c.in-Ok.ensures.plan
    c.in-Ok.ensures.left c.requires.names c.requires.first

pub run-answer-requires-clause-known : goal.run-answer-requires-clause-known
run-answer-requires-clause-known g c =
    names-now c.args.planned.plan c.in-Ok.begun.core.plan (length c.args.filters) (length c.in-Ok.begun.filters) c.in-Ok.ensures.plan
    (ap (λ (fs : List g.row.F.Denot). length fs) c.in-Ok.ensures.filters) c.requires.known
