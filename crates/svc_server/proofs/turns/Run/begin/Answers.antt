use Rattle.std.proofs.Common.{refl}
use Rattle.svc_base.specs.Items.{list_of}
use Rattle.svc_streams.specs.Verdicts.{verdict_at}
use Rattle.svc_server.specs.Handing.{names_left}
use Rattle.svc_server.proofs.HandLemmas.{hands-same}
use Rattle.svc_server.proofs.StepLemmas.{may-begin, begin-leaves}
use Rattle.svc_server.proofs.turns.Run.begin.Goals as goal

pub tell_all-requires-clause-may : goal.tell_all-requires-clause-may
tell_all-requires-clause-may g c =
    let left = names_left g.B.ServiceWithDependents.named c.args.self.now.pending in
    may-begin c.begin.new.self c.args.self.now.core.plan left (g.H.Host.account c.reserve-2.new.self) (list_of c.new-actions.result)
    (list_of c.begin.new.actions) (list_of c.begin.new.actions) c.in-Ok.end
    c.in-Ok.ensures.kept c.new-actions.ensures refl c.in-Ok.ensures.plan
    (hands-same left left (g.H.Host.account c.args.host.now)
    (g.H.Host.account c.reserve-2.new.self) c.args.self.now.core.plan _ refl c.reserve-2.ensures.account c.requires.hands)

pub returns-in-Ok-clause-leaves : goal.returns-in-Ok-clause-leaves
returns-in-Ok-clause-leaves g c =
    let left = names_left g.B.ServiceWithDependents.named c.args.self.now.pending in
    begin-leaves (verdict_at g.F.ConnectionFilter.verdict c.args.self.now.filters) c.begin.new.self c.args.self.now.core.plan left
    (names_left g.B.ServiceWithDependents.named c.tell_all.new.pending) (g.H.Host.account c.reserve-2.new.self)
    (g.H.Host.account c.tell_all.new.host) (list_of c.new-actions.result) (list_of c.begin.new.actions)
    (list_of c.begin.new.actions) c.in-Ok.end c.in-Ok.ensures.kept c.in-Ok.ensures.judged
    c.new-actions.ensures refl c.in-Ok.ensures.plan
    (hands-same left left (g.H.Host.account c.args.host.now)
    (g.H.Host.account c.reserve-2.new.self) c.args.self.now.core.plan _ refl c.reserve-2.ensures.account c.requires.hands)
    c.tell_all.ensures.hands
