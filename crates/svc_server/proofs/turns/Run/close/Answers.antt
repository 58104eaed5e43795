use Rattle.std.proofs.Common.{None}
use Rattle.svc_base.specs.Items.{list_of}
use Rattle.svc_server.specs.Handing.{names_left}
use Rattle.svc_server.proofs.CloseLemmas.{may-close, closed}
use Rattle.svc_server.proofs.turns.Run.close.Goals as goal

pub tell_all-requires-clause-may : goal.tell_all-requires-clause-may
tell_all-requires-clause-may g c =
    may-close c.args.self.now.core (names_left g.B.ServiceWithDependents.named c.args.self.now.pending) (g.H.Host.account c.args.host.now) None
    (list_of c.args.self.now.closing)
    (list_of c.close_all.new.actions) c.close_all.ensures.closes c.requires.room.empty c.requires.can

pub returns-clause-closed : goal.returns-clause-closed
returns-clause-closed g c =
    let named = g.B.ServiceWithDependents.named in
    closed c.args.self.now.core (names_left named c.args.self.now.pending) (names_left named c.tell_all.new.pending) (g.H.Host.account c.args.host.now)
    (g.H.Host.account c.tell_all.new.host) None
    (list_of c.args.self.now.closing) (list_of c.close_all.new.actions) c.close_all.ensures.closes c.requires.room.empty c.tell_all.ensures.hands
