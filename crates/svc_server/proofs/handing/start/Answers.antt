use Rattle.std.proofs.Common.{subst, sym, Option}
use Rattle.std.specs.Prelude.{IfSome}
use Rattle.svc_record.specs.declared.action.Action.TheVariants.{Start}
use Rattle.svc_server.specs.Hosts.{Account, MayTell}
use Rattle.svc_server.specs.Handing.{names_left}
use Rattle.svc_server.proofs.HandLemmas.{may-start, hands-started, none-taken}
use Rattle.svc_server.proofs.handing.start.Goals as goal

pub tell-requires-clause-handed : goal.tell-requires-clause-handed
tell-requires-clause-handed g c =
    subst (λ (o : Option Account). IfSome o (MayTell (Start c.args.s))) (sym c.hand.ensures.account)
    (may-start (g.H.Host.account c.args.host.now) c.requires.may.0 c.requires.may.1.0 c.args.s
    (g.B.ServiceWithDependents.named c.in-Some.service) c.requires.may.1.1.0.told_is)

pub unreachable-requires : goal.unreachable-requires
unreachable-requires g c =
    none-taken (names_left g.B.ServiceWithDependents.named c.args.pending.now)
    (g.H.Host.account c.args.host.now) c.requires.may.0 c.requires.may.1.0 c.args.s c.requires.may.1.1.0 c.requires.may.1.1.1 c.in-None.ensures.taken

pub returns-clause-hands : goal.returns-clause-hands
returns-clause-hands g c = λ p q h due.
    hands-started (names_left g.B.ServiceWithDependents.named c.args.pending.now) (names_left g.B.ServiceWithDependents.named c.take.new.self)
    (g.H.Host.account c.args.host.now) (g.H.Host.account c.hand.new.self)
    (g.H.Host.account c.tell.new.self) p q c.args.s
    (g.B.ServiceWithDependents.named c.in-Some.service) c.take.ensures.left c.hand.ensures.account c.tell.ensures.account c.in-Some.ensures.taken h due
