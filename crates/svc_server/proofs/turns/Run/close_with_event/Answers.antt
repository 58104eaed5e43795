use Rattle.std.proofs.Common.{Some, Option, List, length, ap, subst, sym, arith}
use Rattle.svc_base.specs.Items.{list_of}
use Rattle.svc_record.specs.declared.action.Action.{Action}
use Rattle.svc_record.specs.declared.event.Event.{Event}
use Rattle.svc_server.specs.declared.host.Next.TheVariants as nexts
use Rattle.svc_server.specs.Hosts.{ComesWith, BringsFew}
use Rattle.svc_server.specs.Handing.{names_left}
use Rattle.svc_server.specs.Turns.{CanClose, ClosesTo}
use Rattle.svc_server.proofs.CloseLemmas.{need-room, may-close, closed}
use Rattle.svc_server.proofs.turns.Run.close_with_event.Goals as goal

pub close_all-requires : goal.close_all-requires
close_all-requires g c =
    let few : BringsFew c.event.result.now = subst (λ (o : Option Event). ComesWith nexts.Event o) c.event.ensures c.requires.few in
    omega (arith, need-room c.args.self.now.core c.event.result.now few, c.requires.room.list)

pub tell_all-requires-clause-room : goal.tell_all-requires-clause-room
tell_all-requires-clause-room g c =
    let few : BringsFew c.event.result.now = subst (λ (o : Option Event). ComesWith nexts.Event o) c.event.ensures c.requires.few in
    omega (
      arith,
      need-room c.args.self.now.core c.event.result.now few,
      c.requires.room.told,
      c.close_all.ensures.few,
      ap
          (λ (xs : List Action). length xs) c.requires.room.empty,
    )

pub tell_all-requires-clause-may : goal.tell_all-requires-clause-may
tell_all-requires-clause-may g c =
    let left = names_left g.B.ServiceWithDependents.named c.args.self.now.pending in
    let account = g.H.Host.account c.args.host.now in
    may-close c.args.self.now.core left account (Some c.event.result.now) (list_of c.args.self.now.closing)
    (list_of c.close_all.new.actions) c.close_all.ensures.closes c.requires.room.empty
    (subst (λ (o : Option Event). CanClose c.args.self.now.core left account o) c.event.ensures c.requires.can)

pub returns-clause-closed : goal.returns-clause-closed
returns-clause-closed g c =
    let named = g.B.ServiceWithDependents.named in
    let left = names_left named c.args.self.now.pending in
    let now_left = names_left named c.tell_all.new.pending in
    let account = g.H.Host.account c.args.host.now in
    let now_account = g.H.Host.account c.tell_all.new.host in
    subst (λ (o : Option Event). ClosesTo c.args.self.now.core left now_left account now_account o) (sym c.event.ensures)
    (closed c.args.self.now.core left now_left account now_account (Some c.event.result.now) (list_of c.args.self.now.closing)
    (list_of c.close_all.new.actions) c.close_all.ensures.closes
    c.requires.room.empty c.tell_all.ensures.hands)
