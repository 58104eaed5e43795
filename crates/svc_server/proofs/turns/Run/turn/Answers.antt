use Rattle.std.proofs.Common.{◌∷◌, List, length, None, ap, ◌∙◌, sym}
use Rattle.std.specs.Option.{option_map}
use Rattle.svc_record.specs.declared.action.StepEnd.TheVariants as ends
use Rattle.svc_record.specs.declared.item.Item.TheVariants as items
use Rattle.svc_record.specs.Record.{tell}
use Rattle.svc_record.specs.Tail.{closing_actions}
use Rattle.svc_streams.specs.Verdicts.{verdict_at}
use Rattle.svc_server.specs.Handing.{names_left}
use Rattle.svc_server.proofs.TurnLemmas.{closed-at, gives-no_memory, gives-idle, gives-fault, plan-now, ahead-now, gives-came, at-came}
use Rattle.svc_server.proofs.SaidLemmas.{names-now}
use Rattle.svc_server.proofs.CountLemmas.{counts-came, configured-event}
use Rattle.svc_server.proofs.turns.Run.turn.Goals as goal

pub returns-then-is_err-clause-gives : goal.returns-then-is_err-clause-gives
returns-then-is_err-clause-gives g c = λ verdict turns before q lt at ahead judges.
    let named = g.B.ServiceWithDependents.named in
    let core = c.args.self.now.core in
    let left = names_left named c.args.self.now.pending in
    let same_left = ap (names_left named) c.make_room.ensures.pending in
    let closed =
    closed-at verdict (verdict_at g.F.ConnectionFilter.verdict c.args.self.now.filters) core c.make_room.new.self.core left
    (names_left named c.make_room.new.self.pending) (names_left named c.close.new.self.pending) (g.H.Host.account c.args.host.now)
    (g.H.Host.account c.make_room.new.host)
    (g.H.Host.account c.close.new.host) c.args.k ends.On q c.make_room.ensures.core same_left c.make_room.ensures.account at judges
    c.close.ensures.closed in
    plan-now verdict core.plan c.close.new.self.core.plan turns _ (g.H.Host.account c.close.new.host) before (g.H.Host.ahead c.close.new.host)
    (ap (λ x. x.plan) (c.close.ensures.core ∙ c.make_room.ensures.core))
    (gives-no_memory verdict core.plan (g.H.Host.account c.close.new.host) c.args.k turns q (tell q (closing_actions core.plan q None)) before
    (g.H.Host.ahead c.close.new.host) closed lt
    (ahead-now before (g.H.Host.ahead c.args.host.now) (g.H.Host.ahead c.close.new.host) q (c.close.ensures.ahead ∙ c.make_room.ensures.ahead) ahead))

pub take_event-requires-clause-at : goal.take_event-requires-clause-at
take_event-requires-clause-at g c =
    let named = g.B.ServiceWithDependents.named in
    at-came c.args.self.now.core c.make_room.new.self.core (names_left named c.args.self.now.pending) (names_left named c.make_room.new.self.pending)
    (g.H.Host.account c.args.host.now) (g.H.Host.account c.make_room.new.host)
    (g.H.Host.account c.next.new.self) c.args.k (g.H.Host.last c.next.new.self) c.requires.at.0 c.in-Event.ensures.event c.make_room.ensures.core
    (ap (names_left named) c.make_room.ensures.pending) c.make_room.ensures.account
    c.in-Event.ensures.account c.requires.at.1

pub take_event-requires-clause-known : goal.take_event-requires-clause-known
take_event-requires-clause-known g c =
    names-now c.args.self.now.core.plan c.make_room.new.self.core.plan (length c.args.self.now.filters) (length c.make_room.new.self.filters)
    (ap (λ x. x.plan) c.make_room.ensures.core)
    (ap (λ (fs : List g.row.F.Denot). length fs) c.make_room.ensures.filters) c.requires.known

pub returns-in-Event-clause-gives : goal.returns-in-Event-clause-gives
returns-in-Event-clause-gives g c = λ verdict turns before q lt at ahead judges.
    let named = g.B.ServiceWithDependents.named in
    gives-came verdict (verdict_at g.F.ConnectionFilter.verdict c.args.self.now.filters) (verdict_at g.F.ConnectionFilter.verdict c.make_room.new.self.filters)
    (verdict_at g.F.ConnectionFilter.verdict c.take_event.new.self.filters)
    c.args.self.now.core c.make_room.new.self.core c.take_event.new.self.core (names_left named c.args.self.now.pending)
    (names_left named c.make_room.new.self.pending) (names_left named c.take_event.new.self.pending)
    (g.H.Host.account c.args.host.now) (g.H.Host.account c.make_room.new.host) (g.H.Host.account c.next.new.self)
    (g.H.Host.account c.take_event.new.host) c.args.k turns c.take_event.result before
    (g.H.Host.ahead c.args.host.now) (g.H.Host.ahead c.make_room.new.host) (g.H.Host.ahead c.next.new.self) (g.H.Host.ahead c.take_event.new.host)
    (g.H.Host.last c.next.new.self) q
    c.in-Event.ensures.event c.make_room.ensures.core
    (ap (names_left named) c.make_room.ensures.pending) c.make_room.ensures.account c.in-Event.ensures.account c.make_room.ensures.ahead
    c.in-Event.ensures.ahead
    (ap (verdict_at g.F.ConnectionFilter.verdict) c.make_room.ensures.filters) c.take_event.ensures.gives lt at ahead judges

pub returns-in-Event-clause-counts : goal.returns-in-Event-clause-counts
returns-in-Event-clause-counts g c =
    counts-came (g.H.Host.last c.next.new.self) c.take_event.result (g.H.Host.counts c.args.host.now) (g.H.Host.counts c.make_room.new.host)
    (g.H.Host.counts c.next.new.self) (g.H.Host.counts c.take_event.new.host)
    c.in-Event.ensures.event c.in-Event.ensures.counts c.take_event.ensures.failed c.take_event.ensures.cause c.make_room.ensures.counts
    c.take_event.ensures.counts

pub returns-in-Event-clause-configured : goal.returns-in-Event-clause-configured
returns-in-Event-clause-configured g c = configured-event c.take_event.result c.take_event.ensures.cause

pub returns-in-None-clause-gives : goal.returns-in-None-clause-gives
returns-in-None-clause-gives g c = λ verdict turns before q lt at ahead judges.
    let named = g.B.ServiceWithDependents.named in
    let core = c.args.self.now.core in
    let left = names_left named c.args.self.now.pending in
    let same_left = ap (names_left named) c.make_room.ensures.pending in
    let closed =
    closed-at verdict (verdict_at g.F.ConnectionFilter.verdict c.args.self.now.filters) core c.make_room.new.self.core left
    (names_left named c.make_room.new.self.pending) (names_left named c.close-in-None.new.self.pending) (g.H.Host.account c.args.host.now)
    (g.H.Host.account c.next.new.self) (g.H.Host.account c.close-in-None.new.host) c.args.k ends.On q c.make_room.ensures.core same_left
    (c.in-None.ensures.account ∙ c.make_room.ensures.account) at judges c.close-in-None.ensures.closed in
    plan-now verdict core.plan c.close-in-None.new.self.core.plan turns _ (g.H.Host.account c.close-in-None.new.host) before
    (g.H.Host.ahead c.close-in-None.new.host)
    (ap (λ x. x.plan) (c.close-in-None.ensures.core ∙ c.make_room.ensures.core))
    (gives-idle verdict core.plan (g.H.Host.account c.close-in-None.new.host) c.args.k turns q (tell q (closing_actions core.plan q None)) before
    (g.H.Host.ahead c.make_room.new.host)
    (g.H.Host.ahead c.close-in-None.new.host) closed lt
    (ahead-now before (g.H.Host.ahead c.args.host.now) (g.H.Host.ahead c.make_room.new.host) q c.make_room.ensures.ahead ahead)
    (c.close-in-None.ensures.ahead ∙ c.in-None.ensures.ahead.0) c.in-None.ensures.ahead.1)

pub returns-in-Failed-clause-gives : goal.returns-in-Failed-clause-gives
returns-in-Failed-clause-gives g c = λ verdict turns before q lt at ahead judges.
    let named = g.B.ServiceWithDependents.named in
    let core = c.args.self.now.core in
    let left = names_left named c.args.self.now.pending in
    let same_left = ap (names_left named) c.make_room.ensures.pending in
    let closed =
    closed-at verdict (verdict_at g.F.ConnectionFilter.verdict c.args.self.now.filters) core c.make_room.new.self.core left
    (names_left named c.make_room.new.self.pending) (names_left named c.close-in-Failed.new.self.pending) (g.H.Host.account c.args.host.now)
    (g.H.Host.account c.next.new.self) (g.H.Host.account c.close-in-Failed.new.host) c.args.k ends.On q c.make_room.ensures.core same_left
    (c.in-Failed.ensures.account ∙ c.make_room.ensures.account) at judges
    c.close-in-Failed.ensures.closed in
    plan-now verdict core.plan c.close-in-Failed.new.self.core.plan turns _ (g.H.Host.account c.close-in-Failed.new.host) before
    (g.H.Host.ahead c.close-in-Failed.new.host)
    (ap (λ x. x.plan) (c.close-in-Failed.ensures.core ∙ c.make_room.ensures.core))
    (gives-fault verdict core.plan (g.H.Host.account c.close-in-Failed.new.host) c.args.k turns q (tell q (closing_actions core.plan q None)) before
    (g.H.Host.ahead c.make_room.new.host)
    (g.H.Host.ahead c.close-in-Failed.new.host) closed lt
    (ahead-now before (g.H.Host.ahead c.args.host.now) (g.H.Host.ahead c.make_room.new.host) q c.make_room.ensures.ahead ahead)
    (c.in-Failed.ensures.ahead ∙ ap (option_map (λ rest. items.Fault ∷ rest)) (sym c.close-in-Failed.ensures.ahead)))
