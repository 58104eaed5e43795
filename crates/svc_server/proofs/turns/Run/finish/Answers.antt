use Rattle.std.proofs.Common.{refl, sym, ◌∙◌, None}
use Rattle.svc_record.specs.Record.{tell}
use Rattle.svc_record.specs.Tail.{closing_actions}
use Rattle.svc_streams.specs.Verdicts.{verdict_at}
use Rattle.svc_server.specs.Handing.{names_left}
use Rattle.svc_server.proofs.TurnLemmas.{closed-at, gives-served, gives-ended, ahead-now}
use Rattle.svc_server.proofs.turns.Run.finish.Goals as goal

pub close-requires-clause-can : goal.close-requires-clause-can
close-requires-clause-can g c = let at = c.requires.at.1.1 in (c.requires.at.1.0, (at.stands, at.hands))

pub returns-then-has_served-clause-gives : goal.returns-then-has_served-clause-gives
returns-then-has_served-clause-gives g c = λ verdict k turns before q le at ahead judges.
    gives-served verdict (verdict_at g.F.ConnectionFilter.verdict c.args.self.now.filters) c.args.self.now.core
    (names_left g.B.ServiceWithDependents.named c.args.self.now.pending) (g.H.Host.account c.args.host.now) k turns c.args.end c.args.answer q before
    (g.H.Host.ahead c.args.host.now)
    (sym c.has_served.ensures ∙ c.if-has_served.true) c.requires.answers at le ahead judges

pub returns-clause-gives : goal.returns-clause-gives
returns-clause-gives g c = λ verdict k turns before q le at ahead judges.
    let named = g.B.ServiceWithDependents.named in
    let core = c.args.self.now.core in
    let left = names_left named c.args.self.now.pending in
    let now_left = names_left named c.close.new.self.pending in
    let account = g.H.Host.account c.args.host.now in
    let now_account = g.H.Host.account c.close.new.host in
    gives-ended verdict core.plan now_account k turns c.args.end c.args.answer q (tell q (closing_actions core.plan q None)) before
    (g.H.Host.ahead c.close.new.host)
    (sym c.has_served.ensures ∙ c.if-has_served.false) c.requires.answers
    (closed-at verdict
    (verdict_at g.F.ConnectionFilter.verdict c.args.self.now.filters) core core left left now_left account account now_account k c.args.end q refl refl refl
    at judges c.close.ensures.closed) le
    (ahead-now before (g.H.Host.ahead c.args.host.now) (g.H.Host.ahead c.close.new.host) q c.close.ensures.ahead ahead)
