use Rattle.std.proofs.Common.{List, length, ap, subst, sym, ◌∙◌, arith}
use Rattle.std.specs.Prelude.{Result}
use Rattle.svc_record.specs.declared.action.StepEnd.{StepEnd}
use Rattle.svc_server.specs.declared.run.Outcome.{Outcome}
use Rattle.svc_server.specs.declared.run.RunError.{RunError}
use Rattle.svc_server.specs.Hosts.{Counts}
use Rattle.svc_server.specs.Runs.{RunCounts}
use Rattle.svc_streams.specs.Verdicts.{verdict_at}
use Rattle.svc_server.specs.Handing.{names_left}
use Rattle.svc_server.specs.Turns.{IsAt}
use Rattle.svc_server.proofs.AnswerOfStep.{first_unfailed}
use Rattle.svc_server.proofs.CountLemmas.{counts-same, counts-end, configured-by, on-end}
use Rattle.svc_server.proofs.SaidLemmas.{names-now}
use Rattle.svc_server.proofs.TurnLemmas.{first-at, gives-nothing, plan-now, account-same}
use Rattle.svc_server.proofs.turns.Run.run.Goals as goal

pub finish-requires-clause-at : goal.finish-requires-clause-at
finish-requires-clause-at g c =
    let t = first-at c.in-Ok.ensures.leaves c.begin.ensures.ahead in
    (0, (t.0, t.1.0))

pub take_turns-requires-clause-at : goal.take_turns-requires-clause-at
take_turns-requires-clause-at g c =
    let core = c.begin.new.self.core in
    let left = names_left g.B.ServiceWithDependents.named c.begin.new.self.pending in
    let account = g.H.Host.account c.begin.new.host in
    let answers = verdict_at g.F.ConnectionFilter.verdict c.args.self.now.filters in
    let t = first-at c.in-Ok.ensures.leaves c.begin.ensures.ahead in
    (t.0, (subst (λ (end : StepEnd). IsAt core left account 0 end t.0) (on-end c.in-Ok.end (sym c.answer_of.ensures ∙ c.in-None.is)) t.1.0, (answers, t.1.1.1)))

pub take_turns-requires-clause-known : goal.take_turns-requires-clause-known
take_turns-requires-clause-known g c =
    names-now c.args.self.now.core.plan c.begin.new.self.core.plan (length c.args.self.now.filters) (length c.begin.new.self.filters) c.in-Ok.ensures.plan
    (ap (λ (fs : List g.row.F.Denot). length fs) c.begin.ensures.filters)
    c.requires.known

pub returns-in-Some-clause-gives : goal.returns-in-Some-clause-gives
returns-in-Some-clause-gives g c =
    let core = c.begin.new.self.core in
    let before = g.H.Host.ahead c.args.host.now in
    let answers = verdict_at g.F.ConnectionFilter.verdict c.args.self.now.filters in
    let t = first-at c.in-Ok.ensures.leaves c.begin.ensures.ahead in
    plan-now answers core.plan c.args.self.now.core.plan c.args.turns c.finish.result (g.H.Host.account c.finish.new.host) before
    (g.H.Host.ahead c.finish.new.host) (sym c.in-Ok.ensures.plan)
    (c.finish.ensures.gives answers 0 c.args.turns before t.0 (omega arith) t.1.0 t.1.1.0 t.1.1.1)

pub returns-in-Some-clause-counts : goal.returns-in-Some-clause-counts
returns-in-Some-clause-counts g c =
    let before = g.H.Host.counts c.args.host.now in
    let now = g.H.Host.counts c.finish.new.host in
    subst (λ (answer : Result Outcome RunError). RunCounts answer before now) (sym c.finish.ensures.answers)
    (counts-end c.in-Ok.end c.in-Some.answer before now (sym c.answer_of.ensures ∙ c.in-Some.is)
    (counts-same c.in-Ok.end before now (c.finish.ensures.counts ∙ c.begin.ensures.counts)
    (λ is. first_unfailed c.begin.new.self.core.plan c.in-Ok.ensures.leaves.told (sym is ∙ c.in-Ok.ensures.leaves.step.answer))))

pub returns-in-Some-clause-configured : goal.returns-in-Some-clause-configured
returns-in-Some-clause-configured g c = configured-by c.in-Ok.end c.finish.ensures.answers c.in-Some.is c.answer_of.ensures

pub returns-in-None-clause-gives : goal.returns-in-None-clause-gives
returns-in-None-clause-gives g c =
    let core = c.begin.new.self.core in
    let left = names_left g.B.ServiceWithDependents.named c.begin.new.self.pending in
    let account = g.H.Host.account c.begin.new.host in
    let before = g.H.Host.ahead c.args.host.now in
    let answers = verdict_at g.F.ConnectionFilter.verdict c.args.self.now.filters in
    let t = first-at c.in-Ok.ensures.leaves c.begin.ensures.ahead in
    plan-now answers core.plan c.args.self.now.core.plan c.args.turns c.take_turns.result (g.H.Host.account c.take_turns.new.host) before
    (g.H.Host.ahead c.take_turns.new.host) (sym c.in-Ok.ensures.plan)
    (c.take_turns.ensures.gives answers before t.0
    (subst (λ (end : StepEnd). IsAt core left account 0 end t.0) (on-end c.in-Ok.end (sym c.answer_of.ensures ∙ c.in-None.is)) t.1.0) t.1.1.0 t.1.1.1)

pub returns-in-None-clause-counts : goal.returns-in-None-clause-counts
returns-in-None-clause-counts g c =
    subst (λ (x : Counts). RunCounts c.take_turns.result x (g.H.Host.counts c.take_turns.new.host)) c.begin.ensures.counts c.take_turns.ensures.counts

pub returns-in-Err-clause-gives : goal.returns-in-Err-clause-gives
returns-in-Err-clause-gives g c =
    gives-nothing (verdict_at g.F.ConnectionFilter.verdict c.args.self.now.filters) (g.H.Host.account c.begin.new.host) c.args.self.now.core.plan c.args.turns
    (g.H.Host.ahead c.args.host.now) (g.H.Host.ahead c.begin.new.host)
    (account-same (g.H.Host.account c.args.host.now)
    (g.H.Host.account c.begin.new.host) c.args.self.now.core.plan c.in-Err.ensures.untold c.requires.hands.told_is) c.begin.ensures.ahead
