use Rattle.std.proofs.Common.{◌≡◌, ◌+◌, ◌++◌, length, map, None, Ok, refl, subst, sym, ◌∙◌, arith}
use Rattle.std.specs.Option.{option_map}
use Rattle.svc_record.specs.declared.item.Item.TheVariants as items
use Rattle.svc_record.specs.declared.action.StepEnd.{StepEnd}
use Rattle.svc_record.specs.declared.action.StepEnd.TheVariants as ends
use Rattle.svc_server.specs.declared.run.Outcome.{Outcome}
use Rattle.svc_server.specs.declared.run.RunError.{RunError}
use Rattle.std.specs.Prelude.{Result}
use Rattle.svc_server.specs.Hosts.{Counts}
use Rattle.svc_record.specs.Record.{Record, tell}
use Rattle.svc_record.specs.Tail.{closing_actions}
use Rattle.svc_server.specs.Runs.{events_of, RunCounts}
use Rattle.svc_streams.specs.Verdicts.{verdict_at}
use Rattle.svc_server.specs.Handing.{names_left}
use Rattle.svc_server.specs.Turns.{TurnGives, EndCounts}
use Rattle.svc_server.proofs.TurnLemmas.{ClosedAt, closed-at, gives-spent, plan-now, ahead-now}
use Rattle.svc_server.proofs.SaidLemmas.{names-now}
use Rattle.svc_server.proofs.CountLemmas.{counts-after, counts-joined, counts-end, configured-by, on-end}
use Rattle.svc_server.proofs.turns.Run.take_turns.Goals as goal

pub turn-requires-clause-at : goal.turn-requires-clause-at
turn-requires-clause-at g c =
    let q = c.requires.at.0 in
    let t = c.loop-k.invariant.at c.requires.at.1.1.0
    (option_map (λ rest. map items.Event (events_of q) ++ rest) (g.H.Host.ahead c.args.host.now)) q c.requires.at.1.0 refl c.requires.at.1.1.1 in
    (t.0, t.1.0)

pub turn-requires-clause-known : goal.turn-requires-clause-known
turn-requires-clause-known g c =
    names-now c.args.self.now.core.plan c.loop-k.self.core.plan (length c.args.self.now.filters)
    (length c.loop-k.self.filters) c.loop-k.invariant.plan c.loop-k.invariant.filters c.requires.known

pub returns-in-Err-clause-gives : goal.returns-in-Err-clause-gives
returns-in-Err-clause-gives g c = λ verdict before q at ahead judges.
    let t = c.loop-k.invariant.at verdict before q at ahead judges in
    plan-now verdict c.turn.new.self.core.plan c.args.self.now.core.plan c.args.turns _ (g.H.Host.account c.turn.new.host) before
    (g.H.Host.ahead c.turn.new.host)
    (sym (c.turn.ensures.plan ∙ c.loop-k.invariant.plan)) (c.in-Err.ensures.gives verdict c.args.turns before t.0 c.loop-k-test.true t.1.0 t.1.1.0 t.1.1.1)

pub returns-in-Err-clause-counts : goal.returns-in-Err-clause-counts
returns-in-Err-clause-counts g c =
    counts-after c.in-Err.error (g.H.Host.counts c.args.host.now) (g.H.Host.counts c.loop-k.host)
    (g.H.Host.counts c.turn.new.host) c.loop-k.invariant.unfailed c.loop-k.invariant.failures c.in-Err.ensures.counts

pub finish-requires-clause-at : goal.finish-requires-clause-at
finish-requires-clause-at g c =
    let q = c.requires.at.0 in
    let before = option_map (λ rest. map items.Event (events_of q) ++ rest) (g.H.Host.ahead c.args.host.now) in
    let verdict = c.requires.at.1.1.0 in
    let t = c.loop-k.invariant.at verdict before q c.requires.at.1.0 refl c.requires.at.1.1.1 in
    let u = c.in-Ok.ensures.gives verdict c.args.turns before t.0 c.loop-k-test.true t.1.0 t.1.1.0 t.1.1.1 in
    (c.loop-k.k + 1, (u.0, u.1.0))

pub returns-in-Some-clause-gives : goal.returns-in-Some-clause-gives
returns-in-Some-clause-gives g c = λ verdict before q at ahead judges.
    let t = c.loop-k.invariant.at verdict before q at ahead judges in
    let u = c.in-Ok.ensures.gives verdict c.args.turns before t.0 c.loop-k-test.true t.1.0 t.1.1.0 t.1.1.1 in
    plan-now verdict c.turn.new.self.core.plan c.args.self.now.core.plan c.args.turns _ (g.H.Host.account c.finish.new.host) before
    (g.H.Host.ahead c.finish.new.host)
    (sym (c.turn.ensures.plan ∙ c.loop-k.invariant.plan))
    (c.finish.ensures.gives verdict (c.loop-k.k + 1) c.args.turns before u.0 (omega (arith, c.loop-k-test.true)) u.1.0 u.1.1.0 u.1.1.1)

pub returns-in-Some-clause-counts : goal.returns-in-Some-clause-counts
returns-in-Some-clause-counts g c =
    let before = g.H.Host.counts c.args.host.now in
    let now = g.H.Host.counts c.finish.new.host in
    subst (λ (answer : Result Outcome RunError). RunCounts answer before now) (sym c.finish.ensures.answers)
    (counts-end c.in-Ok.end c.in-Some.answer before now (sym c.answer_of.ensures ∙ c.in-Some.is)
    (subst (λ (x : Counts). EndCounts c.in-Ok.end before x) (sym c.finish.ensures.counts)
    (counts-joined c.in-Ok.end before (g.H.Host.counts c.loop-k.host)
    (g.H.Host.counts c.turn.new.host) c.loop-k.invariant.unfailed c.loop-k.invariant.failures c.in-Ok.ensures.counts)))

pub returns-in-Some-clause-configured : goal.returns-in-Some-clause-configured
returns-in-Some-clause-configured g c = configured-by c.in-Ok.end c.finish.ensures.answers c.in-Some.is c.answer_of.ensures

pub loop-k-init : goal.loop-k-init
loop-k-init g c = record {
  at = λ verdict before q at ahead judges. (q, (at, (ahead, judges)));
  room = c.requires.room;
  filters = refl;
  plan = refl;
  unfailed = (refl, refl);
  made = refl;
  failures = omega arith;
}

pub loop-k-preserved : goal.loop-k-preserved
loop-k-preserved g c =
    let on : c.in-Ok.end ≡ ends.On = on-end c.in-Ok.end (sym c.answer_of.ensures ∙ c.in-None.is) in
    let counts =
    counts-joined c.in-Ok.end (g.H.Host.counts c.args.host.now) (g.H.Host.counts c.loop-k.host)
    (g.H.Host.counts c.turn.new.host) c.loop-k.invariant.unfailed c.loop-k.invariant.failures c.in-Ok.ensures.counts in
    record {
      at = λ verdict before q at ahead judges. (
          let t = c.loop-k.invariant.at verdict before q at ahead judges in
          subst (λ (end : StepEnd). TurnGives verdict (verdict_at g.F.ConnectionFilter.verdict c.turn.new.self.filters) c.turn.new.self.core
          (names_left g.B.ServiceWithDependents.named c.turn.new.self.pending) (g.H.Host.account c.turn.new.host) c.loop-k.k c.args.turns (Ok end) before
          (g.H.Host.ahead c.turn.new.host))
          on (c.in-Ok.ensures.gives verdict c.args.turns before t.0 c.loop-k-test.true t.1.0 t.1.1.0 t.1.1.1));
      room = c.in-Ok.ensures.room;
      filters = c.turn.ensures.filters ∙ c.loop-k.invariant.filters;
      plan = c.turn.ensures.plan ∙ c.loop-k.invariant.plan;
      unfailed = counts.unfailed;
      made = c.turn.ensures.made ∙ c.loop-k.invariant.made;
      failures = counts.failures;
    }

pub close-requires-clause-can : goal.close-requires-clause-can
close-requires-clause-can g c =
    let q = c.requires.at.0 in
    let t = c.loop-k.invariant.at c.requires.at.1.1.0
    (option_map (λ rest. map items.Event (events_of q) ++ rest) (g.H.Host.ahead c.args.host.now)) q c.requires.at.1.0 refl c.requires.at.1.1.1 in
    (t.0, (t.1.0.stands, t.1.0.hands))

pub returns-clause-gives : goal.returns-clause-gives
returns-clause-gives g c = λ verdict before q at ahead judges.
    let named = g.B.ServiceWithDependents.named in
    let t = c.loop-k.invariant.at verdict before q at ahead judges in
    let core = c.loop-k.self.core in
    let left = names_left named c.loop-k.self.pending in
    let account = g.H.Host.account c.loop-k.host in
    let r : Record = tell t.0 (closing_actions core.plan t.0 None) in
    let spent : c.loop-k.k ≡ c.args.turns = omega arith in
    let closed =
    closed-at verdict (verdict_at g.F.ConnectionFilter.verdict c.loop-k.self.filters) core core left left
    (names_left named c.close.new.self.pending) account account
    (g.H.Host.account c.close.new.host) c.loop-k.k ends.On t.0 refl refl refl t.1.0 t.1.1.1 c.close.ensures.closed in
    plan-now verdict core.plan c.args.self.now.core.plan c.args.turns _ (g.H.Host.account c.close.new.host) before (g.H.Host.ahead c.close.new.host)
    (sym c.loop-k.invariant.plan)
    (gives-spent verdict core.plan (g.H.Host.account c.close.new.host) c.args.turns t.0 r before (g.H.Host.ahead c.close.new.host)
    (subst (λ n. ClosedAt verdict core.plan (g.H.Host.account c.close.new.host) n ends.On t.0 r) spent closed)
    (ahead-now before (g.H.Host.ahead c.loop-k.host) (g.H.Host.ahead c.close.new.host) t.0 c.close.ensures.ahead t.1.1.0))
