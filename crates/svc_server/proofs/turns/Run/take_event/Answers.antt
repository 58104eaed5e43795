use Rattle.std.proofs.Common.{◌∷◌, ◌+◌, Option, Ok, Err, refl, ap, subst, ◌∙◌}
use mathlib.Core.Bool.{false≢true}
use Rattle.svc_record.specs.declared.event.Event.{Event}
use Rattle.svc_record.specs.declared.entry.Entry.TheVariants.{Got}
use Rattle.svc_record.specs.Record.{Record, tell}
use Rattle.svc_record.specs.Tail.{closing_actions}
use Rattle.std.specs.Prelude.{Some, IfSome}
use Rattle.svc_record.specs.Right.{Right}
use Rattle.svc_streams.specs.Verdicts.{verdict_at}
use Rattle.svc_core.specs.Stands.{Represents}
use Rattle.svc_server.specs.declared.run.RunError.TheVariants as errors
use Rattle.svc_server.specs.Handing.{names_left, Hands}
use Rattle.svc_server.specs.Turns.{ClosesTo, Leaves, EventGives}
use Rattle.svc_server.proofs.TurnLemmas.{if-came, unfinished-at, gives-stray, gives-refused, gives-step, fails-by}
use Rattle.svc_server.proofs.turns.Run.take_event.Goals as goal

pub returns-then-not-fits-clause-gives : goal.returns-then-not-fits-clause-gives
returns-then-not-fits-clause-gives g c =
    let named = g.B.ServiceWithDependents.named in
    let core = c.args.self.now.core in
    let now_core = c.close_with_event.new.self.core in
    let left = names_left named c.args.self.now.pending in
    let now_left = names_left named c.close_with_event.new.self.pending in
    let account = g.H.Host.account c.args.host.now in
    let now_account = g.H.Host.account c.close_with_event.new.host in
    let e = c.event.result.now in
    let answers = verdict_at g.F.ConnectionFilter.verdict c.args.self.now.filters in
    let now_answers = verdict_at g.F.ConnectionFilter.verdict c.close_with_event.new.self.filters in
    if-came (EventGives answers now_answers core now_core left now_left account now_account c.args.k (Err (errors.Stray (c.args.k + 1)))
    (g.H.Host.ahead c.args.host.now) (g.H.Host.ahead c.close_with_event.new.host)) (g.H.Host.last c.args.host.now) e c.event.ensures
    (λ verdict turns before q lt at ahead judges.
    gives-stray verdict core now_core now_account c.args.k turns e q (tell (Got e ∷ q) (closing_actions core.plan q (Some e))) before
    (g.H.Host.ahead c.args.host.now) (g.H.Host.ahead c.close_with_event.new.host)
    c.close_with_event.ensures.core
    (unfinished-at verdict answers core core left left now_left account account now_account c.args.k e q refl refl refl at judges
    (subst (λ (o : Option Event). ClosesTo core left now_left account now_account o) c.event.ensures c.close_with_event.ensures.closed))
    (λ fit. false≢true ((c.if-not-fits.ensures.means q at.stands).1 fit)) lt ahead c.close_with_event.ensures.ahead)

pub returns-in-Ok-clause-gives : goal.returns-in-Ok-clause-gives
returns-in-Ok-clause-gives g c =
    let named = g.B.ServiceWithDependents.named in
    let core = c.args.self.now.core in
    let now_core = c.take.new.self.core in
    let left = names_left named c.args.self.now.pending in
    let now_left = names_left named c.take.new.self.pending in
    let account = g.H.Host.account c.args.host.now in
    let now_account = g.H.Host.account c.take.new.host in
    let e = c.event.result.now in
    let answers = verdict_at g.F.ConnectionFilter.verdict c.args.self.now.filters in
    let now_answers = verdict_at g.F.ConnectionFilter.verdict c.take.new.self.filters in
    let leaves : (q : Record) → Represents core q → Right core.plan q → Hands left account core.plan (Got e ∷ q)
    → Leaves answers now_answers now_core now_left now_account c.in-Ok.end (Got e ∷ q) =
    subst (λ (o : Option Event). IfSome o
    (λ x. (q : Record) → Represents core q → Right core.plan q → Hands left account core.plan (Got x ∷ q)
    → Leaves answers now_answers now_core now_left now_account c.in-Ok.end (Got x ∷ q))) c.event.ensures c.in-Ok.ensures.leaves in
    if-came (EventGives answers now_answers core now_core left now_left account now_account c.args.k (Ok c.in-Ok.end) (g.H.Host.ahead c.args.host.now)
    (g.H.Host.ahead c.take.new.host)) (g.H.Host.last c.args.host.now) e c.event.ensures
    (λ verdict turns before q lt at ahead judges.
    gives-step verdict answers now_answers now_core left now_left account now_account core c.args.k turns e q c.in-Ok.end before
    (g.H.Host.ahead c.args.host.now) (g.H.Host.ahead c.take.new.host)
    c.in-Ok.ensures.plan at (leaves q at.stands at.right at.hands) ahead c.take.ensures.ahead judges)

pub returns-in-Err-clause-gives : goal.returns-in-Err-clause-gives
returns-in-Err-clause-gives g c =
    let named = g.B.ServiceWithDependents.named in
    let core = c.args.self.now.core in
    let now_core = c.close_with_event-in-Err.new.self.core in
    let left = names_left named c.args.self.now.pending in
    let left2 = names_left named c.take.new.self.pending in
    let now_left = names_left named c.close_with_event-in-Err.new.self.pending in
    let account = g.H.Host.account c.args.host.now in
    let account2 = g.H.Host.account c.take.new.host in
    let now_account = g.H.Host.account c.close_with_event-in-Err.new.host in
    let e = c.event.result.now in
    let answers = verdict_at g.F.ConnectionFilter.verdict c.args.self.now.filters in
    let now_answers = verdict_at g.F.ConnectionFilter.verdict c.close_with_event-in-Err.new.self.filters in
    let last = ap g.H.Host.last c.in-Err.ensures.untold ∙ c.event.ensures in
    let same_core = c.in-Err.ensures.refused in
    if-came (EventGives answers now_answers core now_core left now_left account now_account c.args.k (Err errors.NoMemory) (g.H.Host.ahead c.args.host.now)
    (g.H.Host.ahead c.close_with_event-in-Err.new.host)) (g.H.Host.last c.args.host.now) e c.event.ensures
    (λ verdict turns before q lt at ahead judges.
    gives-refused verdict core now_core now_account c.args.k turns e q (tell (Got e ∷ q) (closing_actions core.plan q (Some e))) before
    (g.H.Host.ahead c.args.host.now) (g.H.Host.ahead c.close_with_event-in-Err.new.host)
    (c.close_with_event-in-Err.ensures.core ∙ same_core)
    (unfinished-at verdict answers core c.take.new.self.core left left2 now_left account account2 now_account c.args.k e q same_core
    (ap (names_left named) c.in-Err.ensures.left) (ap g.H.Host.account c.in-Err.ensures.untold) at judges
    (subst (λ (o : Option Event). ClosesTo c.take.new.self.core left2 now_left account2 now_account o) last c.close_with_event-in-Err.ensures.closed))
    lt ahead (c.close_with_event-in-Err.ensures.ahead ∙ c.take.ensures.ahead))

pub returns-in-Ok-clause-failed : goal.returns-in-Ok-clause-failed
returns-in-Ok-clause-failed g c =
    let named = g.B.ServiceWithDependents.named in
    let core = c.args.self.now.core in
    let now_core = c.take.new.self.core in
    let left = names_left named c.args.self.now.pending in
    let now_left = names_left named c.take.new.self.pending in
    let account = g.H.Host.account c.args.host.now in
    let now_account = g.H.Host.account c.take.new.host in
    let e = c.event.result.now in
    let answers = verdict_at g.F.ConnectionFilter.verdict c.args.self.now.filters in
    let now_answers = verdict_at g.F.ConnectionFilter.verdict c.take.new.self.filters in
    let leaves : (q : Record) → Represents core q → Right core.plan q → Hands left account core.plan (Got e ∷ q)
    → Leaves answers now_answers now_core now_left now_account c.in-Ok.end (Got e ∷ q) =
    subst (λ (o : Option Event). IfSome o
    (λ x. (q : Record) → Represents core q → Right core.plan q → Hands left account core.plan (Got x ∷ q)
    → Leaves answers now_answers now_core now_left now_account c.in-Ok.end (Got x ∷ q))) c.event.ensures c.in-Ok.ensures.leaves in
    fails-by answers now_answers core now_core left now_left account now_account c.args.k c.in-Ok.end
    (g.H.Host.last c.args.host.now) e c.event.ensures c.in-Ok.ensures.plan c.requires.at leaves
