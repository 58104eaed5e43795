use Rattle.std.proofs.Common.{Bool, true, false, not, refl, sym, ◌∙◌, ◌≡◌, subst, None}
use Rattle.svc_moments.specs.Least.{IsLeast}
use Rattle.svc_boot.specs.ForkState.{may_run}
use Rattle.svc_core.specs.CoreData.{CoreData, IsFormed}
use Rattle.svc_core.specs.Dues.{TellsNothingBefore, TellsAt, EndsWaitAt}
use Rattle.svc_core.proofs.DueSilent.{due-before, waits-before, ended-before, due-at, waits-at}
use Rattle.svc_core.proofs.machine.Core.next_due.Goals as goal

awaits-by : (held free : Bool) → held ≡ not free → held ≡ true → free ≡ false
awaits-by held true e h = absurd (let no = sym e ∙ h in cc)
awaits-by held false e h = refl

free-by : (held free : Bool) → held ≡ not free → held ≡ false → free ≡ true
free-by held true e h = refl
free-by held false e h = absurd (let no = sym e ∙ h in cc)

pub returns-then-not-is_on-clause-before : goal.returns-then-not-is_on-clause-before
returns-then-not-is_on-clause-before c =
    subst (λ (core : CoreData). TellsNothingBefore core None) c.self.view_is (ended-before _ None (sym c.is_on.ensures ∙ c.if-not-is_on.true))

pub returns-then-is_held-clause-before : goal.returns-then-is_held-clause-before
returns-then-is_held-clause-before c =
    let formed = subst (λ (core : CoreData). IsFormed core.plan core.order core.starts core.endpoints) c.self.view_is c.self.invariant.formed in
    subst (TellsNothingBefore c.args.self.now) (sym c.from_last.ensures)
    (waits-before c.args.self.now c.next_end.result formed.in_order
    (awaits-by c.is_held.result (may_run c.args.self.now.plan c.args.self.now.boot.fork) c.is_held.ensures c.if-is_held.true)
    (subst (λ (core : CoreData). IsLeast (EndsWaitAt core) c.next_end.result) c.self.view_is c.next_end.ensures))

pub returns-then-is_held-clause-due : goal.returns-then-is_held-clause-due
returns-then-is_held-clause-due c =
    subst (TellsAt c.args.self.now) (sym c.from_last.ensures)
    (waits-at c.args.self.now c.next_end.result
    (awaits-by c.is_held.result (may_run c.args.self.now.plan c.args.self.now.boot.fork) c.is_held.ensures c.if-is_held.true)
    (subst (λ (core : CoreData). IsLeast (EndsWaitAt core) c.next_end.result) c.self.view_is c.next_end.ensures))

pub returns-clause-before : goal.returns-clause-before
returns-clause-before c =
    let formed = subst (λ (core : CoreData). IsFormed core.plan core.order core.starts core.endpoints) c.self.view_is c.self.invariant.formed in
    subst (TellsNothingBefore c.args.self.now) (sym c.from_last-2.ensures)
    (due-before c.args.self.now c.next_step.result formed
    (free-by c.is_held.result (may_run c.args.self.now.plan c.args.self.now.boot.fork) c.is_held.ensures c.if-is_held.false) c.next_step.ensures)

pub returns-clause-due : goal.returns-clause-due
returns-clause-due c =
    let formed = subst (λ (core : CoreData). IsFormed core.plan core.order core.starts core.endpoints) c.self.view_is c.self.invariant.formed in
    subst (TellsAt c.args.self.now) (sym c.from_last-2.ensures)
    (due-at c.args.self.now c.next_step.result formed
    (free-by c.is_held.result (may_run c.args.self.now.plan c.args.self.now.boot.fork) c.is_held.ensures c.if-is_held.false) c.next_step.ensures)
