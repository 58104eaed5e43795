use Rattle.std.proofs.Common.{refl, sym, ◌∙◌, arith}
use Rattle.svc_core.proofs.SignalLemmas.{strike-rests, strike-ends, awaited-row}
use Rattle.svc_core.proofs.StepForms.{opened, gives-up, silently-taken}
use Rattle.svc_core.proofs.KeptLemmas.{kept-closed}
use Rattle.svc_core.proofs.machine.Core.step_answer.Goals as goal

pub returns-then-is_some : goal.returns-then-is_some
returns-then-is_some c = opened c.self.view_is c.requires.may (λ may. gives-up c.settle.ensures refl refl (record { few = omega arith; room = omega arith })
    (strike-ends _ c.args.answer may.on (awaited-row _ c.args.answer may.may) _ (rw c.moment.ensures at c.take.ensures.after)
    (rw c.moment.ensures at c.take.ensures.stands)
    _ _ _ c.over_since.result c.over_since.ensures (sym c.is_some.ensures ∙ c.if-is_some.true) c.requires.rests c.release.ensures.stands))

pub returns : goal.returns
returns c = opened c.self.view_is c.requires.may (λ may. silently-taken c.settle-2.ensures refl refl (omega arith)
    (strike-rests _ c.args.answer may.on (awaited-row _ c.args.answer may.may) _ (rw c.moment.ensures at c.take.ensures.after)
    (rw c.moment.ensures at c.take.ensures.stands)
    c.over_since.result c.over_since.ensures (sym c.is_some.ensures ∙ c.if-is_some.false) c.requires.rests))

pub invariant_of-self : goal.invariant_of-self
invariant_of-self c = kept-closed c.self.invariant c.release.ensures.sized c.release.ensures.rows c.release.ensures.failed c.release.ensures.gains
