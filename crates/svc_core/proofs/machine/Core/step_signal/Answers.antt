use Rattle.std.proofs.Common.{refl, sym, ap, ◌∙◌, arith}
use Rattle.std.specs.Prelude.{is_some}
use Rattle.svc_core.proofs.SignalLemmas.{strike-offered, strike-unoffered}
use Rattle.svc_core.proofs.StepForms.{opened, silently-taken}
use Rattle.svc_core.proofs.machine.Core.step_signal.Goals as goal

pub returns-then-is_some-clause-steps : goal.returns-then-is_some-clause-steps
returns-then-is_some-clause-steps c = c.step_further.ensures.steps

pub returns-then-offers_by-clause-steps : goal.returns-then-offers_by-clause-steps
returns-then-offers_by-clause-steps c = opened c.self.view_is c.requires (λ may. silently-taken c.settle.ensures refl refl (omega arith)
    (λ q right stands. strike-offered _ c.args.kind may.on may.may q right stands c.begin.new.self c.on_signal.new.self c.in_ok-message.message
    c.on_signal.ensures.after (rw c.moment.ensures at c.begin.ensures.after)
    (rw c.moment.ensures at c.begin.ensures.stands) c.in_ok-message.ensures c.on_signal.ensures.first
    (ap (λ x. is_some x) (sym c.signal.ensures) ∙ sym c.is_some.ensures ∙ c.if-is_some.false)
    (λ ends. sym c.if-offers_by.true ∙ (rw (← c.self.view_is) at c.offers_by.ensures) q ends)))

pub returns-clause-steps : goal.returns-clause-steps
returns-clause-steps c = opened c.self.view_is c.requires (λ may. silently-taken c.settle-2.ensures refl refl (omega arith)
    (λ q right stands. strike-unoffered _ c.args.kind may.on may.may q right stands c.on_signal-2.new.self c.on_signal-2.ensures.after
    c.on_signal-2.ensures.first
    (ap (λ x. is_some x) (sym c.signal.ensures) ∙ sym c.is_some.ensures ∙ c.if-is_some.false)
    (λ ends. sym c.if-offers_by.false ∙ (rw (← c.self.view_is) at c.offers_by.ensures) q ends)))
