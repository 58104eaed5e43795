use Rattle.std.proofs.Common.{refl, sym, ◌∙◌, arith}
use Rattle.svc_core.proofs.SignalLemmas.{cut-strikes}
use Rattle.svc_core.proofs.StepForms.{opened, opened-same, gives-up, later-taken}
use Rattle.svc_core.proofs.KeptLemmas.{kept-closed}
use Rattle.svc_core.proofs.machine.Core.step_further.Goals as goal

pub returns-then-not-cuts-clause-steps : goal.returns-then-not-cuts-clause-steps
returns-then-not-cuts-clause-steps c =
    opened-same c.self.view_is c.requires.may
    (λ may. later-taken c.args.kind may.on may.may (rw (← c.self.view_is) at c.requires.further) (sym c.cuts.ensures ∙ c.if-not-cuts.true))

pub returns-clause-steps : goal.returns-clause-steps
returns-clause-steps c = opened c.self.view_is c.requires.may (λ may. gives-up c.settle.ensures refl refl (record { few = omega arith; room = omega arith })
    (cut-strikes _ c.args.kind may.on may.may (sym c.cuts.ensures ∙ c.if-not-cuts.false) _ (rw c.moment.ensures at c.cut.ensures.after)
    (rw c.moment.ensures at c.cut.ensures.stands) c.cut.ensures.settled
    _ c.on_signal.ensures.after c.on_signal.ensures.cut _ _ _ c.release.ensures.stands))

pub invariant_of-self : goal.invariant_of-self
invariant_of-self c = kept-closed c.self.invariant c.release.ensures.sized c.release.ensures.rows c.release.ensures.failed c.release.ensures.gains
