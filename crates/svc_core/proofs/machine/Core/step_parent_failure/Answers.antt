use Rattle.std.proofs.Common.{refl}
use Rattle.svc_core.proofs.HeldLemmas.{ends-held, failure-is, failure-row}
use Rattle.svc_core.proofs.StepForms.{opened, held}
use Rattle.svc_core.proofs.KeptLemmas.{kept-boot}
use Rattle.svc_core.proofs.machine.Core.step_parent_failure.Goals as goal

pub returns : goal.returns
returns c = opened c.self.view_is c.requires.may (λ may. held c.hold.ensures.after c.hold.ensures.end refl refl refl c.self.invariant.formed.in_order
    (let is = failure-is c.self.inside.plan c.args.event.now c.requires.failure in
    ends-held _ c.args.event.now _ 1 is.event is.other is.plain is.row may.on
    (failure-row _ c.args.event.now c.requires.failure may.may) c.on_parent_failure.ensures.after
    (λ q. c.on_parent_failure.ensures.stands c.self.inside.plan q c.args.event.now c.requires.failure)))

pub invariant_of-self : goal.invariant_of-self
invariant_of-self c = kept-boot c.self.inside.boot c.on_parent_failure.ensures.after (λ on. on) c.self.invariant
