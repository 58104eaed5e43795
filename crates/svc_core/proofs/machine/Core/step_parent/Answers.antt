use Rattle.std.proofs.Common.{refl}
use Rattle.svc_core.proofs.HeldLemmas.{parent-held}
use Rattle.svc_core.proofs.StepForms.{opened, held}
use Rattle.svc_core.proofs.KeptLemmas.{kept-boot}
use Rattle.svc_core.proofs.machine.Core.step_parent.Goals as goal

pub returns : goal.returns
returns c = opened c.self.view_is c.requires (λ may. held c.hold.ensures.after c.hold.ensures.end refl refl refl c.self.invariant.formed.in_order
    (parent-held _ _ may.on may.may (rw c.moment.ensures at c.on_side.ensures.after) (rw c.moment.ensures at c.on_side.ensures.stands)))

pub invariant_of-self : goal.invariant_of-self
invariant_of-self c = kept-boot c.self.inside.boot c.on_side.ensures.after (λ on. on) c.self.invariant
