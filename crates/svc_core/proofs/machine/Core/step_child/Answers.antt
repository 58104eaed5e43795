use Rattle.std.proofs.Common.{refl}
use Rattle.svc_core.proofs.HeldLemmas.{child-may}
use Rattle.svc_core.proofs.StepForms.{opened, child-begins}
use Rattle.svc_core.proofs.KeptLemmas.{kept-boot}
use Rattle.svc_core.proofs.machine.Core.step_child.Goals as goal

pub returns : goal.returns
returns c = opened c.self.view_is c.requires (λ may. child-begins c.bootstrap.ensures refl refl refl
    (child-may _ _ may.on may.may c.on_side.ensures.after (rw c.moment.ensures at c.on_side.ensures.stands)))

pub invariant_of-self : goal.invariant_of-self
invariant_of-self c = kept-boot c.self.inside.boot c.on_side.ensures.after (λ on. on) c.self.invariant
