use Rattle.std.proofs.Common.{refl}
use Rattle.svc_record.specs.declared.event.Event.TheVariants.{ChildReady}
use Rattle.svc_core.proofs.HeldLemmas.{ends-held}
use Rattle.svc_core.proofs.StepForms.{opened, held}
use Rattle.svc_core.proofs.KeptLemmas.{kept-boot}
use Rattle.svc_core.proofs.machine.Core.step_child_ready.Goals as goal

pub returns : goal.returns
returns c = opened c.self.view_is c.requires (λ may. held c.hold.ensures.after c.hold.ensures.end refl refl refl c.self.invariant.formed.in_order
    (ends-held _ ChildReady _ 0 refl refl refl (λ q. refl) may.on may.may c.on_child_ready.ensures.after (c.on_child_ready.ensures.stands c.self.inside.plan)))

pub invariant_of-self : goal.invariant_of-self
invariant_of-self c = kept-boot c.self.inside.boot c.on_child_ready.ensures.after (λ on. on) c.self.invariant
