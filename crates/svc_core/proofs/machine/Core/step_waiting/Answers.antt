use Rattle.std.proofs.Common.{refl}
use Rattle.svc_core.proofs.HeldLemmas.{waiting-held}
use Rattle.svc_core.proofs.StepForms.{opened, held}
use Rattle.svc_core.proofs.KeptLemmas.{kept-boot}
use Rattle.svc_core.proofs.machine.Core.step_waiting.Goals as goal

pub returns : goal.returns
returns c = opened c.self.view_is c.requires.may (λ may. held c.hold.ensures.after c.hold.ensures.end refl refl refl c.self.invariant.formed.in_order
    (waiting-held _ c.args.ms _ _ may.on
    (rw (← c.self.view_is) at c.requires.held) may.may c.on_moment.ensures.after c.on_moment.ensures.stands c.wait_on.ensures.after
    c.wait_on.ensures.stands))

pub invariant_of-self : goal.invariant_of-self
invariant_of-self c = kept-boot c.self.inside.boot c.wait_on.ensures.after (λ on. on) c.self.invariant
