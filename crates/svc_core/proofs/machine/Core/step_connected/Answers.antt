use Rattle.std.proofs.Common.{refl, ap, arith}
use Rattle.svc_core.specs.Copies.{copy_of}
use Rattle.svc_core.proofs.SignalLemmas.{strike-connected}
use Rattle.svc_core.proofs.StepForms.{opened, copy-taken}
use Rattle.svc_core.proofs.machine.Core.step_connected.Goals as goal

pub returns : goal.returns
returns c = opened c.self.view_is c.requires (λ may.
    let copied = rw (← c.self.view_is) at c.in_ok-copy.ensures in
    copy-taken c.settle.ensures refl refl (omega arith) (ap copy_of copied)
    (strike-connected _ _ c.in_ok-copy.copy may.on may.may c.take.ensures.after (rw c.moment.ensures at c.take.ensures.stands) copied))
