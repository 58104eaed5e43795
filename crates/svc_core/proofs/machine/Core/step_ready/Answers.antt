use Rattle.std.proofs.Common.{refl, arith}
use Rattle.svc_core.proofs.StepLemmas.{strike-ready}
use Rattle.svc_core.proofs.StepForms.{opened, silently-taken}
use Rattle.svc_core.proofs.WaitsLemmas.{short-order}
use Rattle.svc_core.proofs.KeptLemmas.{inside-of, counted, kept-word}
use Rattle.svc_core.proofs.machine.Core.step_ready.Goals as goal

pub returns : goal.returns
returns c = opened c.self.view_is c.requires
    (λ may. silently-taken (rw c.on_ready.ensures.word at c.settle.ensures) refl refl (omega arith)
    (strike-ready _ c.args.s c.self.invariant.formed may.on may.may))

pub mark-requires-clause-service : goal.mark-requires-clause-service
mark-requires-clause-service c = counted c.args.s c.self.invariant.watched refl (inside-of c.args.s c.self.view_is c.requires.may.inside)

pub mark-requires-clause-order : goal.mark-requires-clause-order
mark-requires-clause-order c = rw c.deref.ensures.value (short-order c.self.invariant.formed)

pub invariant_of-self : goal.invariant_of-self
invariant_of-self c =
    kept-word c.self.invariant (inside-of c.args.s c.self.view_is c.requires.may.inside) c.on_ready.ensures.sized c.on_ready.ensures.word
    c.deref.ensures.value c.mark.ensures
