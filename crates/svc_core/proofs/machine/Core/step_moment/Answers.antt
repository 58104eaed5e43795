use Rattle.std.proofs.Common.{refl, ap, sym, not, true, false, Bool, ◌≡◌, ◌∙◌, arith}
use Rattle.svc_boot.specs.ForkState.{may_run}
use Rattle.svc_core.specs.Copies.{copy_of}
use Rattle.svc_core.proofs.SignalLemmas.{strike-moment}
use Rattle.svc_core.proofs.StepForms.{opened, copy-taken}
use Rattle.svc_core.proofs.machine.Core.step_moment.Goals as goal

pub returns : goal.returns
returns c = opened c.self.view_is c.requires (λ may.
    let copied = rw (← c.self.view_is) at c.in_ok-copy.ensures in
    copy-taken c.settle.ensures refl refl (omega arith) (ap copy_of copied)
    (strike-moment _ c.args.ms _ c.in_ok-copy.copy may.on
    (goes-on c.is_held.result (may_run c.self.inside.plan c.self.inside.boot.fork) (rw (← c.self.view_is) at c.is_held.ensures) c.if-is_held.false) may.may
    c.on_moment.ensures.after c.on_moment.ensures.stands copied))
  where
    goes-on : (held free : Bool) → held ≡ not free → held ≡ false → free ≡ true
    goes-on held true e h = refl
    goes-on held false e h = absurd (let no = sym e ∙ h in cc)
