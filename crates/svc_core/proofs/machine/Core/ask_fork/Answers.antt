use Rattle.std.proofs.Common.{refl, sym, ap, subst, ◌∙◌, arith}
use Rattle.svc_base.specs.Items.{list_of}
use Rattle.svc_core.specs.CoreData.{CoreData}
use Rattle.svc_core.specs.Steps.{Begins}
use Rattle.svc_core.specs.Stands.{HasNotBegun}
use Rattle.svc_core.proofs.HeldLemmas.{begin-daemon}
use Rattle.svc_core.proofs.CopyLemmas.{bare-these}
use Rattle.svc_core.proofs.StepForms.{forks}
use Rattle.svc_core.proofs.KeptLemmas.{kept-boot}
use Rattle.svc_core.proofs.machine.Core.ask_fork.Goals as goal

pub returns : goal.returns
returns c =
    subst (λ (old : CoreData). Begins old c.hold.new.self c.args.actions.now c.ask_fork.new.actions c.hold.result) c.self.view_is
    (forks c.ask_fork.new.self c.hold.ensures.after c.hold.ensures.end
    (begin-daemon _ c.ask_fork.new.self (list_of c.args.actions.now) (list_of c.ask_fork.new.actions) c.self.invariant.formed.in_order
    (subst HasNotBegun (sym c.self.view_is) c.requires.first) (ap (λ (core : CoreData). core.plan.daemon) c.self.view_is ∙ c.requires.daemon)
    c.ask_fork.ensures.after c.ask_fork.ensures.told c.ask_fork.ensures.stands)
    (bare-these (list_of c.args.actions.now) (list_of c.ask_fork.new.actions) _ c.ask_fork.ensures.told refl)
    (record { few = omega arith; room = omega arith }))

pub invariant_of-self : goal.invariant_of-self
invariant_of-self c = kept-boot c.self.inside.boot c.ask_fork.ensures.after (λ on. on) c.self.invariant
