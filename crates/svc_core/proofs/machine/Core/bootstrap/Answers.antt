use Rattle.std.proofs.Common.{refl, sym, ◌∙◌, arith}
use Rattle.svc_base.specs.Items.{list_of}
use Rattle.svc_boot.specs.BootState.{notifies}
use Rattle.svc_core.specs.Stands.{MayBootstrap}
use Rattle.svc_core.specs.Steps.{bootstrap_room}
use Rattle.svc_core.proofs.BeginLemmas.{bootstrap-plain, bootstrap-eager-at}
use Rattle.svc_core.proofs.CopyLemmas.{bare-none, bare-these, begin-bare}
use Rattle.svc_core.proofs.GoForms.{opened-goes, then-goes}
use Rattle.svc_core.proofs.StepForms.{begin-few}
use Rattle.svc_core.proofs.WaitsLemmas.{begun-complete}
use Rattle.svc_core.proofs.KeptLemmas.{kept-boot}
use Rattle.svc_core.proofs.machine.Core.bootstrap.Goals as goal

pub returns-then-is_eager : goal.returns-then-is_eager
returns-then-is_eager c = opened-goes MayBootstrap bootstrap_room c.self.view_is (then-goes c.settle.ensures refl
    (bare-these (list_of c.args.actions.now) (list_of c.begin.new.actions) _ c.begin.ensures.told
    (begin-bare c.self.inside.plan.test (notifies c.self.inside.plan) c.self.inside.plan.upgrade c.self.inside.boot c.moment.result))
    (let begins = begin-few c.begin.new.self in record { few = omega (arith, begins); room = omega (arith, begins) })
    (bootstrap-eager-at _ _ c.begin.new.self (list_of c.args.actions.now) (list_of c.begin.new.actions) (list_of c.settle.new.actions) c.settle.result
    (rw (← c.self.view_is) at (sym c.is_eager.ensures ∙ c.if-is_eager.true))
    c.begin.ensures.after (rw c.moment.ensures at c.begin.ensures.told) (rw c.moment.ensures at c.begin.ensures.stands) c.settle.ensures.kept))

pub returns : goal.returns
returns c =
    let begins = begin-few c.args.self.now.boot in
    then-goes c.settle-2.ensures refl (bare-none (list_of c.args.actions.now)) (record { few = omega (arith, begins); room = omega (arith, begins) })
    (bootstrap-plain _ _ (list_of c.args.actions.now) (list_of c.settle-2.new.actions) c.settle-2.result
    (sym c.is_eager.ensures ∙ c.if-is_eager.false) c.settle-2.ensures.kept)

pub invariant_of-self : goal.invariant_of-self
invariant_of-self c = kept-boot c.self.inside.boot c.begin.ensures.after (λ on. begun-complete c.self.inside.plan c.self.inside.boot on) c.self.invariant
