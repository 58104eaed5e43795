use Rattle.std.proofs.lemmas.Bool.{or_left}
use Rattle.std.proofs.Common.{refl, sym, ap, ◌∙◌, arith}
use Rattle.svc_base.specs.Items.{list_of}
use Rattle.svc_core.specs.Stands.{AfterEvent}
use Rattle.svc_core.specs.Steps.{finish_room}
use Rattle.svc_core.proofs.FinishLemmas.{follows-ended-at, follows-on-at}
use Rattle.svc_core.proofs.CopyLemmas.{bare-these, complete-bare}
use Rattle.svc_core.proofs.GoForms.{opened-goes, stops, visited-goes}
use Rattle.svc_boot.specs.BootData.{BootData}
use Rattle.svc_core.proofs.KeptLemmas.{kept-boot}
use Rattle.svc_core.proofs.machine.Core.settle.Goals as goal

pub returns-then-not-is_on : goal.returns-then-not-is_on
returns-then-not-is_on c = opened-goes (λ core. AfterEvent core c.args.copy) finish_room c.self.view_is (stops c.args.copy refl (omega arith)
    (follows-ended-at _ c.args.copy c.end-self-inside.result (list_of c.args.actions.now) c.end-self-inside.ensures
    (sym c.is_on.ensures ∙ c.if-not-is_on.true)))

pub returns : goal.returns
returns c = opened-goes (λ core. AfterEvent core c.args.copy) finish_room c.self.view_is
    (visited-goes c.advance.ensures c.startup_pass.ensures refl refl (ap (λ (b : BootData). b.begun) c.complete.ensures.after) refl
    (bare-these (list_of c.args.actions.now) (list_of c.complete.new.actions) _ c.complete.ensures.told (complete-bare c.complete.result c.moment.result))
    (record { few = omega arith; room = omega arith })
    (follows-on-at _ _ _ _ c.args.copy c.end-self-inside.result c.advance.result c.complete.new.self
    (list_of c.args.actions.now) (list_of c.complete.new.actions) (list_of c.startup_pass.new.actions) (list_of c.advance.new.actions) c.complete.result
    c.end-self-inside.ensures (sym c.is_on.ensures ∙ c.if-not-is_on.false) c.complete.ensures.due c.complete.ensures.after
    (rw c.moment.ensures at c.complete.ensures.told) (rw c.moment.ensures at (c.complete.ensures.stands c.self.inside.plan)) refl
    c.startup_pass.ensures.kept c.advance.ensures.kept))

pub invariant_of-self-2 : goal.invariant_of-self-2
invariant_of-self-2 c = kept-boot c.self.inside.boot c.complete.ensures.after (λ on. or_left c.self.inside.boot.complete c.complete.result on) c.self.invariant
