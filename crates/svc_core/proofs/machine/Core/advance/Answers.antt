use Rattle.std.proofs.Common.{refl, sym, ◌∙◌, arith}
use Rattle.svc_base.specs.Items.{list_of}
use Rattle.svc_core.specs.Stands.{AfterPass}
use Rattle.svc_core.specs.Steps.{go_room}
use Rattle.svc_core.proofs.FinishLemmas.{go-ended-at, go-on-at, go-waiting-at, go-then}
use Rattle.svc_core.proofs.CopyLemmas.{bare-these, bare-then, run-bare, try-bare}
use Rattle.svc_core.proofs.GoForms.{opened-goes, stops, then-goes}
use Rattle.svc_core.proofs.KeptLemmas.{kept-boot}
use Rattle.svc_core.proofs.machine.Core.advance.Goals as goal

pub returns-then-not-is_on : goal.returns-then-not-is_on
returns-then-not-is_on c = opened-goes (λ core. AfterPass core c.args.copy) go_room c.self.view_is (stops c.args.copy refl (omega arith)
    (go-ended-at _ c.args.copy c.end-self-inside.result
    (list_of c.args.actions.now) c.end-self-inside.ensures c.self.invariant.formed.least c.self.invariant.formed.in_order
    (sym c.is_on.ensures ∙ c.if-not-is_on.true)))

pub returns-then-not-may_start : goal.returns-then-not-may_start
returns-then-not-may_start c = opened-goes (λ core. AfterPass core c.args.copy) go_room c.self.view_is (then-goes c.advance_shutdown.ensures refl
    (bare-these (list_of c.args.actions.now) (list_of c.try_again.new.actions) _ c.try_again.ensures.told (try-bare c.try_again.result))
    (record { few = omega arith; room = omega arith })
    (go-then _ _ _ c.args.copy (list_of c.args.actions.now) (list_of c.try_again.new.actions) (list_of c.advance_shutdown.new.actions) c.advance_shutdown.result
    (go-waiting-at _ c.args.copy c.end-self-inside.result c.try_again.new.self (list_of c.args.actions.now)
    (list_of c.try_again.new.actions) c.try_again.result c.end-self-inside.ensures c.try_again.ensures.after
    c.self.invariant.formed.in_order (sym c.is_on.ensures ∙ c.if-not-is_on.false) (sym c.may_start.ensures ∙ c.if-not-may_start.true)
    (rw c.moment.ensures at c.try_again.ensures.due) c.try_again.ensures.told (rw c.moment.ensures at (c.try_again.ensures.stands c.self.inside.plan)))
    c.advance_shutdown.ensures.kept))

pub returns : goal.returns
returns c = opened-goes (λ core. AfterPass core c.args.copy) go_room c.self.view_is (then-goes c.advance_shutdown-2.ensures refl
    (bare-then (list_of c.args.actions.now) (list_of c.run_once.new.actions) (list_of c.try_again-2.new.actions)
    (bare-these (list_of c.args.actions.now) (list_of c.run_once.new.actions) _ c.run_once.ensures.told (run-bare c.self.inside.drain))
    (bare-these (list_of c.run_once.new.actions) (list_of c.try_again-2.new.actions) _ c.try_again-2.ensures.told (try-bare c.try_again-2.result)))
    (record { few = omega arith; room = omega arith })
    (go-then _ _ _ c.args.copy (list_of c.args.actions.now) (list_of c.try_again-2.new.actions)
    (list_of c.advance_shutdown-2.new.actions) c.advance_shutdown-2.result
    (go-on-at _ c.args.copy c.end-self-inside.result c.try_again-2.new.self c.run_once.new.self (list_of c.args.actions.now) (list_of c.run_once.new.actions)
    (list_of c.try_again-2.new.actions) c.try_again-2.result c.end-self-inside.ensures
    c.try_again-2.ensures.after c.run_once.ensures.after
    c.self.invariant.formed.in_order (sym c.is_on.ensures ∙ c.if-not-is_on.false) (sym c.may_start.ensures ∙ c.if-not-may_start.false)
    c.run_once.ensures.stands c.run_once.ensures.told
    (rw (c.moment-2.ensures, c.run_once.ensures.after) at c.try_again-2.ensures.due) c.try_again-2.ensures.told
    (rw (c.moment-2.ensures, c.run_once.ensures.after) at (c.try_again-2.ensures.stands c.self.inside.plan)))
    c.advance_shutdown-2.ensures.kept))

pub invariant_of-self-then-not-may_start : goal.invariant_of-self-then-not-may_start
invariant_of-self-then-not-may_start c = kept-boot c.self.inside.boot c.try_again.ensures.after (λ on. on) c.self.invariant

pub invariant_of-self-3 : goal.invariant_of-self-3
invariant_of-self-3 c = kept-boot c.self.inside.boot c.try_again-2.ensures.after (λ on. on) c.self.invariant
