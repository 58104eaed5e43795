use Rattle.std.proofs.Common.{refl, sym, ◌∙◌, arith, Bool, List, subst}
use Rattle.svc_base.specs.Items.{list_of}
use Rattle.svc_core.proofs.CopyLemmas.{bare-none}
use Rattle.svc_core.proofs.FinishLemmas.{start-up, start-none}
use Rattle.svc_core.proofs.GoForms.{opened-visits}
use Rattle.std.specs.Bool.{OnTrue}
use Rattle.svc_core.specs.WaitsState.{KnowsReady}
use Rattle.svc_core.proofs.WaitsLemmas.{known-caught, short-order, watched-known, watched-woken, woken-late}
use Rattle.svc_core.proofs.machine.Core.startup_pass.Goals as goal

pub returns-then-may_start : goal.returns-then-may_start
returns-then-may_start c =
    opened-visits c.self.view_is (record {
      plan = refl;
      order = refl;
      table = c.pass.ensures.table;
      connections = refl;
      kept = start-up _ c.pass.new.starts c.pass.new.endpoints.parts c.pass.new.boot (list_of c.args.actions.now) (list_of c.pass.new.actions)
          (rw (← c.self.view_is) at (sym c.may_start.ensures ∙ c.if-may_start.true)) (rw c.deref-then-may_start.ensures.value at c.pass.ensures.passed);
      bare = c.pass.ensures.bare;
      spends =
          let few = rw c.deref-then-may_start.ensures.value at c.pass.ensures.spends.few in
          let room = rw c.deref-then-may_start.ensures.value at c.pass.ensures.spends.room in
          record { few = omega (arith, few); room = omega (arith, room) };
    })

pub returns-else-may_start : goal.returns-else-may_start
returns-else-may_start c = record {
  plan = refl;
  order = refl;
  table = refl;
  connections = refl;
  kept = start-none c.args.self.now (list_of c.args.actions.now) (sym c.may_start.ensures ∙ c.if-may_start.false);
  bare = bare-none (list_of c.args.actions.now);
  spends = record { few = omega arith; room = omega arith };
}

pub pass-requires-clause-known : goal.pass-requires-clause-known
pass-requires-clause-known c =
    rw c.deref-then-may_start.ensures.value
    (known-caught c.self.inside.plan c.self.inside.order.items c.self.inside.starts c.self.inside.endpoints.parts c.self.inside.boot.complete
    c.self.inside.drain.moment c.wake.new.self c.catch_up.new.self
    (watched-woken c.self.inside.plan c.self.inside.order.items c.self.inside.starts c.self.inside.endpoints.parts c.self.inside.waits c.wake.new.self
    c.wake.ensures.wakes c.self.invariant.watched)
    (rw c.deref.ensures.value at c.catch_up.ensures.opens) (c.catch_up.ensures.complete
    ∙ c.is_complete.ensures) (rw (c.failed.ensures, c.is_complete.ensures) at c.catch_up.ensures.ready)
    (rw (c.failed.ensures, c.is_complete.ensures) at c.catch_up.ensures.only)
    (woken-late c.self.inside.waits c.wake.new.self c.self.inside.boot.complete c.wake.ensures.wakes c.self.invariant.late)
    (rw c.moment.ensures at c.wake.ensures.soon))

pub invariant_of-self : goal.invariant_of-self
invariant_of-self c =
    let known = rw c.deref-then-may_start.ensures.value at c.pass.ensures.known in
    record {
      formed = rw c.deref-then-may_start.ensures.value at c.pass.ensures.formed;
      watched = watched-known c.self.inside.plan c.self.inside.order.items c.pass.new.starts c.pass.new.endpoints.parts c.pass.new.boot.complete
          c.self.inside.drain.moment _ c.pass.new.waits known;
      late = λ on. sym known.complete_is ∙ on;
    }

pub catch_up-requires-clause-order : goal.catch_up-requires-clause-order
catch_up-requires-clause-order c = rw c.deref.ensures.value (short-order c.self.invariant.formed)

pub catch_up-requires-clause-watched : goal.catch_up-requires-clause-watched
catch_up-requires-clause-watched c =
    subst (λ (failed : List Bool). OnTrue c.wake.new.self.fresh
    (KnowsReady c.self.inside.plan c.self.inside.starts failed c.wake.new.self.complete c.wake.new.self)) (sym c.failed.ensures)
    (watched-woken c.self.inside.plan c.self.inside.order.items c.self.inside.starts c.self.inside.endpoints.parts c.self.inside.waits c.wake.new.self
    c.wake.ensures.wakes c.self.invariant.watched).ready
