use Rattle.std.proofs.Common.{arith, sym, ◌∙◌}
use Rattle.svc_base.specs.Items.{list_of}
use Rattle.svc_endpoints.proofs.GatherLemmas.{closes-new, closes-old}
use Rattle.svc_endpoints.proofs.endpoints.Endpoints.close_new.Goals as goal
use Rattle.svc_endpoints.proofs.endpoints.Endpoints.close_new.Goals.{then-is_new_after, else-is_new_after}

pub loop-k-preserved : goal.loop-k-preserved
loop-k-preserved c = elim c.if-is_new_after.branch [
  | then-is_new_after w ↦ (let lt = c.loop-k-test.true in rw w.actions-is (record {
    room = omega (arith, c.loop-k.invariant.room, w.put.ensures.room);
    told = w.put.ensures.items
        ∙ closes-new c.args.self.now.parts.came c.args.fds.now (list_of c.args.actions.now) (list_of c.loop-k.actions) c.loop-k.k
        (omega (arith, lt)) c.loop-k.invariant.told (sym c.is_new_after.ensures ∙ w.if-is_new_after.true);
  }))
  | else-is_new_after w ↦ (let lt = c.loop-k-test.true in rw w.actions-is (record {
    room = omega (arith, c.loop-k.invariant.room);
    told = closes-old c.args.self.now.parts.came c.args.fds.now (list_of c.args.actions.now) (list_of c.loop-k.actions) c.loop-k.k
        (omega (arith, lt)) c.loop-k.invariant.told (sym c.is_new_after.ensures ∙ w.if-is_new_after.false);
  }))
]
