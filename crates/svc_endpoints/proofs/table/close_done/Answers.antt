use Rattle.std.proofs.Common.{arith, sym, ◌∙◌}
use Rattle.svc_base.specs.Items.{list_of}
use Rattle.svc_endpoints.specs.Counts.{goes_by}
use Rattle.svc_endpoints.proofs.FirstLemmas.{kept-here, kept-past}
use Rattle.svc_endpoints.proofs.TableLemmas.{clears-here, clears-past, at-inside, at-first}
use Rattle.svc_endpoints.proofs.table.close_done.Goals as goal
use Rattle.svc_endpoints.proofs.table.close_done.Goals.{then-goes, else-goes}

pub loop-i-preserved : goal.loop-i-preserved
loop-i-preserved c =
    let test = goes_by c.args.plan.now c.args.failed.now c.args.kept.now (list_of c.args.uses.now) in
    let first = c.args.table.now.items in
    let here = c.loop-i.table.items in
    let was = c.loop-i.invariant.cleared in
    let x = c.index-entry.result.now in
    let lt = at-inside test first here c.loop-i.left c.loop-i.i x (omega arith) c.index-entry.ensures c.args.actions.now c.loop-i.actions was in
    let is = at-first test first here c.loop-i.left c.loop-i.i x (omega arith) c.index-entry.ensures c.args.actions.now c.loop-i.actions was in
    elim c.if-goes.branch [
      | then-goes w ↦ rw (w.table-is, w.firsts-is, w.actions-is, w.left-is) (record {
        cleared = clears-here test first here c.loop-i.left c.loop-i.i x
            (omega arith) c.index-entry.ensures c.args.actions.now c.loop-i.actions was
            w.put.new.self (sym c.goes.ensures ∙ w.if-goes.true) w.put.ensures.items w.put.ensures.room;
        firsts = kept-here test first c.loop-i.i x lt is (list_of c.args.firsts.now) (list_of c.loop-i.firsts) c.loop-i.invariant.firsts
            (list_of w.forget.new.firsts) (sym c.goes.ensures ∙ w.if-goes.true) w.forget.ensures.firsts;
      })
      | else-goes w ↦ rw (w.table-is, w.firsts-is, w.actions-is, w.left-is) (record {
        cleared = clears-past test first here c.loop-i.left c.loop-i.i x
            (omega arith) c.index-entry.ensures c.args.actions.now c.loop-i.actions was
            w.swap.new.self.items (sym c.goes.ensures ∙ w.if-goes.false) w.swap.ensures.by_index;
        firsts = kept-past test first c.loop-i.i x lt is (list_of c.args.firsts.now) (list_of c.loop-i.firsts) c.loop-i.invariant.firsts
            (sym c.goes.ensures ∙ w.if-goes.false);
      })
    ]
