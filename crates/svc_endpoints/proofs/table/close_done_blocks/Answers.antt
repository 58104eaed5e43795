use Rattle.std.proofs.Common.{arith, subst, List}
use Rattle.svc_base.specs.Items.{list_of}
use Rattle.svc_endpoints.specs.declared.table.Open.{Open}
use Rattle.svc_endpoints.specs.Counts.{goes_by}
use Rattle.svc_endpoints.specs.Firsts.{Follows}
use Rattle.svc_endpoints.proofs.FirstLemmas.{kept-block, kept-blocks-end}
use Rattle.svc_endpoints.proofs.TableLemmas.{block-fits, block-first, block-inside, block-cleared, cleared-left, cleared-told, cleared-room}
use Rattle.svc_endpoints.proofs.table.close_done_blocks.Goals as goal

pub close_done-requires : goal.close_done-requires
close_done-requires c =
    let done = goes_by c.args.plan.now c.args.failed.now c.args.kept.now (list_of c.args.uses.now) in
    let fits = block-fits done c.args.blocks.now.items c.loop-at.blocks.items c.args.actions.now c.loop-at.actions c.loop-at.at c.index_mut.result.now
    (omega arith) c.index_mut.ensures.value c.loop-at.invariant.cleared c.requires.room in
    record { flags = c.requires.flags; room = omega (arith, c.index_mut.result.now.ok.0) }

pub loop-at-preserved : goal.loop-at-preserved
loop-at-preserved c =
    let done = goes_by c.args.plan.now c.args.failed.now c.args.kept.now (list_of c.args.uses.now) in
    let first = c.args.blocks.now.items in
    let here = c.loop-at.blocks.items in
    let was = c.loop-at.invariant.cleared in
    let b = c.index_mut.result.now in
    record {
      cleared = block-cleared done first here c.args.actions.now c.loop-at.actions c.loop-at.at b (omega arith) c.index_mut.ensures.value was
          c.close_done.new.table c.close_done.new.actions c.close_done.ensures.after c.close_done.ensures.told c.close_done.ensures.room;
      firsts = kept-block done first c.loop-at.at b
          (block-inside done first here c.args.actions.now c.loop-at.actions c.loop-at.at b (omega arith) c.index_mut.ensures.value was)
          (block-first done first here c.args.actions.now c.loop-at.actions c.loop-at.at b (omega arith) c.index_mut.ensures.value was)
          (list_of c.args.firsts.now) (list_of c.loop-at.firsts) (list_of c.close_done.new.firsts) c.loop-at.invariant.firsts
          (subst (λ (w : List Open). Follows b.items w (list_of c.loop-at.firsts) (list_of c.close_done.new.firsts)) c.close_done.ensures.after
          c.close_done.ensures.firsts);
    }

pub returns : goal.returns
returns c =
    let done = goes_by c.args.plan.now c.args.failed.now c.args.kept.now (list_of c.args.uses.now) in
    let first = c.args.blocks.now.items in
    let here = c.loop-at.blocks.items in
    let was = c.loop-at.invariant.cleared in
    let left = cleared-left done first here c.args.actions.now c.loop-at.actions c.loop-at.at was (omega arith) in
    record {
      after = left;
      firsts = kept-blocks-end done first here c.loop-at.at (list_of c.args.firsts.now) (list_of c.loop-at.firsts) (omega arith) left
          c.loop-at.invariant.firsts;
      told = cleared-told done first here c.args.actions.now c.loop-at.actions c.loop-at.at was (omega arith);
      room = cleared-room done first here c.args.actions.now c.loop-at.actions c.loop-at.at was (omega arith);
    }
