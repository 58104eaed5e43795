use Rattle.std.proofs.Common.{ap, ◌∙◌}
use Rattle.svc_base.specs.Blocks.{rises_by}
use Rattle.svc_base.proofs.BlockLemmas.{block-rises, placed-for}
use Rattle.svc_base.proofs.block_places.place_for.Goals as goal

pub count_up_to-entry-requires : goal.count_up_to-entry-requires
count_up_to-entry-requires g c =
    ap (rises_by g.T.Keyed.key_of) c.deref.ensures.value
    ∙ block-rises g.T.Keyed.key_of c.args.key c.args.blocks.now c.block_for-block.result c.index-blocks-block.result c.block_for-block.ensures c.requires.filled
    c.requires.rise c.index-blocks-block.is

pub returns : goal.returns
returns g c =
    placed-for g.T.Keyed.key_of c.args.key c.args.blocks.now c.block_for-block.result c.index-blocks-block.result c.block_for-block.ensures c.requires.filled
    c.requires.rise c.index-blocks-block.is
    c.count_up_to-entry.result (rw c.deref.ensures.value at c.count_up_to-entry.ensures.within) (rw c.deref.ensures.value at c.count_up_to-entry.ensures.below)
    (rw c.deref.ensures.value at c.count_up_to-entry.ensures.above)
