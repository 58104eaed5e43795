use Rattle.std.proofs.Common.{rules, ◌<◌, length, ap, arith, Vec, Global}
use Rattle.std.specs.Vec.{vec_items}
use Rattle.std.proofs.lemmas.List.Folds.{length-flat_map-take}
use Rattle.svc_base.proofs.blocks.count_of.Goals as goal

pub overflow_add-count : goal.overflow_add-count
overflow_add-count g c =
    let lt : c.loop-block.block-index < length c.args.blocks.now = search rules in
    let most = length-flat_map-take vec_items c.args.blocks.now c.loop-block.block-index c.block-item.result lt in
    let is = ap (λ (v : Vec g.row.T.Denot Global). length v.items) c.block-item.is in
    omega (arith, c.block-item.result.ok.0)
