use Rattle.std.proofs.Common.{rules, ◌<◌, ap, ◌∙◌, arith, Vec, Global, length}
use Rattle.std.specs.Vec.{vec_items}
use Rattle.std.proofs.lemmas.List.Folds.{length-flat_map-take}
use Rattle.svc_connections.specs.declared.stage.Connection.{Connection}
use Rattle.svc_connections.proofs.live.cut_blocks.Goals as goal

pub cut_each-requires : goal.cut_each-requires
cut_each-requires c =
    let lt : c.loop-block.block-index < length c.args.blocks.now = search rules in
    let fits = length-flat_map-take vec_items c.args.blocks.now c.loop-block.block-index c.block-item.result lt in
    let size = ap length c.deref.ensures.value ∙ ap (λ (v : Vec Connection Global). length v.items) c.block-item.is in
    record { room = omega arith }
