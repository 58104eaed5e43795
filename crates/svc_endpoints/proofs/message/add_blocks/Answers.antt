use Rattle.std.proofs.Common.{List, rules, ◌<◌, length, take, arith, ap, ◌∙◌, Vec, Global, length-append}
use Rattle.std.specs.List.{filter_map}
use Rattle.std.specs.Vec.{vec_items}
use Rattle.std.proofs.lemmas.List.Folds.{length-flat_map-take}
use Rattle.svc_fds.specs.Tables.{put_all}
use Rattle.svc_base.specs.Blocks.{joined}
use Rattle.svc_base.proofs.BlockLemmas.{joined-front}
use Rattle.svc_endpoints.specs.declared.table.Open.{Open}
use Rattle.svc_endpoints.specs.Offered.{open_entry}
use Rattle.svc_endpoints.proofs.MessageLemmas.{put_all-block}
use Rattle.svc_endpoints.proofs.message.add_blocks.Goals as goal

pub add_entries-requires : goal.add_entries-requires
add_entries-requires c =
    let lt : c.loop-block.block-index < length c.args.blocks.now = search rules in
    let fits = length-flat_map-take vec_items c.args.blocks.now c.loop-block.block-index c.block-item.result lt in
    let size = ap length c.deref.ensures.value ∙ ap (λ (v : Vec Open Global). length v.items) c.block-item.is in
    let room = c.loop-block.invariant.room in
    let all = c.requires in
    omega arith

pub loop-block-preserved : goal.loop-block-preserved
loop-block-preserved c =
    let lt : c.loop-block.block-index < length c.args.blocks.now = search rules in
    let more = ap length (joined-front c.args.blocks.now c.loop-block.block-index c.block-item.result lt c.block-item.is) in
    let size = ap length c.deref.ensures.value in
    let room = c.loop-block.invariant.room in
    let left = c.in_ok-add_entries.ensures.room in
    record {
      room = omega (arith, length-append (joined (take c.loop-block.block-index c.args.blocks.now)) c.block-item.result.items);
      added = c.in_ok-add_entries.ensures.entries ∙ ap (λ (w : List Open). put_all (filter_map open_entry w) c.loop-block.fds.entries) c.deref.ensures.value
          ∙ ap (λ es. put_all (filter_map open_entry c.block-item.result.items) es) c.loop-block.invariant.added
          ∙ put_all-block c.args.blocks.now c.loop-block.block-index c.block-item.result c.args.fds.now.entries lt c.block-item.is;
    }
