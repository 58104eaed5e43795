use Rattle.std.proofs.Common.{◌≡◌, true}
use Rattle.svc_base.specs.Blocks.{is_index, KeepsEntries}
use Rattle.svc_base.proofs.block_memory.cut_each.Given as goal

abbrev pub invariant-loop-at : goal.invariant-loop-at
invariant-loop-at g l = record {
  kept : KeepsEntries l.initial.blocks.items l.blocks.items;
  index : is_index g.T.Keyed.key_of l.initial.firsts.items l.initial.blocks.items ≡ true → is_index g.T.Keyed.key_of l.firsts.items l.blocks.items ≡ true;
}
