use Rattle.std.proofs.Common.{◌≡◌, length, true}
use Rattle.svc_base.specs.Blocks.{is_index}
use Rattle.svc_base.proofs.block_memory.note_rest.Given as goal

abbrev pub invariant-loop-at : goal.invariant-loop-at
invariant-loop-at g l = record {
  here : length l.firsts.items ≡ l.at;
  index : is_index g.T.Keyed.key_of l.initial.firsts.items l.blocks ≡ true → is_index g.T.Keyed.key_of l.firsts.items l.blocks ≡ true;
}
