use Rattle.std.proofs.Common.{◌≡◌, ℕ, length, take, true}
use Rattle.svc_base.specs.Blocks.{are_wide, KeepsFirsts, KeepsEntries}
use Rattle.svc_base.proofs.block_memory.widen_each.Given as goal

abbrev pub invariant-loop-at : goal.invariant-loop-at
invariant-loop-at g l = record {
  kept : KeepsEntries l.initial.blocks.items l.blocks.items;
  same : length l.blocks.items ≡ length l.initial.blocks.items;
  wide : are_wide l.room (take l.at l.blocks.items) ≡ true;
  firsts : (key : g.row.T.Denot → ℕ) → KeepsFirsts key l.initial.blocks.items l.blocks.items;
}
