use Rattle.std.proofs.Common.{◌≡◌}
use Rattle.std.specs.VecDeque.{deque_len}
use Rattle.svc_text.specs.PackedItems.{left_in}
use Rattle.svc_text.proofs.script_items.turn_block.Given as goal

abbrev pub invariant-loop-blocks : goal.invariant-loop-blocks
invariant-loop-blocks l = left_in l.front.items l.blocks.items l.last.items ≡ left_in l.fn.front.items l.fn.blocks.items l.fn.last.items

abbrev pub decreases-loop-blocks : goal.decreases-loop-blocks
decreases-loop-blocks l = deque_len l.blocks
