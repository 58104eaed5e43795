use Rattle.std.proofs.Common.{◌≡◌, ◌++◌, length}
use Rattle.svc_text.proofs.script_items.ScriptItems.into_items.Given as goal

abbrev pub invariant-loop-item : goal.invariant-loop-item
invariant-loop-item l = l.fn.self ≡ l.list.items ++ l.left

abbrev pub decreases-loop-item : goal.decreases-loop-item
decreases-loop-item l = length l.left
