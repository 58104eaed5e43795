use Rattle.std.proofs.Common.{◌+◌, ◌*◌, length}
use Rattle.svc_graph.proofs.Searches.{Search, clear_count}
use Rattle.svc_graph.proofs.above.leading.Given as goal

abbrev pub invariant-loop-top : goal.invariant-loop-top
invariant-loop-top l = Search l.needed l.count l.node l.found l.stack.items

abbrev pub decreases-loop-top : goal.decreases-loop-top
decreases-loop-top l = 2 * clear_count l.found + length l.stack.items
