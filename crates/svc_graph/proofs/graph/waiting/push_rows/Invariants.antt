use Rattle.svc_graph.specs.Waitings.{AreRows}
use Rattle.svc_graph.proofs.graph.waiting.push_rows.Given as goal

abbrev pub invariant-loop-node : goal.invariant-loop-node
invariant-loop-node l = AreRows l.needed l.node l.rows.items l.starts.items
