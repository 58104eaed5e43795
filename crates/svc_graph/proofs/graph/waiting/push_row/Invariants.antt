use Rattle.std.proofs.Common.{◌≡◌, ◌≤◌, ◌-◌, ◌++◌}
use Rattle.svc_graph.specs.Bits.{is_set}
use Rattle.svc_graph.specs.Counts.{those_below}
use Rattle.svc_graph.proofs.graph.waiting.push_row.Given as goal

abbrev pub invariant-loop-dependent : goal.invariant-loop-dependent
invariant-loop-dependent l = record {
  from : l.from ≤ 1024;
  items : l.rows.items ≡ l.initial.rows.items ++ those_below (is_set l.needed l.node) l.from;
}

abbrev pub decreases-loop-dependent : goal.decreases-loop-dependent
decreases-loop-dependent l = 1024 - l.from
