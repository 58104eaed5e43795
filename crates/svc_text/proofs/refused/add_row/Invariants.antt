use Rattle.std.proofs.Common.{◌≡◌, take}
use Rattle.svc_text.specs.Edges.{HasTaken}
use Rattle.svc_text.proofs.refused.add_row.Given as goal

abbrev pub invariant-loop-dependency : goal.invariant-loop-dependency
invariant-loop-dependency l = record {
  taken : HasTaken l.fn.graph l.graph l.dependent (take l.dependency-index l.after);
  names : l.graph.names ≡ l.fn.graph.names;
}
