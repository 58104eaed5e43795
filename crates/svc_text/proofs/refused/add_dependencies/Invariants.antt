use Rattle.std.proofs.Common.{◌≡◌}
use Rattle.svc_text.proofs.EdgeLemmas.{HasServices}
use Rattle.svc_text.proofs.refused.add_dependencies.Given as goal

abbrev pub invariant-loop-number : goal.invariant-loop-number
invariant-loop-number l = record {
  services : HasServices l.graph l.services l.number;
  names : l.graph.names ≡ l.fn.graph.names;
}
