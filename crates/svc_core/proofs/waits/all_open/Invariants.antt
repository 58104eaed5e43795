use Rattle.std.proofs.Common.{ℕ, true, ◌≡◌, ◌<◌, ◌+◌}
use Rattle.svc_graph.specs.Bits.{is_set, HasRows}
use Rattle.svc_core.proofs.waits.all_open.Given as goal

abbrev pub invariant-loop-k : goal.invariant-loop-k
invariant-loop-k l = record {
  rows : HasRows l.bits (l.services + 3);
  are_set : (j : ℕ) → j < l.k → is_set l.bits 0 j ≡ true;
}
