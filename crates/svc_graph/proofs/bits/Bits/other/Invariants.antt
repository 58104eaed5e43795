use Rattle.std.proofs.Common.{ℕ, true, ◌≡◌, ◌<◌, ◌*◌}
use Rattle.svc_graph.specs.Bits.{is_set}
use Rattle.svc_graph.proofs.bits.Bits.other.Given as goal

abbrev pub invariant-loop-k : goal.invariant-loop-k
invariant-loop-k l = (c : ℕ) → c < 64 * l.k → is_set l.others l.y c ≡ true → is_set l.self l.x c ≡ true
