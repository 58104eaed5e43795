use Rattle.std.specs.Prelude.{◌≤◌, length}
use Rattle.svc_messages.proofs.near.shared_stretch.Given as goal

abbrev pub invariant-loop-k : goal.invariant-loop-k
invariant-loop-k l = l.most ≤ length l.a
