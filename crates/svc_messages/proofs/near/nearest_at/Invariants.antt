use Rattle.std.specs.Prelude.{◌<◌, IfSome, length}
use Rattle.svc_messages.proofs.near.nearest_at.Given as goal

abbrev pub invariant-loop-k : goal.invariant-loop-k
invariant-loop-k l = IfSome l.found (λ k. k < length l.near)
