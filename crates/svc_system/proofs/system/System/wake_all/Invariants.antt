use Rattle.std.proofs.Common.{◌≡◌}
use Rattle.svc_system.proofs.system.System.wake_all.Given as goal

abbrev pub invariant-loop-at : goal.invariant-loop-at
invariant-loop-at g l = (l.self.offer ≡ l.fn.self.offer) × (l.self.listeners ≡ l.fn.self.listeners)
