use Rattle.std.proofs.Common.{◌≡◌, true}
use Rattle.std.specs.Prelude.{IsSome}
use Rattle.svc_system.proofs.system.System.advance.Given as goal

abbrev pub invariant-loop : goal.invariant-loop
invariant-loop g l = (l.fn.self.has_ended ≡ true → l.self ≡ l.fn.self) × (IsSome l.fn.self.found → l.self ≡ l.fn.self)
