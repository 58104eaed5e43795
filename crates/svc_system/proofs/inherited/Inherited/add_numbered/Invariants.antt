use Rattle.std.proofs.Common.{◌≡◌, ◌++◌, List}
use Rattle.svc_system.specs.declared.inherited.Passed.{Passed}
use Rattle.svc_system.proofs.inherited.Inherited.add_numbered.Given as goal

abbrev pub invariant-loop-place : goal.invariant-loop-place
invariant-loop-place l = (more : List Passed) × (l.self.rows.items ≡ l.fn.self.rows.items ++ more)
