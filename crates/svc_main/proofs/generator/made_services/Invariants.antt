use Rattle.std.proofs.Common.{◌≡◌}
use Rattle.svc_main.specs.Generator.{made_services}
use Rattle.svc_main.proofs.generator.made_services.Given as goal

abbrev pub invariant-loop-k : goal.invariant-loop-k
invariant-loop-k l = l.services.items ≡ made_services l.k
