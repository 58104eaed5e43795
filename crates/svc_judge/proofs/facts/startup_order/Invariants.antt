use Rattle.std.proofs.Common.{◌≡◌}
use Rattle.svc_record.specs.Starts.{first_services}
use Rattle.svc_judge.proofs.facts.startup_order.Given as goal

abbrev pub invariant-loop-n : goal.invariant-loop-n
invariant-loop-n l = l.listed.items ≡ first_services l.plan l.n
