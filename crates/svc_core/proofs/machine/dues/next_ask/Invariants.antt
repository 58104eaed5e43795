use Rattle.svc_moments.specs.Least.{IsLeast}
use Rattle.svc_core.specs.Dues.{AsksAmong}
use Rattle.svc_core.proofs.machine.dues.next_ask.Given as goal

abbrev pub invariant-loop-k : goal.invariant-loop-k
invariant-loop-k l = IsLeast (AsksAmong l.plan l.order l.starts.started l.endpoints.parts l.k) l.least
