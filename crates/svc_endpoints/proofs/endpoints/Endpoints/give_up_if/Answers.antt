use Rattle.std.proofs.Common.{refl}
use Rattle.svc_endpoints.proofs.endpoints.Endpoints.give_up_if.Goals as goal

pub returns-then-fails : goal.returns-then-fails
returns-then-fails c = rw c.if-fails.true c.give_up.ensures

pub returns-else-fails : goal.returns-else-fails
returns-else-fails c = rw c.if-fails.false (refl, refl)
