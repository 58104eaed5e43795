use Rattle.std.proofs.Common.{refl}
use Rattle.svc_sockets.proofs.sockets.Sockets.admit.Goals as goal

pub returns-clause-row : goal.returns-clause-row
returns-clause-row c = (_, c.push_reserved.ensures.items, (refl, refl, refl))
