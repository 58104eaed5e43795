use Rattle.svc_connections.proofs.Rests.{stands-failed}
use Rattle.svc_connections.proofs.connections.on_accept_failed.Goals as goal

pub returns-then-number-eq-TOO_MANY_FILES-clause-stands : goal.returns-then-number-eq-TOO_MANY_FILES-clause-stands
returns-then-number-eq-TOO_MANY_FILES-clause-stands c = λ p d q inside w. stands-failed p d q c.args.s c.args.i c.args.number inside w

pub returns-else-number-eq-TOO_MANY_FILES-clause-stands : goal.returns-else-number-eq-TOO_MANY_FILES-clause-stands
returns-else-number-eq-TOO_MANY_FILES-clause-stands c = λ p d q inside w. stands-failed p d q c.args.s c.args.i c.args.number inside w
