use Rattle.svc_connections.proofs.Steps.{after-shaken}
use Rattle.svc_connections.proofs.connections.Connections.on_shaken.Goals as goal

pub returns-then-ok-clause-stands : goal.returns-then-ok-clause-stands
returns-then-ok-clause-stands c = λ p q w. after-shaken p c.args.self.now.parts _ q c.args.c c.args.ok c.advance_to.ensures c.requires.awaited w

pub returns-else-ok-clause-stands : goal.returns-else-ok-clause-stands
returns-else-ok-clause-stands c = λ p q w. after-shaken p c.args.self.now.parts _ q c.args.c c.args.ok c.advance_to.ensures c.requires.awaited w
