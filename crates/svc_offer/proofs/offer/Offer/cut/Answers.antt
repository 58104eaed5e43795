use Rattle.std.proofs.Common.{rules}
use Rattle.svc_offer.proofs.Cuts.{after-cut, settled-cut}
use Rattle.svc_offer.proofs.offer.Offer.cut.Goals as goal

pub returns-clause-after : goal.returns-clause-after
returns-clause-after c = search rules

pub returns-clause-stands : goal.returns-clause-stands
returns-clause-stands c = λ p q at graceful stand. after-cut p c.args.self.now _ q c.args.moment (returns-clause-after c) at graceful stand

pub returns-clause-settled : goal.returns-clause-settled
returns-clause-settled c = λ t. settled-cut c.args.self.now _ c.args.moment t (returns-clause-after c)
