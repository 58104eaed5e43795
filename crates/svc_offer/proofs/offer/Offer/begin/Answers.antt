use Rattle.std.proofs.Common.{rules}
use Rattle.svc_offer.proofs.Signals.{after-begun}
use Rattle.svc_offer.proofs.offer.Offer.begin.Goals as goal

pub returns-clause-after : goal.returns-clause-after
returns-clause-after c = search rules

pub returns-clause-stands : goal.returns-clause-stands
returns-clause-stands c =
    λ p q at none some is stand. after-begun p c.args.self.now _ q c.args.message c.args.moment (returns-clause-after c) at none some is stand
