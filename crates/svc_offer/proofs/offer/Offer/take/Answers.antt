use Rattle.std.proofs.Common.{rules}
use Rattle.svc_offer.proofs.AnswerLemmas.{after-answered}
use Rattle.svc_offer.proofs.offer.Offer.take.Goals as goal

pub returns-clause-after : goal.returns-clause-after
returns-clause-after c = search rules

pub returns-clause-stands : goal.returns-clause-stands
returns-clause-stands c = λ p q at stand. after-answered p c.args.self.now _ q c.args.answer c.args.moment (returns-clause-after c) c.requires at stand
