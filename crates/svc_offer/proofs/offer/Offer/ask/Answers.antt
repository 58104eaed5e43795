use Rattle.std.proofs.Common.{rules}
use Rattle.svc_offer.proofs.AskLemmas.{after-asked}
use Rattle.svc_offer.proofs.offer.Offer.ask.Goals as goal

pub returns-then-is_connect_due-clause-after : goal.returns-then-is_connect_due-clause-after
returns-then-is_connect_due-clause-after c = search rules

pub returns-then-is_connect_due-clause-stands : goal.returns-then-is_connect_due-clause-stands
returns-then-is_connect_due-clause-stands c =
    λ p q at same stand. after-asked p c.args.self.now _ q c.args.moment c.args.copy (returns-then-is_connect_due-clause-after c) at same stand

pub returns-then-is_send_due-clause-after : goal.returns-then-is_send_due-clause-after
returns-then-is_send_due-clause-after c = search rules

pub returns-then-is_send_due-clause-stands : goal.returns-then-is_send_due-clause-stands
returns-then-is_send_due-clause-stands c =
    λ p q at same stand. after-asked p c.args.self.now _ q c.args.moment c.args.copy (returns-then-is_send_due-clause-after c) at same stand
