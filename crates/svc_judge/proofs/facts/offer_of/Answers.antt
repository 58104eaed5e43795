use Rattle.std.proofs.Common.{◌≡◌, subst, IfOk}
use Rattle.svc_fds.specs.Tables.{numbers}
use Rattle.svc_record.specs.Record.{Record}
use Rattle.svc_record.specs.Message.{encode}
use Rattle.svc_record.specs.Descriptors.{live_table}
use Rattle.svc_judge.specs.declared.past.Offer.{Offer}
use Rattle.svc_judge.proofs.facts.offer_of.Goals as goal

pub returns-clause-numbers : goal.returns-clause-numbers
returns-clause-numbers c =
    subst (λ (q : Record). IfOk c.offer_at.result (λ (o : Offer). o.numbers.items ≡ numbers (live_table c.args.plan.now q))) c.before_signal.ensures
    c.offer_at.ensures.numbers

pub returns-clause-message : goal.returns-clause-message
returns-clause-message c =
    subst (λ (q : Record). IfOk c.offer_at.result (λ (o : Offer). o.message ≡ encode (live_table c.args.plan.now q))) c.before_signal.ensures
    c.offer_at.ensures.message
