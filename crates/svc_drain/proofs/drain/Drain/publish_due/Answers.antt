use Rattle.svc_drain.proofs.GoingOn.{after-gone_on}
use Rattle.svc_drain.proofs.drain.Drain.publish_due.Goals as goal

pub returns-clause-stands : goal.returns-clause-stands
returns-clause-stands c = λ p q stand. after-gone_on p c.args.self.now c.publish_next.new.self c.args.over q c.publish_next.ensures.after stand
