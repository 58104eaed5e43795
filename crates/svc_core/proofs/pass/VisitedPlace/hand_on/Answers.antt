use Rattle.svc_core.proofs.PlaceLemmas.{known-freed, known-handed}
use Rattle.svc_core.proofs.WaitsLemmas.{order-apart}
use Rattle.svc_core.proofs.pass.VisitedPlace.hand_on.Goals as goal

pub hand_on-requires-clause-apart : goal.hand_on-requires-clause-apart
hand_on-requires-clause-apart c =
    order-apart c.args.self.now.plan.now c.args.self.now.order.now c.requires.formed.formed.least c.args.self.now.place c.in-Some.next
    c.in-Some.ensures.later c.in-Some.ensures.place

pub returns-in-Some : goal.returns-in-Some
returns-in-Some c =
    known-handed c.args.self.now.plan.now c.args.self.now.order.now c.args.self.now.starts.now c.args.self.now.endpoints.now.parts c.args.self.now.complete
    c.args.self.now.moment c.args.self.now.place c.args.waits.now
    c.in-Some.next c.hand_on.new.self c.in-Some.ensures c.hand_on.ensures c.requires.open c.requires.known

pub returns-in-None : goal.returns-in-None
returns-in-None c =
    known-freed c.args.self.now.plan.now c.args.self.now.order.now c.args.self.now.starts.now c.args.self.now.endpoints.now.parts c.args.self.now.complete
    c.args.self.now.moment c.args.self.now.place c.args.waits.now
    c.free.new.self c.free.ensures c.requires.known
