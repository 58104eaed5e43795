use Rattle.svc_core.proofs.PlaceLemmas.{freed-open, known-asking, known-closed, known-freed, known-resting}
use Rattle.svc_core.proofs.pass.VisitedPlace.settle_started.Goals as goal

pub returns-in-Asking : goal.returns-in-Asking
returns-in-Asking c =
    known-asking c.args.self.now.plan.now c.args.self.now.order.now c.args.self.now.starts.now c.args.self.now.endpoints.now.parts c.args.self.now.complete
    c.args.self.now.moment c.args.self.now.place c.args.waits.now
    c.close_asking.new.self c.requires.started (rw c.in-Asking.is at c.requires.stands) c.close_asking.ensures c.requires.known

pub returns-in-Resting : goal.returns-in-Resting
returns-in-Resting c =
    known-resting c.args.self.now.plan.now c.args.self.now.order.now c.args.self.now.starts.now c.args.self.now.endpoints.now.parts
    c.args.self.now.complete c.args.self.now.moment c.args.self.now.place c.args.waits.now
    c.in-Resting.end c.rest.new.self c.requires.started (rw c.in-Resting.is at c.requires.stands) c.rest.ensures c.requires.known

pub returns-in-Served : goal.returns-in-Served
returns-in-Served c =
    known-closed c.args.self.now.plan.now c.args.self.now.order.now c.args.self.now.starts.now c.args.self.now.endpoints.now.parts c.args.self.now.complete
    c.args.self.now.moment c.args.self.now.place c.hand_on.new.waits
    c.close.new.self c.requires.started (rw c.in-Served.is at c.requires.stands) c.close.ensures c.hand_on.ensures

pub settle_behind-requires-clause-known : goal.settle_behind-requires-clause-known
settle_behind-requires-clause-known c =
    known-freed c.args.self.now.plan.now c.args.self.now.order.now c.args.self.now.starts.now c.args.self.now.endpoints.now.parts c.args.self.now.complete
    c.args.self.now.moment c.args.self.now.place c.args.waits.now
    c.free.new.self c.free.ensures c.requires.known

pub settle_behind-requires-clause-open : goal.settle_behind-requires-clause-open
settle_behind-requires-clause-open c =
    freed-open c.args.self.now.plan.now c.args.self.now.order.now c.args.self.now.starts.now c.args.self.now.endpoints.now.parts c.args.self.now.complete
    c.args.self.now.moment c.args.self.now.place c.args.waits.now
    c.free.new.self c.free.ensures c.requires.open

pub returns-in-Due : goal.returns-in-Due
returns-in-Due c =
    known-freed c.args.self.now.plan.now c.args.self.now.order.now c.args.self.now.starts.now c.args.self.now.endpoints.now.parts c.args.self.now.complete
    c.args.self.now.moment c.args.self.now.place c.args.waits.now
    c.free-in-Due.new.self c.free-in-Due.ensures c.requires.known
