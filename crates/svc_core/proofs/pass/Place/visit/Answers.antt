use Rattle.std.proofs.Common.{sym, ◌∙◌, slice_index}
use Rattle.svc_base.specs.Items.{list_of}
use Rattle.svc_core.proofs.PassLemmas.{visit-passes, visit-tests, passes-stay}
use Rattle.svc_core.proofs.PlaceLemmas.{starts-none}
use Rattle.svc_core.proofs.pass.Place.visit.Goals as goal

pub returns-then-is_tested-clause-passed : goal.returns-then-is_tested-clause-passed
returns-then-is_tested-clause-passed c =
    passes-stay c.args.self.now.plan.now c.args.self.now.order.now c.args.self.now.drain.now c.args.self.now.place c.args.starts.now
    c.args.endpoints.now.parts c.args.boot.now
    (list_of c.args.actions.now) (sym c.is_tested.ensures ∙ c.if-is_tested.true)

pub returns-then-is_tested-2-clause-passed : goal.returns-then-is_tested-2-clause-passed
returns-then-is_tested-2-clause-passed c =
    visit-tests c.args.self.now.plan.now c.args.self.now.order.now c.args.self.now.drain.now c.args.self.now.place c.args.starts.now c.start.new.starts
    c.args.endpoints.now.parts c.args.boot.now
    c.start.new.boot
    (list_of c.args.actions.now) (list_of c.start.new.actions) (sym c.is_tested-2.ensures ∙ c.if-is_tested-2.true) c.start.ensures.started

pub returns-clause-passed : goal.returns-clause-passed
returns-clause-passed c =
    visit-passes c.args.self.now.plan.now c.args.self.now.order.now c.args.self.now.drain.now c.args.self.now.place c.requires.place
    c.requires.formed.in_order c.args.starts.now c.start.new.starts
    c.args.endpoints.now.parts c.visit.new.self.parts
    c.args.boot.now c.start.new.boot (list_of c.args.actions.now) (list_of c.start.new.actions) (list_of c.visit.new.actions)
    (sym c.is_tested-2.ensures ∙ c.if-is_tested-2.false) c.start.ensures.started
    (rw (c.is_started-is_started.ensures, c.moment.ensures) at c.visit.ensures.visited)

pub returns-then-is_tested-clause-only : goal.returns-then-is_tested-clause-only
returns-then-is_tested-clause-only c =
    starts-none c.args.self.now.plan.now c.args.starts.now c.args.endpoints.now.parts.failed c.args.boot.now.complete (slice_index
    c.args.self.now.order.now c.args.self.now.place)

pub returns-then-is_tested-2-clause-only : goal.returns-then-is_tested-2-clause-only
returns-then-is_tested-2-clause-only c = c.start.ensures.only

pub returns-clause-only : goal.returns-clause-only
returns-clause-only c = c.start.ensures.only
