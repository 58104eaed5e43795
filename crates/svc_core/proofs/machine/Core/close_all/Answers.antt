use Rattle.svc_base.specs.Items.{list_of}
use Rattle.svc_core.proofs.TailLemmas.{closes-open, closes-brought}
use Rattle.svc_core.proofs.machine.Core.close_all.Goals as goal

pub returns-in-Some-clause-closes : goal.returns-in-Some-clause-closes
returns-in-Some-clause-closes c = λ q stands. rw c.in-Some.is
    (closes-brought c.args.self.now q c.in-Some.event.now (list_of c.args.actions.now) (list_of c.close_open.new.actions) (list_of c.close_brought.new.actions)
    c.close_open.ensures.told c.close_brought.ensures.told stands)

pub returns-in_default-clause-closes : goal.returns-in_default-clause-closes
returns-in_default-clause-closes c = λ q stands. rw c.in_default.is
    (closes-open c.args.self.now q (list_of c.args.actions.now) (list_of c.close_open.new.actions) c.close_open.ensures.told stands)
