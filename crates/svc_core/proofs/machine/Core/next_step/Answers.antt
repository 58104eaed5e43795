use Rattle.svc_core.proofs.DueLemmas.{step-least, dues-of}
use Rattle.svc_core.proofs.machine.Core.next_step.Goals as goal

pub returns : goal.returns
returns c = dues-of c.self.view_is (λ none. step-least _ c.next_try.result c.next_due.result c.next_due-2.result c.next_visit.result c.earlier-asks.result
    c.earlier-ends.result c.earlier.result c.earlier-asks.ensures c.earlier-ends.ensures c.earlier.ensures c.next_try.ensures c.next_due.ensures
    (rw c.over_since-over.ensures at c.next_due-2.ensures) ((rw (← c.self.view_is) at c.next_visit.ensures) none))
