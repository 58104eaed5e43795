use Rattle.std.proofs.Common.{ap, subst}
use Rattle.svc_core.specs.CoreData.{CoreData}
use Rattle.svc_core.specs.Dues.{TellsNothingBefore, TellsAt}
use Rattle.svc_c.specs.SessionData.{SessionData}
use Rattle.svc_c.proofs.session.Session.next_due.Goals as goal

pub returns-clause-before : goal.returns-clause-before
returns-clause-before c =
    subst (λ (core : CoreData). TellsNothingBefore core c.next_due.result) (ap (λ (s : SessionData). s.core) c.self.view_is) c.next_due.ensures.before

pub returns-clause-due : goal.returns-clause-due
returns-clause-due c =
    subst (λ (core : CoreData). TellsAt core c.next_due.result) (ap (λ (s : SessionData). s.core) c.self.view_is) c.next_due.ensures.due
