use Rattle.svc_laws.proofs.DueLemmas.{calm-silent, silent-calm}
use Rattle.svc_laws.proofs.records.nothing_due.Goals as goal

pub returns-clause-silent : goal.returns-clause-silent
returns-clause-silent c = calm-silent

pub returns-clause-due : goal.returns-clause-due
returns-clause-due c = silent-calm
