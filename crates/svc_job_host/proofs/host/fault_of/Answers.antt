use Rattle.std.proofs.Common.{sym}
use Rattle.svc_job_host.proofs.TableLemmas.{periods_there}
use Rattle.svc_job_host.proofs.host.fault_of.Goals as goal

pub returns-in-None-clause-periods : goal.returns-in-None-clause-periods
returns-in-None-clause-periods c = λ none. periods_there c.args.plans.now (sym c.in-None.ensures)
