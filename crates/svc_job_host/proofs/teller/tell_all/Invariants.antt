-- The jobs that were passed ran, and the others are as they were.
use Rattle.svc_job_host.specs.Rows.{runs_in}
use Rattle.svc_job_host.specs.Tellers.{named, TellsMore}
use Rattle.svc_job_host.proofs.RunLemmas.{RowsRan}
use Rattle.svc_job_host.proofs.teller.tell_all.Given as goal

abbrev pub invariant-loop-s : goal.invariant-loop-s
invariant-loop-s g l = record {
  rows : RowsRan l.fn.rows l.rows l.last l.moment l.s;
  told : TellsMore (g.T.JobTeller.told l.fn.teller) (g.T.JobTeller.told l.teller) (named l.plans (runs_in l.fn.rows l.last l.moment l.s));
}
