use Rattle.svc_base.specs.Items.{list_of}
use Rattle.svc_job_host.proofs.RunLemmas.{no_run}
use Rattle.svc_job_host.proofs.timetable.run_one.Goals as goal

pub returns-else-due-ne0-clause-runs : goal.returns-else-due-ne0-clause-runs
returns-else-due-ne0-clause-runs g c =
    λ row at. no_run c.args.rows.now c.args.s row _ c.args.last c.args.moment c.due-due.result (list_of c.args.runs.now) at c.due-due.ensures c.if-due-ne0.false
