-- A row was made for each plan that was passed.
use Rattle.std.proofs.Common.{take}
use Rattle.svc_job_host.specs.Rows.{AreNewRows}
use Rattle.svc_job_host.proofs.timetable.new_rows.Given as goal

abbrev pub invariant-loop-plan : goal.invariant-loop-plan
invariant-loop-plan l = AreNewRows (take l.plan-index l.plans) l.rows.items
