use Rattle.std.proofs.Common.{◌∙◌, ap, List}
use Rattle.std.specs.Prelude.{position}
use Rattle.svc_job_host.specs.declared.row.JobRow.{JobRow}
use Rattle.svc_job_host.specs.TimetableData.{TimetableData}
use Rattle.svc_job_host.proofs.TableLemmas.{owing_at}
use Rattle.svc_job_host.proofs.timetable.Timetable.first_owing.Goals as goal

pub returns-clause-owing : goal.returns-clause-owing
returns-clause-owing c = λ periods q table. owing_at periods c.args.self.now q c.owing_at.result table
    (c.owing_at.ensures
    ∙ ap (λ (xs : List JobRow). position (λ (row : JobRow). row.owes) xs) (c.deref.ensures.value ∙ ap (λ (t : TimetableData). t.rows) c.self.view_is))
