use Rattle.std.proofs.Common.{rules}
use Rattle.svc_job_host.proofs.NextDueLemmas.{next-of}
use Rattle.svc_job_host.proofs.row.JobRow.next_due.Goals as goal

pub returns : goal.returns
returns c =
    next-of c.args.self.now c.in_ok-start.start c.args.last c.saturating_sub.result c.in_ok-checked_add.field-0 c.in_ok-later.later c.checked_add-2.result
    c.requires (search rules) c.saturating_sub.ensures (search rules) (search rules) c.checked_add-2.ensures
