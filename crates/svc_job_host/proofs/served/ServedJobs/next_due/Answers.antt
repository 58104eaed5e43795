use Rattle.std.proofs.Common.{◌∙◌, sym}
use Rattle.svc_job_host.proofs.NextDueLemmas.{runs-next}
use Rattle.svc_job_host.proofs.served.ServedJobs.next_due.Goals as goal

pub returns : goal.returns
returns c =
    let least = rw (c.rows.ensures.rows, c.last.ensures) at c.next_of.ensures in
    rw (← c.self.view_is)
    (λ q by. runs-next _ q c.next_of.result by (sym c.is_shut.ensures ∙ c.if-is_shut.false) c.rows.ensures.paced least)
