use Rattle.std.proofs.lemmas.Option.{slice_get-get_or}
use Rattle.svc_job_host.proofs.NextDueLemmas.{among-more}
use Rattle.svc_job_host.proofs.served.next_of.Goals as goal

pub loop-s-preserved : goal.loop-s-preserved
loop-s-preserved c =
    among-more c.args.rows.now c.args.last c.loop-s.s _ c.loop-s.least c.next_due.result c.earlier-least.result
    (slice_get-get_or c.args.rows.now c.loop-s.s _ c.loop-s-test.true) c.earlier-least.ensures c.loop-s.invariant c.next_due.ensures
