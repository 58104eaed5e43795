use Rattle.std.proofs.Common.{◌<◌, sym, ◌∙◌}
use Rattle.std.proofs.lemmas.Bool.{lt-leb}
use Rattle.svc_record.specs.Record.{times}
use Rattle.svc_record.specs.Failed.{is_in_use, in_use_limit}
use Rattle.svc_judge.specs.Pasts.{plan_of, record_of}
use Rattle.svc_judge.proofs.FailLemmas.{seldom_in_use}
use Rattle.svc_judge.proofs.failed.is_in_use_often.Goals as goal

pub returns-else-limit-times_in_use : goal.returns-else-limit-times_in_use
returns-else-limit-times_in_use c =
    let p = plan_of c.args.past.now in
    let q = record_of c.args.past.now in
    let seldom : times (is_in_use c.args.s c.args.i) q < in_use_limit p c.args.s c.args.i =
    rw (c.in_use_limit-limit.ensures, c.times_in_use.ensures) at c.if-limit-times_in_use.false in
    lt-leb c.in_use_limit-limit.result c.times_in_use.result c.if-limit-times_in_use.false
    ∙ sym (seldom_in_use p q c.args.s c.args.i seldom)
