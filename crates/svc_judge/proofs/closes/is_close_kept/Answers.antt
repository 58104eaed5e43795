use Rattle.std.proofs.Common.{ap, ◌∙◌}
use Rattle.svc_record.specs.Closes.{close_right}
use Rattle.svc_judge.specs.Pasts.{plan_of, record_of}
use Rattle.svc_judge.specs.Closing.{close_kept}
use Rattle.svc_judge.proofs.closes.is_close_kept.Goals as goal

pub returns : goal.returns
unfolding close_kept
returns c = c.close_right.ensures ∙ ap (close_right (plan_of c.args.past.now) (record_of c.args.past.now)) c.number.ensures
