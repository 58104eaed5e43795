use Rattle.std.proofs.Common.{ap, ◌∙◌}
use Rattle.std.specs.List.{list_all}
use Rattle.svc_judge.specs.Closing.{close_kept}
use Rattle.svc_judge.specs.Pasts.{plan_of, record_of}
use Rattle.svc_judge.proofs.closes.closes_right.Goals as goal

pub returns : goal.returns
unfolding close_kept
returns c = c.are_closes_right.ensures ∙ ap (list_all (close_kept (plan_of c.args.past.now) (record_of c.args.past.now))) c.requires.opened
