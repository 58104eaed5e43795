use Rattle.std.proofs.Common.{ap, ◌∙◌}
use Rattle.std.specs.List.{list_all}
use Rattle.svc_judge.specs.Steps.{is_met}
use Rattle.svc_judge.specs.Pasts.{plan_of, record_of}
use Rattle.svc_judge.proofs.failed.is_due.Goals as goal

pub returns : goal.returns
unfolding is_met
returns c = c.are_met.ensures ∙ ap (list_all (is_met (plan_of c.args.past.now) (record_of c.args.past.now))) c.depends.ensures
