use Rattle.std.proofs.Common.{ap, ◌∙◌}
use Rattle.svc_judge.specs.Verdicts.{breach_of}
use Rattle.svc_judge.proofs.tails.breach_before.Goals as goal

pub returns : goal.returns
returns c = c.in_ok-verdict.ensures.breach ∙ ap (breach_of c.args.plan.now) c.without.ensures
