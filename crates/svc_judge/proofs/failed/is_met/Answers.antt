use Rattle.svc_judge.specs.Steps.{is_met}
use Rattle.svc_judge.proofs.failed.is_met.Goals as goal

pub returns : goal.returns
unfolding is_met
returns c = c.is_ready.ensures
