use Rattle.svc_judge.proofs.NewLemmas.{new_is}
use Rattle.svc_judge.proofs.laws.new_breaches_are_first.Goals as goal

pub returns : goal.returns
returns c = new_is
