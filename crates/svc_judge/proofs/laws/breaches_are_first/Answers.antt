use Rattle.svc_judge.proofs.VerdictLemmas.{right_from_none, none_from_right}
use Rattle.svc_judge.proofs.FirstLemmas.{first_breach}
use Rattle.svc_judge.proofs.laws.breaches_are_first.Goals as goal

pub returns : goal.returns
returns c = record { right = right_from_none; unbroken = none_from_right; first = first_breach }
