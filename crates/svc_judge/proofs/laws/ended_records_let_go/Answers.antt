use Rattle.svc_judge.proofs.TailLemmas.{closed_is}
use Rattle.svc_judge.proofs.StrayLemmas.{stray_is}
use Rattle.svc_judge.proofs.laws.ended_records_let_go.Goals as goal

pub returns-clause-closed : goal.returns-clause-closed
returns-clause-closed c = closed_is

pub returns-clause-stray : goal.returns-clause-stray
returns-clause-stray c = stray_is
