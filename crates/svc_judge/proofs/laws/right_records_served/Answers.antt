use Rattle.svc_judge.proofs.ServedLemmas.{served_by_waits}
use Rattle.svc_judge.proofs.laws.right_records_served.Goals as goal

pub returns : goal.returns
returns c = served_by_waits
