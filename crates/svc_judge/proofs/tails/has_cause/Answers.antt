use Rattle.svc_judge.proofs.tails.has_cause.Goals as goal

pub returns-in-Told : goal.returns-in-Told
returns-in-Told c = rw c.in-Told.is c.has_action_cause.ensures
