use Rattle.svc_judge.proofs.endpoints.ask_due.Goals as goal

pub returns-in-Told : goal.returns-in-Told
returns-in-Told c = rw c.in-Told.is c.is_action_due.ensures
