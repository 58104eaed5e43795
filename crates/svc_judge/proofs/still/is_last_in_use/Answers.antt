use Rattle.svc_judge.proofs.still.is_last_in_use.Goals as goal

pub returns-in-Got : goal.returns-in-Got
returns-in-Got c = rw c.in-Got.is c.is_event_last_in_use.ensures
