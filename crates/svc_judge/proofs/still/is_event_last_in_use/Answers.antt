use Rattle.svc_judge.proofs.still.is_event_last_in_use.Goals as goal

pub returns-in-InUse : goal.returns-in-InUse
returns-in-InUse c = rw (c.in-InUse.is) (rw (c.from.ensures, c.from-in-InUse.ensures) at c.in_use_within.ensures)
