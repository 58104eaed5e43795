use Rattle.svc_judge.proofs.endpoints.is_action_due.Goals as goal

pub returns-in-Bind : goal.returns-in-Bind
returns-in-Bind c = rw (c.in-Bind.is) (rw (c.from.ensures, c.from-in-Bind.ensures) at c.bind_due.ensures)

pub returns-in-Adopt : goal.returns-in-Adopt
returns-in-Adopt c = rw (c.in-Adopt.is) (rw (c.from-in-Adopt.ensures, c.from-in-Adopt-2.ensures) at c.adopt_due.ensures)
