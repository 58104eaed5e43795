use Rattle.svc_judge.proofs.closes.is_adopt_of_open.Goals as goal

pub returns : goal.returns
returns c = c.has_any_adopt_open.ensures
