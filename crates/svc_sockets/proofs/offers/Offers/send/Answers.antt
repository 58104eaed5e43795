use Rattle.svc_sockets.proofs.offers.Offers.send.Goals as goal

pub returns-clause-sent : goal.returns-clause-sent
returns-clause-sent c = rw c.replace-letter.ensures.value at c.sent.ensures
