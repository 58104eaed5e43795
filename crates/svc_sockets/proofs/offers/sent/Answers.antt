use Rattle.std.proofs.Common.{refl, ap, inl, inr, Some}
use Rattle.svc_sockets.proofs.offers.sent.Goals as goal
use Rattle.svc_sockets.proofs.offers.sent.Goals.{in-Ok, in-Err}

pub returns : goal.returns
returns c = elim c.match-send.branch [
  | in-Ok w ↦ inl (ap Some w.result-is, w.in-Ok.ensures.sent.0, (c.fill.new.letter, w.in-Ok.ensures.sent.1, c.if-not-fill.ensures refl))
  | in-Err w ↦ inr (ap Some w.result-is, w.in-Err.ensures.refused.1)
]
