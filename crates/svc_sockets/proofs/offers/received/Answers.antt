use Rattle.std.proofs.Common.{refl, inl}
use Rattle.svc_sockets.proofs.offers.received.Goals as goal

pub returns-in-Some : goal.returns-in-Some
returns-in-Some c = inl (c.in-Some.letter, c.in-Some.ensures.taken.0, c.in-Some.ensures.taken.1, refl)
