use Rattle.std.proofs.Common.{inl, inr, refl, arith}
use Rattle.svc_echo.proofs.running.refuse.Goals as goal
use Rattle.svc_echo.proofs.running.refuse.Goals.{in-Ok, in-Err}

pub returns-clause-wrote : goal.returns-clause-wrote
returns-clause-wrote g c = elim c.match-write_all.branch [
  | in-Ok w ↦ (13, omega arith, w.in-Ok.ensures.whole, inl refl)
  | in-Err w ↦ (w.in-Err.ensures.front.0, w.in-Err.ensures.front.1, w.in-Err.ensures.front.2, inr w.in-Err.ensures.fault)
]
