use Rattle.std.proofs.Common.{take}
use Rattle.svc_listen.specs.Accepts.{given, AllSet}
use Rattle.svc_listen.proofs.listeners.l4.arrivals.set_given.Given as goal

abbrev pub invariant-loop-step : goal.invariant-loop-step
invariant-loop-step g l = AllSet l.c (given (take l.step-index l.steps)) (g.A.Accepting.seen l.fn.from) (g.A.Accepting.seen l.from)
