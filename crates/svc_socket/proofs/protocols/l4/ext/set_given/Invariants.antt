use Rattle.std.proofs.Common.{take, Ok}
use Rattle.svc_socket.specs.Steps.{given, Sets}
use Rattle.svc_socket.proofs.protocols.l4.ext.set_given.Given as goal

abbrev pub invariant-loop-step : goal.invariant-loop-step
invariant-loop-step g l = Sets (given (take l.step-index l.steps)) (Ok tt) (g.O.Options.seen l.fn.o) (g.O.Options.seen l.o) (Ok tt)
