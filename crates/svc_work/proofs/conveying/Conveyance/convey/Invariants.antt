use Rattle.std.proofs.Common.{◌≡◌, ◌≤◌, false, length, max}
use Rattle.svc_work.proofs.ConveyLemmas.{SoFar}
use Rattle.svc_work.specs.Conveying.{waiting}
use Rattle.svc_work.proofs.conveying.Conveyance.convey.Given as goal

abbrev pub invariant-loop-step : goal.invariant-loop-step
invariant-loop-step g l = record {
  so_far : SoFar (g.T.Source.left l.fn.from) (g.T.Source.left l.from) (g.K.Sink.written l.fn.to) (g.K.Sink.written l.to) (waiting l.fn.self) (waiting l.self);
  bounded : length (waiting l.self) ≤ max (length (waiting l.fn.self)) (length l.room);
  goes_on : l.self.is_over ≡ false;
}
