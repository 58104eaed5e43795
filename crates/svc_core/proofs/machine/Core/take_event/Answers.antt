use Rattle.std.proofs.Common.{refl}
use Rattle.svc_core.proofs.StepForms.{taken}
use Rattle.svc_core.proofs.machine.Core.take_event.Goals as goal

pub returns-in-Moment : goal.returns-in-Moment
returns-in-Moment c = rw c.in-Moment.is (taken _ refl c.step_moment.ensures)

pub returns-in-Bound : goal.returns-in-Bound
returns-in-Bound c = rw c.in-Bound.is (taken _ refl c.step_bound.ensures)

pub returns-in-Connected : goal.returns-in-Connected
returns-in-Connected c = rw c.in-Connected.is (taken _ refl c.step_connected.ensures)

pub returns-in-LoopEnded : goal.returns-in-LoopEnded
returns-in-LoopEnded c = rw c.in-LoopEnded.is (taken _ refl c.step_loop_ended.ensures)
