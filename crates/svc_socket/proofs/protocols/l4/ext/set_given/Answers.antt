use Rattle.std.proofs.Common.{◌+◌, Ok, Err}
use Rattle.svc_socket.proofs.StepLemmas.{sets_more, sets_front}
use Rattle.svc_socket.proofs.protocols.l4.ext.set_given.Goals as goal

pub returns-in-Err : goal.returns-in-Err
returns-in-Err g c =
    sets_front c.args.steps.now (c.loop-step.step-index + 1) (Ok tt) _ _ c.in-Err.error
    (sets_more c.args.steps.now c.loop-step.step-index _ _ _ _ (Err c.in-Err.error) c.loop-step-test.true c.loop-step.invariant c.in-Err.ensures)

pub loop-step-preserved : goal.loop-step-preserved
loop-step-preserved g c =
    sets_more c.args.steps.now c.loop-step.step-index _ _ _ _ (Ok tt) c.loop-step-test.true c.loop-step.invariant c.in-Ok.ensures
