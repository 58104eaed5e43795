use Rattle.std.proofs.Common.{◌+◌, true, false}
use Rattle.svc_listen.proofs.SetLemmas.{sets_more, sets_front}
use Rattle.svc_listen.proofs.listeners.l4.arrivals.set_given.Goals as goal

pub returns-then-not-set_step : goal.returns-then-not-set_step
returns-then-not-set_step g c =
    sets_front c.args.c c.args.steps.now (c.loop-step.step-index + 1) _ _
    (sets_more false c.args.c c.args.steps.now c.loop-step.step-index _ _ _ _ c.loop-step-test.true c.loop-step.invariant c.if-not-set_step.ensures)

pub loop-step-preserved : goal.loop-step-preserved
loop-step-preserved g c =
    sets_more true c.args.c c.args.steps.now c.loop-step.step-index _ _ _ _ c.loop-step-test.true c.loop-step.invariant c.if-not-set_step.ensures
