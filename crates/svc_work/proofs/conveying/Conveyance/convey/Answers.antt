use Rattle.std.proofs.Common.{arith}
use Rattle.svc_work.proofs.ConveyLemmas.{nothing_yet, nothing_more, conveys_more}
use Rattle.svc_work.proofs.conveying.Conveyance.convey.Goals as goal

pub returns-then-self-clause-conveys : goal.returns-then-self-clause-conveys
returns-then-self-clause-conveys g c = nothing_more _ _ _

pub loop-step-init : goal.loop-step-init
loop-step-init g c = record {
  so_far = nothing_yet _ _ _;
  bounded = omega arith;
  goes_on = c.if-self.false;
}

pub loop-step-preserved : goal.loop-step-preserved
loop-step-preserved g c = record {
  so_far = conveys_more _ _ _ _ _ _ _ _ _ _ c.loop-step.invariant.so_far c.in-More.ensures.conveys;
  bounded = omega (arith, c.in-More.ensures.bounded, c.loop-step.invariant.bounded);
  goes_on = c.in-More.ensures.over;
}

pub returns-in_default-clause-conveys : goal.returns-in_default-clause-conveys
returns-in_default-clause-conveys g c = conveys_more _ _ _ _ _ _ _ _ _ _ c.loop-step.invariant.so_far c.step.ensures.conveys
