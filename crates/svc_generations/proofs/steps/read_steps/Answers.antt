use Rattle.std.proofs.Common.{arith}
use Rattle.svc_generations.proofs.StepLineLemmas.{steps_none, step_skipped, steps_all, refused_reads}
use Rattle.svc_generations.proofs.steps.read_steps.Goals as goal

pub loop-line-init : goal.loop-line-init
loop-line-init c = record { said = rw c.new-steps.ensures.items (steps_none _); room = omega arith }

pub loop-line-preserved-in-Ok-None : goal.loop-line-preserved-in-Ok-None
loop-line-preserved-in-Ok-None c = record {
  said = step_skipped c.loop-line.steps.items _ c.loop-line.passed c.loop-line.rest.now c.in-Some.line.now c.in-Some.after.now c.in-Some.ensures.first
      (rw c.in-Ok-None.field-0-is at c.in-Ok-None.ensures) c.loop-line.invariant.said;
  room = let room = c.loop-line.invariant.room in omega (arith, c.in-Some.ensures.shorter);
}

pub returns-in-Err : goal.returns-in-Err
returns-in-Err c =
    refused_reads c.loop-line.steps.items _ c.loop-line.passed c.loop-line.rest.now c.in-Some.line.now c.in-Some.after.now c.in-Err.error
    c.in-Some.ensures.first c.in-Err.ensures c.loop-line.invariant.said

pub returns : goal.returns
returns c = steps_all c.loop-line.steps.items _ c.loop-line.passed c.loop-line.rest.now c.in_default.ensures.first c.loop-line.invariant.said
