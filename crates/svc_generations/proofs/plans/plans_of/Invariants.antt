use Rattle.std.proofs.Common.{length, map, All}
use Rattle.svc_generations.specs.BlockReadings.{IsBlock}
use Rattle.svc_generations.specs.Inputs.{block_parts_of}
use Rattle.svc_generations.proofs.PlanLemmas.{PlansThen}
use Rattle.svc_generations.proofs.plans.plans_of.Given as goal

abbrev pub invariant-loop-block : goal.invariant-loop-block
invariant-loop-block l = record {
  plans : PlansThen (map block_parts_of l.blocks) (map block_parts_of l.fn.blocks) l.plans;
  blocks : All IsBlock l.blocks;
}

abbrev pub decreases-loop-block : goal.decreases-loop-block
decreases-loop-block l = length l.blocks
