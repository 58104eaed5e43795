use Rattle.std.proofs.Common.{◌≡◌, ◌+◌, ◌≤◌, length, map, All}
use Rattle.std.specs.Str.Lines.{lines}
use Rattle.svc_generations.specs.BlockReadings.{IsBlock}
use Rattle.svc_generations.specs.Inputs.{block_parts_of, blocks_before, blocks_from}
use Rattle.svc_generations.proofs.input.read_blocks.Given as goal

abbrev pub invariant-loop-after : goal.invariant-loop-after
invariant-loop-after l = record {
  said : blocks_before (map block_parts_of l.blocks) (blocks_from l.left l.passed (lines l.rest)) ≡ blocks_from 64 l.before (lines l.text);
  room : l.passed + length l.rest ≤ l.before + length l.text;
  blocks : All IsBlock l.blocks;
}

abbrev pub decreases-loop-after : goal.decreases-loop-after
decreases-loop-after l = length l.rest
