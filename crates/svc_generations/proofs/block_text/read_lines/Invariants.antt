use Rattle.std.proofs.Common.{length}
use Rattle.svc_generations.proofs.BlockTextLemmas.{HasBlock}
use Rattle.svc_generations.proofs.block_text.read_lines.Given as goal

abbrev pub invariant-loop-line : goal.invariant-loop-line
invariant-loop-line l = HasBlock l.text l.rest l.block

abbrev pub decreases-loop-line : goal.decreases-loop-line
decreases-loop-line l = length l.rest
