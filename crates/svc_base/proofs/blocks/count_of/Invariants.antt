use Rattle.std.proofs.Common.{◌≡◌, length, take}
use Rattle.svc_base.specs.Blocks.{joined}
use Rattle.svc_base.proofs.blocks.count_of.Given as goal

abbrev pub invariant-loop-block : goal.invariant-loop-block
invariant-loop-block g l = l.count ≡ length (joined (take l.block-index l.blocks))
