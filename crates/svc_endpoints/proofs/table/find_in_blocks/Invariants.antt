use Rattle.std.proofs.Common.{◌≡◌, Some, drop}
use Rattle.svc_base.specs.Blocks.{joined}
use Rattle.svc_endpoints.specs.EndpointsState.{numbers_with}
use Rattle.svc_endpoints.proofs.table.find_in_blocks.Given as goal

abbrev pub invariant-loop-block : goal.invariant-loop-block
invariant-loop-block l = numbers_with (joined (drop l.block-index l.blocks)) (Some l.address) ≡ numbers_with (joined l.blocks) (Some l.address)
