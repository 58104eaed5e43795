use Rattle.std.proofs.Common.{◌≡◌, drop}
use Rattle.std.specs.List.{list_any}
use Rattle.svc_base.specs.Blocks.{joined}
use Rattle.svc_endpoints.specs.Offered.{is_addressed}
use Rattle.svc_endpoints.proofs.message.has_addressed_block.Given as goal

abbrev pub invariant-loop-block : goal.invariant-loop-block
invariant-loop-block l = list_any is_addressed (joined (drop l.block-index l.blocks)) ≡ list_any is_addressed (joined l.blocks)
