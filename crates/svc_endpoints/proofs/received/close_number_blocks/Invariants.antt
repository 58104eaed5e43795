use Rattle.std.proofs.Common.{◌≡◌, ◌≤◌, ◌+◌, ◌++◌, map, take, length}
use Rattle.svc_base.specs.Blocks.{joined}
use Rattle.svc_base.specs.Items.{list_of, spare}
use Rattle.svc_record.specs.declared.action.Action.TheVariants.{Close}
use Rattle.svc_endpoints.proofs.received.close_number_blocks.Given as goal

abbrev pub invariant-loop-block : goal.invariant-loop-block
invariant-loop-block l = record {
  room : spare l.initial.actions ≤ spare l.actions + length (joined (take l.block-index l.blocks));
  told : list_of l.actions ≡ list_of l.initial.actions ++ map Close (joined (take l.block-index l.blocks));
}
