use Rattle.std.proofs.Common.{◌≡◌, ◌≤◌, ◌+◌, ◌++◌, map, take, length}
use Rattle.svc_base.specs.Blocks.{joined}
use Rattle.svc_base.specs.Items.{list_of, spare}
use Rattle.svc_record.specs.declared.action.Action.TheVariants.{Close}
use Rattle.svc_endpoints.specs.EndpointsState.{numbers_of_table}
use Rattle.svc_endpoints.proofs.table.close_blocks.Given as goal

abbrev pub invariant-loop-block : goal.invariant-loop-block
invariant-loop-block l = record {
  room : spare l.initial.actions ≤ spare l.actions + length (joined (take l.block-index l.blocks));
  told : list_of l.actions ≡ list_of l.initial.actions ++ map Close (numbers_of_table (joined (take l.block-index l.blocks)));
}
