use Rattle.std.proofs.Common.{◌≡◌, ◌≤◌, ◌+◌, ◌++◌, map, take}
use Rattle.svc_base.specs.Items.{list_of, spare}
use Rattle.svc_record.specs.declared.action.Action.TheVariants.{Close}
use Rattle.svc_endpoints.specs.EndpointsState.{numbers_of_table}
use Rattle.svc_endpoints.proofs.table.close_each.Given as goal

abbrev pub invariant-loop-entry : goal.invariant-loop-entry
invariant-loop-entry l = record {
  room : spare l.initial.actions ≤ spare l.actions + l.entry-index;
  told : list_of l.actions ≡ list_of l.initial.actions ++ map Close (numbers_of_table (take l.entry-index l.table));
}
