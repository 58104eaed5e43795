use Rattle.std.proofs.Common.{◌≡◌, ◌≤◌, ◌+◌, ◌++◌, map, take}
use Rattle.svc_base.specs.Items.{list_of, spare}
use Rattle.svc_record.specs.declared.action.Action.TheVariants.{Close}
use Rattle.svc_endpoints.proofs.received.close_numbers.Given as goal

abbrev pub invariant-loop-fd : goal.invariant-loop-fd
invariant-loop-fd l = record {
  room : spare l.initial.actions ≤ spare l.actions + l.fd-index;
  told : list_of l.actions ≡ list_of l.initial.actions ++ map Close (take l.fd-index l.numbers);
}
