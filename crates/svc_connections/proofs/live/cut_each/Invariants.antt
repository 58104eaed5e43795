use Rattle.std.proofs.Common.{◌≡◌, ◌≤◌, ◌+◌, ◌++◌, take}
use Rattle.svc_base.specs.Items.{list_of, spare}
use Rattle.svc_connections.specs.ConnectionsEffects.{cuts}
use Rattle.svc_connections.proofs.live.cut_each.Given as goal

abbrev pub invariant-loop-connection : goal.invariant-loop-connection
invariant-loop-connection l = record {
  room : spare l.initial.actions ≤ spare l.actions + l.connection-index;
  told : list_of l.actions ≡ list_of l.initial.actions ++ cuts (take l.connection-index l.entries);
}
