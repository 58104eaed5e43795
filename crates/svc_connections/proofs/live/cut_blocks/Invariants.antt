use Rattle.std.proofs.Common.{◌≡◌, ◌≤◌, ◌+◌, ◌++◌, take, length}
use Rattle.svc_base.specs.Blocks.{joined}
use Rattle.svc_base.specs.Items.{list_of, spare}
use Rattle.svc_connections.specs.ConnectionsEffects.{cuts}
use Rattle.svc_connections.proofs.live.cut_blocks.Given as goal

abbrev pub invariant-loop-block : goal.invariant-loop-block
invariant-loop-block l = record {
  room : spare l.initial.actions ≤ spare l.actions + length (joined (take l.block-index l.blocks));
  told : list_of l.actions ≡ list_of l.initial.actions ++ cuts (joined (take l.block-index l.blocks));
}
