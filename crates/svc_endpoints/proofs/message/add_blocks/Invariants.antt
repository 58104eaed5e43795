use Rattle.std.proofs.Common.{◌≡◌, ◌≤◌, ◌+◌, take, length}
use Rattle.std.specs.List.{filter_map}
use Rattle.svc_fds.specs.Tables.{put_all}
use Rattle.svc_base.specs.Blocks.{joined}
use Rattle.svc_endpoints.specs.Offered.{open_entry}
use Rattle.svc_endpoints.proofs.message.add_blocks.Given as goal

abbrev pub invariant-loop-block : goal.invariant-loop-block
invariant-loop-block l = record {
  room : l.initial.fds.spare ≤ l.fds.spare + length (joined (take l.block-index l.blocks));
  added : l.fds.entries ≡ put_all (filter_map open_entry (joined (take l.block-index l.blocks))) l.initial.fds.entries;
}
