use Rattle.std.proofs.Common.{◌≡◌, ◌≤◌, ◌+◌, length, drop}
use Rattle.svc_base.specs.Items.{list_of, spare}
use Rattle.svc_endpoints.specs.Effects.{put_opens, opens_of, without_numbers}
use Rattle.svc_endpoints.proofs.table.Table.add_rest.Given as goal

abbrev pub invariant-loop-fd : goal.invariant-loop-fd
invariant-loop-fd l = record {
  room : length l.fds ≤ spare l.self + l.fd-index;
  entries : put_opens (without_numbers (list_of l.out) (opens_of (drop l.fd-index l.fds) l.words.items)) (list_of l.self)
      ≡ put_opens (without_numbers (list_of l.out) (opens_of l.fds l.initial.words.items)) (list_of l.initial.self);
}
