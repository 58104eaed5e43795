use Rattle.std.proofs.Common.{◌≡◌, ◌≤◌, ◌+◌, length, drop, true}
use Rattle.svc_base.specs.Items.{list_of, spare}
use Rattle.svc_endpoints.specs.EndpointsState.{all_new}
use Rattle.svc_endpoints.specs.Effects.{put_numbers}
use Rattle.svc_endpoints.proofs.came.add_all.Given as goal

abbrev pub invariant-loop-fd : goal.invariant-loop-fd
invariant-loop-fd l = record {
  new : all_new (list_of l.numbers) (drop l.fd-index l.fds) ≡ true;
  room : length l.fds ≤ spare l.numbers + l.fd-index;
  numbers : put_numbers (drop l.fd-index l.fds) (list_of l.numbers) ≡ put_numbers l.fds (list_of l.initial.numbers);
}
