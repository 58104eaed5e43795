use Rattle.std.proofs.Common.{◌≡◌, ◌+◌, ◌≤◌, ◌++◌, length, take}
use Rattle.std.specs.Vec.Iter.{into_iter_len}
use Rattle.svc_sockets.specs.OpenSockets.{open_numbers}
use Rattle.svc_sockets.proofs.offers.open_all.Given as goal

abbrev pub invariant-loop-fd : goal.invariant-loop-fd
invariant-loop-fd l = record {
  numbers : open_numbers l.descriptors ≡ open_numbers l.fn.descriptors ++ take l.fd-index l.fds;
  next : l.descriptors.next ≡ l.fn.descriptors.next;
  left : into_iter_len l.listeners + l.fd-index ≡ length l.fds;
  room : length l.fds ≤ l.descriptors.room + l.fd-index;
}
