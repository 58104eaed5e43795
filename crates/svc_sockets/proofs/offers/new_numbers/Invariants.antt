use Rattle.std.proofs.Common.{◌≡◌, length}
use Rattle.svc_sockets.proofs.offers.new_numbers.Given as goal

abbrev pub invariant-loop : goal.invariant-loop
invariant-loop l = record {
  count : length l.fds ≡ l.index;
  rows : l.descriptors.rows ≡ l.fn.descriptors.rows;
  room : l.descriptors.room ≡ l.fn.descriptors.room;
}
