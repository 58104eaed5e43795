use Rattle.std.proofs.Common.{◌≡◌, ◌+◌, length}
use Rattle.svc_sockets.proofs.offers.hand_over.Given as goal

abbrev pub invariant-loop-fd : goal.invariant-loop-fd
invariant-loop-fd l = record {
  bytes : l.letter.bytes ≡ l.fn.letter.bytes;
  count : length l.letter.handed.items ≡ length l.fn.letter.handed.items + l.fd-index;
}
