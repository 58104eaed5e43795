use Rattle.std.proofs.Common.{◌≡◌, take}
use Rattle.svc_fds.proofs.peer.numbers.Given as goal

abbrev pub invariant-loop-fd : goal.invariant-loop-fd
invariant-loop-fd l = l.numbers ≡ take l.fd-index l.fds
