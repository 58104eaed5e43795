use Rattle.std.proofs.Common.{◌≡◌, take}
use Rattle.svc_socket.proofs.protocols.tls.digest.copy_bytes.Given as goal

abbrev pub invariant-loop-byte : goal.invariant-loop-byte
invariant-loop-byte l = l.copied ≡ take l.byte-index l.bytes
