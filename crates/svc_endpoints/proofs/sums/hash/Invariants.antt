use Rattle.std.proofs.Common.{◌≡◌, drop}
use Rattle.svc_endpoints.specs.Sums.{hash_from}
use Rattle.svc_endpoints.proofs.sums.hash.Given as goal

abbrev pub invariant-loop-byte : goal.invariant-loop-byte
invariant-loop-byte l = record {
  rest : hash_from l.hash (drop l.byte-index l.bytes) ≡ hash_from 0 l.bytes;
}
