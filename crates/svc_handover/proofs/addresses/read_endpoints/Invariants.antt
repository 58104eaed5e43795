use Rattle.std.proofs.Common.{take}
use Rattle.svc_handover.specs.Law.{AreTextual}
use Rattle.svc_handover.proofs.addresses.read_endpoints.Given as goal

abbrev pub invariant-loop-endpoint : goal.invariant-loop-endpoint
invariant-loop-endpoint l = AreTextual (take l.endpoint-index l.endpoints)
