use Rattle.std.proofs.Common.{◌≡◌, ◌++◌, take}
use Rattle.svc_services.proofs.script_service.add_claims.Given as goal

abbrev pub invariant-loop-claim : goal.invariant-loop-claim
invariant-loop-claim l = l.addresses.items ≡ l.fn.addresses.items ++ take l.claim-index l.claims
