use Rattle.std.proofs.Common.{◌≡◌, ◌++◌, take}
use Rattle.svc_plans.proofs.plan_parts.add_claims.Given as goal

abbrev pub invariant-loop-claim : goal.invariant-loop-claim
invariant-loop-claim l = l.addresses ≡ l.initial.addresses ++ take l.claim-index l.claims
