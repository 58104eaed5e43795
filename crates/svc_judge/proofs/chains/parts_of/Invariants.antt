use Rattle.std.proofs.Common.{length}
use Rattle.svc_judge.specs.Chains.{IsBuilt}
use Rattle.svc_judge.proofs.chains.parts_of.Given as goal

abbrev pub invariant-entries : goal.invariant-entries
invariant-entries l = IsBuilt l.parts.items l.entries l.rest

abbrev pub decreases-entries : goal.decreases-entries
decreases-entries l = length l.rest
