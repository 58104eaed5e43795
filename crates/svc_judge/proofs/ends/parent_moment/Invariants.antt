use Rattle.std.proofs.Common.{◌≡◌, length}
use Rattle.svc_record.specs.Ends.{parent_moment}
use Rattle.svc_judge.proofs.ends.parent_moment.Given as goal

abbrev pub invariant-entries : goal.invariant-entries
invariant-entries l = parent_moment l.entries ≡ parent_moment l.rest

abbrev pub decreases-entries : goal.decreases-entries
decreases-entries l = length l.rest
