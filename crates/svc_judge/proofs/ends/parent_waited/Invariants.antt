use Rattle.std.proofs.Common.{◌≡◌, length}
use Rattle.svc_record.specs.Ends.{parent_waited}
use Rattle.svc_judge.specs.Pasts.{plan_of, record_of}
use Rattle.svc_judge.proofs.ends.parent_waited.Given as goal

abbrev pub invariant-entries : goal.invariant-entries
invariant-entries l = parent_waited (plan_of l.past) (record_of l.past) ≡ parent_waited (plan_of l.past) l.rest

abbrev pub decreases-entries : goal.decreases-entries
decreases-entries l = length l.rest
