use Rattle.std.proofs.Common.{◌≡◌, ◌+◌, ◌≤◌, length}
use Rattle.svc_record.specs.Failed.{in_use_count}
use Rattle.svc_judge.specs.Pasts.{plan_of, record_of, IsRestOf}
use Rattle.svc_judge.proofs.failed.in_use_count.Given as goal

abbrev pub invariant-entries : goal.invariant-entries
invariant-entries l =
    IsRestOf l.past l.rest
    × (in_use_count (plan_of l.past) (record_of l.past) l.s l.i ≡ l.count + in_use_count (plan_of l.past) (record_of l.rest) l.s l.i)
    × (l.count + length (record_of l.rest) ≤ length (record_of l.past))

abbrev pub decreases-entries : goal.decreases-entries
decreases-entries l = length (record_of l.rest)
