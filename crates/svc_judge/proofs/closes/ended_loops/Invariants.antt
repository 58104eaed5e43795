use Rattle.std.proofs.Common.{◌≡◌, ◌+◌, ◌≤◌, length}
use Rattle.svc_record.specs.Closes.{ended_loops}
use Rattle.svc_judge.specs.Pasts.{plan_of, record_of, IsRestOf}
use Rattle.svc_judge.proofs.closes.ended_loops.Given as goal

abbrev pub invariant-entries : goal.invariant-entries
invariant-entries l =
    IsRestOf l.past l.rest
    × (ended_loops (plan_of l.past) (record_of l.past) l.s l.i ≡ l.count + ended_loops (plan_of l.past) (record_of l.rest) l.s l.i)
    × (l.count + length (record_of l.rest) ≤ length (record_of l.past))

abbrev pub decreases-entries : goal.decreases-entries
decreases-entries l = length (record_of l.rest)
