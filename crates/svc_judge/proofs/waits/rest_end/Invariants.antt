use Rattle.std.proofs.Common.{◌≡◌, length}
use Rattle.svc_record.specs.Drain.{rest_end}
use Rattle.svc_judge.specs.Firsts.{first_of}
use Rattle.svc_judge.specs.Pasts.{plan_of, record_of, IsRestOf}
use Rattle.svc_judge.proofs.waits.rest_end.Given as goal

abbrev pub invariant-entries : goal.invariant-entries
invariant-entries l = IsRestOf l.past l.rest × (rest_end (plan_of l.past) (record_of l.past) ≡ first_of (rest_end (plan_of l.past) (record_of l.rest)) l.found)

abbrev pub decreases-entries : goal.decreases-entries
decreases-entries l = length (record_of l.rest)
