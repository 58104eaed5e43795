use Rattle.std.proofs.Common.{◌≡◌, length}
use Rattle.svc_judge.specs.Stirred.{are_stirs}
use Rattle.svc_judge.specs.Pasts.{plan_of, record_of, IsRestOf}
use Rattle.svc_judge.proofs.stirred.are_stirs.Given as goal

abbrev pub invariant-entries : goal.invariant-entries
invariant-entries l =
    IsRestOf l.past l.rest × (are_stirs (plan_of l.past) (record_of l.past) ≡ are_stirs (plan_of l.past) (record_of l.rest))

abbrev pub decreases-entries : goal.decreases-entries
decreases-entries l = length (record_of l.rest)
