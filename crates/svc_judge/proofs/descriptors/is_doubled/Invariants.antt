use Rattle.std.proofs.Common.{◌≡◌, length}
use Rattle.svc_record.specs.Descriptors.{is_doubled}
use Rattle.svc_judge.specs.Pasts.{plan_of, record_of, IsRestOf}
use Rattle.svc_judge.proofs.descriptors.is_doubled.Given as goal

abbrev pub invariant-entries : goal.invariant-entries
invariant-entries l = IsRestOf l.past l.rest × (is_doubled (plan_of l.past) (record_of l.past) l.fd ≡ is_doubled (plan_of l.past) (record_of l.rest) l.fd)

abbrev pub decreases-entries : goal.decreases-entries
decreases-entries l = length (record_of l.rest)
