use Rattle.std.proofs.Common.{◌≡◌, length}
use Rattle.svc_record.specs.Record.{each_earlier}
use Rattle.svc_judge.specs.Settled.{settled_test}
use Rattle.svc_judge.specs.Pasts.{plan_of, record_of, IsRestOf}
use Rattle.svc_judge.proofs.settled.each_earlier.Given as goal

abbrev pub invariant-entries : goal.invariant-entries
invariant-entries l = IsRestOf l.past l.rest
    × (each_earlier (settled_test l.rule (plan_of l.past)) (record_of l.past) ≡ each_earlier (settled_test l.rule (plan_of l.past)) (record_of l.rest))

abbrev pub decreases-entries : goal.decreases-entries
decreases-entries l = length (record_of l.rest)
