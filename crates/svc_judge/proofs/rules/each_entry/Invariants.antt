use Rattle.std.proofs.Common.{◌≡◌, length}
use Rattle.svc_record.specs.Record.{each_entry}
use Rattle.svc_judge.specs.Rules.{entry_test}
use Rattle.svc_judge.specs.Pasts.{plan_of, record_of, IsRestOf}
use Rattle.svc_judge.proofs.rules.each_entry.Given as goal

abbrev pub invariant-entries : goal.invariant-entries
invariant-entries l = IsRestOf l.past l.rest
    × (each_entry (entry_test l.rule (plan_of l.past)) (record_of l.past) ≡ each_entry (entry_test l.rule (plan_of l.past)) (record_of l.rest))

abbrev pub decreases-entries : goal.decreases-entries
decreases-entries l = length (record_of l.rest)
