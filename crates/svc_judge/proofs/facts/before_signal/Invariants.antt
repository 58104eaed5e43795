use Rattle.std.proofs.Common.{◌≡◌, length}
use Rattle.svc_record.specs.Record.{before_signal}
use Rattle.svc_judge.proofs.facts.before_signal.Given as goal

abbrev pub invariant-entries : goal.invariant-entries
invariant-entries l = before_signal l.entries ≡ before_signal l.rest

abbrev pub decreases-entries : goal.decreases-entries
decreases-entries l = length l.rest
