use Rattle.std.proofs.Common.{◌≡◌, length}
use Rattle.svc_record.specs.Record.{before_signal}
use Rattle.svc_judge.specs.Pasts.{record_of, IsRestOf}
use Rattle.svc_judge.proofs.past.Past.before_signal.Given as goal

abbrev pub invariant-entries : goal.invariant-entries
invariant-entries l = IsRestOf l.self l.rest × (before_signal (record_of l.self) ≡ before_signal (record_of l.rest))

abbrev pub decreases-entries : goal.decreases-entries
decreases-entries l = length (record_of l.rest)
