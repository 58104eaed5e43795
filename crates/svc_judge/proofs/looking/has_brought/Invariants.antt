use Rattle.std.proofs.Common.{◌≡◌, length}
use Rattle.svc_record.specs.Record.{has}
use Rattle.svc_record.specs.Descriptors.{brings}
use Rattle.svc_judge.proofs.looking.has_brought.Given as goal

abbrev pub invariant-entries : goal.invariant-entries
invariant-entries l = has (brings l.fd) l.entries ≡ has (brings l.fd) l.rest

abbrev pub decreases-entries : goal.decreases-entries
decreases-entries l = length l.rest
