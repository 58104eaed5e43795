use Rattle.std.proofs.Common.{◌≡◌, length}
use Rattle.svc_record.specs.Record.{has}
use Rattle.svc_judge.specs.Holding.{is_taken}
use Rattle.svc_judge.proofs.endpoints.has_taken.Given as goal

abbrev pub invariant-entries : goal.invariant-entries
invariant-entries l = has (is_taken l.s l.i) l.entries ≡ has (is_taken l.s l.i) l.rest

abbrev pub decreases-entries : goal.decreases-entries
decreases-entries l = length l.rest
