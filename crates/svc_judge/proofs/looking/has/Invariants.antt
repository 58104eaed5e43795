use Rattle.std.proofs.Common.{◌≡◌, length}
use Rattle.svc_record.specs.Record.{has}
use Rattle.svc_judge.specs.Queries.{query_test}
use Rattle.svc_judge.proofs.looking.has.Given as goal

abbrev pub invariant-entries : goal.invariant-entries
invariant-entries l = has (query_test l.query) l.entries ≡ has (query_test l.query) l.rest

abbrev pub decreases-entries : goal.decreases-entries
decreases-entries l = length l.rest
