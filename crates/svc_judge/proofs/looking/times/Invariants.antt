use Rattle.std.proofs.Common.{◌≡◌, ◌+◌, ◌≤◌, length}
use Rattle.svc_record.specs.Record.{times}
use Rattle.svc_judge.specs.Queries.{query_test}
use Rattle.svc_judge.proofs.looking.times.Given as goal

abbrev pub invariant-entries : goal.invariant-entries
invariant-entries l =
    (times (query_test l.query) l.entries ≡ l.count + times (query_test l.query) l.rest) × (l.count + length l.rest ≤ length l.entries)

abbrev pub decreases-entries : goal.decreases-entries
decreases-entries l = length l.rest
