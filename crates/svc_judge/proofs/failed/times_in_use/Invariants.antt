use Rattle.std.proofs.Common.{◌≡◌, ◌+◌, ◌≤◌, length}
use Rattle.svc_record.specs.Record.{times}
use Rattle.svc_record.specs.Failed.{is_in_use}
use Rattle.svc_judge.proofs.failed.times_in_use.Given as goal

abbrev pub invariant-entries : goal.invariant-entries
invariant-entries l =
    (times (is_in_use l.s l.i) l.entries ≡ l.count + times (is_in_use l.s l.i) l.rest) × (l.count + length l.rest ≤ length l.entries)

abbrev pub decreases-entries : goal.decreases-entries
decreases-entries l = length l.rest
