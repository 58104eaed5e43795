use Rattle.std.proofs.Common.{◌≡◌, ◌+◌, ◌≤◌, length}
use Rattle.svc_record.specs.Record.{times, is_runtimes}
use Rattle.svc_judge.proofs.chains.count_runtimes.Given as goal

abbrev pub invariant-entries : goal.invariant-entries
invariant-entries l = (times is_runtimes l.entries ≡ l.count + times is_runtimes l.rest) × (l.count + length l.rest ≤ length l.entries)

abbrev pub decreases-entries : goal.decreases-entries
decreases-entries l = length l.rest
