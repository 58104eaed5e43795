use Rattle.std.proofs.Common.{◌≡◌, ◌+◌, length}
use Rattle.svc_judge.specs.Tails.{tail_len}
use Rattle.svc_judge.proofs.tails.tail_len.Given as goal

abbrev pub invariant-entries : goal.invariant-entries
invariant-entries l = (l.count + tail_len l.rest ≡ tail_len l.entries) × (l.count + length l.rest ≡ length l.entries)

abbrev pub decreases-entries : goal.decreases-entries
decreases-entries l = length l.rest
