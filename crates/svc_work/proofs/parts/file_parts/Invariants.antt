use Rattle.std.proofs.Common.{◌+◌, ◌≤◌, length}
use Rattle.svc_work.proofs.PartLemmas.{Passed}
use Rattle.svc_work.proofs.parts.file_parts.Given as goal

abbrev pub invariant-loop-line : goal.invariant-loop-line
invariant-loop-line l = record {
  passed : Passed l.bytes l.rest l.number;
  short : l.number + length l.rest ≤ 1 + length l.bytes;
  shorter : length l.rest ≤ length l.bytes;
}

abbrev pub decreases-loop-line : goal.decreases-loop-line
decreases-loop-line l = length l.rest
