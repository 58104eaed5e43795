use Rattle.std.proofs.Common.{◌-◌, ◌≤◌, length}
use Rattle.std.specs.Str.Lines.{lines}
use Rattle.svc_messages.proofs.PlaceLemmas.{Passed}
use Rattle.svc_messages.proofs.places.place_of.Given as goal

abbrev pub invariant-loop-line : goal.invariant-loop-line
invariant-loop-line l = record {
  passed : Passed (lines l.bytes) (lines l.rest) l.passed l.section;
  early : l.passed - 1 ≤ l.number - 1;
}

abbrev pub decreases-loop-line : goal.decreases-loop-line
decreases-loop-line l = length l.rest
