use Rattle.std.proofs.Common.{◌≡◌, ◌+◌, ◌≤◌, ◌++◌, length}
use Rattle.std.specs.List.{filter_map, position_from}
use Rattle.std.specs.Str.Lines.{lines}
use Rattle.svc_work.specs.Parts.{is_refused, said}
use Rattle.svc_work.proofs.parts.works_of.Given as goal

abbrev pub invariant-loop-line : goal.invariant-loop-line
invariant-loop-line l = record {
  short : l.number + length l.rest ≤ l.first + length l.text;
  place : position_from (is_refused l.names) l.first (lines l.text) ≡ position_from (is_refused l.names) l.number (lines l.rest);
  works : filter_map (said l.names) (lines l.text) ≡ l.works.items ++ filter_map (said l.names) (lines l.rest);
}

abbrev pub decreases-loop-line : goal.decreases-loop-line
decreases-loop-line l = length l.rest
