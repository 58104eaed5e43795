use Rattle.std.proofs.Common.{◌≡◌, ◌≤◌, take, count_by}
use Rattle.svc_text.specs.Filters.{blocks}
use Rattle.svc_text.proofs.filters.filter_count.Given as goal

abbrev pub invariant-loop-line : goal.invariant-loop-line
invariant-loop-line l = record {
  count : l.count ≡ count_by blocks (take l.line-index l.lines);
  few : l.count ≤ l.line-index;
}
