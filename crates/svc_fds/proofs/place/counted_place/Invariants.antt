use Rattle.std.proofs.Common.{◌-◌, ◌+◌, ◌*◌, ◌^◌, ◌≤◌, length, take, drop}
use Rattle.svc_fds.specs.Tables.{PrecedesAll}
use Rattle.svc_fds.specs.Places.{AllPrecede}
use Rattle.svc_fds.proofs.place.counted_place.Given as goal

-- what is before the low index stands before the address, what is from the high one on stands behind it
abbrev pub invariant-loop-low : goal.invariant-loop-low
invariant-loop-low g l = record {
  ordered : l.low ≤ l.high;
  within : l.high ≤ length l.entries;
  before : AllPrecede l.bind (take l.low l.entries);
  after : PrecedesAll l.bind (drop l.high l.entries);
  counted : l.fn.steps ≤ l.steps;
  left : 2 ^ (l.steps - l.fn.steps) * (l.high - l.low) ≤ length l.entries;
  cost : 2 ^ (l.steps - l.fn.steps) ≤ 2 * length l.entries + 1;
}

abbrev pub decreases-loop-low : goal.decreases-loop-low
decreases-loop-low g l = l.high - l.low
