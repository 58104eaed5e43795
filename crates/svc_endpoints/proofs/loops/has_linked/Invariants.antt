use Rattle.std.proofs.Common.{◌≡◌, ◌≤◌, length, take}
use Rattle.svc_endpoints.specs.Loops.{has_loop, last_end}
use Rattle.svc_endpoints.proofs.loops.has_linked.Given as goal

-- the loop before this place is the endpoint's, and those behind it don't count
abbrev pub invariant-loop-at : goal.invariant-loop-at
invariant-loop-at l = record {
  within : l.at ≤ length l.loops;
  linked : l.at ≡ last_end l.loops l.s l.i l.at;
  left : has_loop l.loops l.s l.i l.j ≡ has_loop (take l.at l.loops) l.s l.i l.j;
}

abbrev pub decreases-loop-at : goal.decreases-loop-at
decreases-loop-at l = l.at
