use Rattle.std.proofs.Common.{◌≡◌, ◌-◌, ◌<◌, ◌≤◌, Vec, Global, length, slice_index_or, true, false}
use Rattle.svc_base.specs.Blocks.{starts}
use Rattle.svc_base.proofs.block_places.block_for.Given as goal

abbrev pub invariant-loop-low : goal.invariant-loop-low
invariant-loop-low g l = record {
  ordered : l.low < l.high;
  within : l.high ≤ length l.blocks;
  here : (d : Vec g.row.T.Denot Global) → 0 < l.low → starts g.T.Keyed.key_of l.key (slice_index_or l.blocks l.low d).items ≡ true;
  next : (d : Vec g.row.T.Denot Global) → l.high < length l.blocks → starts g.T.Keyed.key_of l.key (slice_index_or l.blocks l.high d).items ≡ false;
}

abbrev pub decreases-loop-low : goal.decreases-loop-low
decreases-loop-low g l = l.high - l.low
