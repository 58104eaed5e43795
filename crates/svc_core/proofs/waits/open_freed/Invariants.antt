use Rattle.std.proofs.Common.{ℕ, true, length, take, slice_index, ◌≡◌, ◌<◌}
use Rattle.svc_graph.specs.Bits.{is_set}
use Rattle.svc_graph.specs.Graphs.{is_listed}
use Rattle.svc_graph.specs.Waitings.{missing_of}
use Rattle.svc_core.proofs.waits.open_freed.Given as goal

abbrev pub invariant-loop-dependent : goal.invariant-loop-dependent
invariant-loop-dependent l = record {
  len : length l.bits ≡ length l.initial.bits;
  kept : (a b : ℕ) → is_set l.initial.bits a b ≡ true → is_set l.bits a b ≡ true;
  opened : (k : ℕ) → k < length l.order → is_listed (take l.dependent-index l.dependent-items) (slice_index l.order k) ≡ true
      → missing_of l.counts (slice_index l.order k) ≡ 0 → is_set l.bits 0 k ≡ true;
}
