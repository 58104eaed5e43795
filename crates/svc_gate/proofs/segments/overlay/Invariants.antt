use Rattle.std.proofs.Common.{ℕ, ◌+◌, length}
use Rattle.svc_gate.proofs.SegmentLemmas.{Overlays}
use Rattle.svc_gate.proofs.segments.overlay.Given as goal

abbrev pub invariant-loop-from : goal.invariant-loop-from
invariant-loop-from l = (low : ℕ) × Overlays l.upper l.lower low l.above l.upper_rest l.below l.lower_rest l.segments.items

abbrev pub decreases-loop-from : goal.decreases-loop-from
decreases-loop-from l = length l.upper_rest + length l.lower_rest
