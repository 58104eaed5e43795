use Rattle.std.proofs.Common.{length}
use Rattle.svc_gate.proofs.segments.+segments_of.Given as goal

abbrev pub decreases-segments_of : goal.decreases-segments_of
decreases-segments_of l = length l.rules.now
