use Rattle.std.proofs.Common.{length}
use Rattle.svc_judged.proofs.script.has_events.Given as goal

abbrev pub decreases-loop-line : goal.decreases-loop-line
decreases-loop-line l = length l.rest
