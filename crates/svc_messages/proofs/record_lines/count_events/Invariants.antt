use Rattle.std.proofs.Common.{length}
use Rattle.svc_messages.proofs.record_lines.count_events.Given as goal

abbrev pub decreases-loop-line : goal.decreases-loop-line
decreases-loop-line l = length l.rest
