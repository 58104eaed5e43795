use Rattle.std.proofs.Common.{length}
use Rattle.svc_messages.proofs.SpellingLemmas.{Share}
use Rattle.svc_messages.proofs.spelling.behind_shared.Given as goal

abbrev pub invariant-loop-left : goal.invariant-loop-left
invariant-loop-left l = Share l.a l.b l.left l.right

abbrev pub decreases-loop-left : goal.decreases-loop-left
decreases-loop-left l = length l.left
