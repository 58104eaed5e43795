use Rattle.std.proofs.Common.{length}
use Rattle.svc_judge.proofs.facts.spend.Given as goal

abbrev pub decreases-loop-fd : goal.decreases-loop-fd
decreases-loop-fd l = length l.table.entries
