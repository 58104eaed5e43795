use Rattle.std.proofs.Common.{length}
use Rattle.svc_tests_base.proofs.listening.spent.Given as goal

abbrev pub decreases-loop-bind : goal.decreases-loop-bind
decreases-loop-bind g l = length l.table.entries
