use Rattle.std.proofs.Common.{vec_len}
use Rattle.svc_tests_base.proofs.descriptors.unclaimed.Given as goal

abbrev pub decreases-loop-bind : goal.decreases-loop-bind
decreases-loop-bind g l = vec_len l.out
