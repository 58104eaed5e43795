use Rattle.std.proofs.Common.{vec_len}
use Rattle.svc_tests_server.proofs.bootstrapping.pruned.Given as goal

abbrev pub decreases-loop-fd : goal.decreases-loop-fd
decreases-loop-fd g l = vec_len l.out
