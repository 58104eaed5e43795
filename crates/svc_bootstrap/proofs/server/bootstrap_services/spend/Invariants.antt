use Rattle.std.proofs.Common.{length}
use Rattle.svc_bootstrap.proofs.server.bootstrap_services.spend.Given as goal

abbrev pub decreases-loop-fd : goal.decreases-loop-fd
decreases-loop-fd l = length l.fds.entries
