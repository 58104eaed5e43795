use Rattle.std.proofs.Common.{◌-◌}
use Rattle.svc_proc.proofs.NotifyLemmas.{HasTried}
use Rattle.svc_proc.proofs.server.daemon.notify.notify_parent_ready_for_fds.Given as goal

abbrev pub invariant-loop-tries : goal.invariant-loop-tries
invariant-loop-tries g l = HasTried g.P.Process.seen l.pid l.limit_seconds l.fn.process l.process l.retry l.tries l.most

abbrev pub decreases-loop-tries : goal.decreases-loop-tries
decreases-loop-tries g l = l.most - l.tries
