use Rattle.std.specs.Prelude.{unwrap_or}
use Rattle.svc_base.specs.Calls.{Stays}
use Rattle.svc_fds.proofs.ReceiveLemmas.{Receiving}
use Rattle.svc_fds.proofs.transfer.get_fds_from.Given as goal

abbrev pub invariant-loop-bytes : goal.invariant-loop-bytes
invariant-loop-bytes g l = record {
  receiving : Receiving (unwrap_or l.fn.max_retry 5) (g.C.Channel.calls l.fn.channel) (g.C.Channel.calls l.channel) (g.C.Channel.faulted l.fn.channel)
      (g.C.Channel.faulted l.channel) l.ms l.retry;
  stays : Stays (g.C.Channel.calls l.fn.channel) (g.C.Channel.calls l.channel) (g.C.Channel.room l.fn.channel) (g.C.Channel.room l.channel);
}

abbrev pub decreases-loop-bytes : goal.decreases-loop-bytes
decreases-loop-bytes g l = l.retry
