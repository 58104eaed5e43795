use Rattle.svc_base.specs.Calls.{Stays}
use Rattle.svc_fds.proofs.SendLemmas.{Sending, left}
use Rattle.svc_fds.proofs.transfer.send_all.Given as goal

abbrev pub invariant-loop-answer : goal.invariant-loop-answer
invariant-loop-answer g l = record {
  sending : Sending l.limit l.bytes l.fds (g.C.Channel.calls l.initial.channel) (g.C.Channel.calls l.channel) (g.C.Channel.faulted l.initial.channel)
      (g.C.Channel.faulted l.channel) l.next l.retry;
  stays : Stays (g.C.Channel.calls l.initial.channel) (g.C.Channel.calls l.channel) (g.C.Channel.room l.initial.channel) (g.C.Channel.room l.channel);
}

abbrev pub decreases-loop-answer : goal.decreases-loop-answer
decreases-loop-answer g l = left l.next l.retry
