use Rattle.svc_base.proofs.CallLemmas.{Stays-same, Stays-then}
use Rattle.svc_fds.proofs.SendLemmas.{sending-start, sending-more, sending-falls, sending-ends, sending-fault}
use Rattle.svc_fds.proofs.transfer.send_all.Goals as goal

pub loop-answer-init : goal.loop-answer-init
loop-answer-init g c = record {
  sending = sending-start c.args.limit c.args.bytes.now c.args.fds.now (g.C.Channel.calls c.args.channel.now)
      (g.C.Channel.faulted c.args.channel.now) c.new-retry.result c.new-retry.ensures;
  stays = Stays-same (g.C.Channel.calls c.args.channel.now) (g.C.Channel.room c.args.channel.now);
}

pub loop-answer-preserved : goal.loop-answer-preserved
loop-answer-preserved g c = record {
  sending = sending-more c.args.limit c.args.bytes.now c.args.fds.now (g.C.Channel.calls c.args.channel.now) (g.C.Channel.calls c.loop-answer.channel)
      (g.C.Channel.calls c.ask.new.channel)
      (g.C.Channel.faulted c.args.channel.now) (g.C.Channel.faulted c.loop-answer.channel) (g.C.Channel.faulted c.ask.new.channel)
      c.loop-answer.next c.step-next.result c.loop-answer.retry c.step-next.new.self c.in-Some.answer
      c.loop-answer.invariant.sending c.in-Some.ensures.told c.in-Some.ensures.fits c.in-Some.ensures.cause c.step-next.ensures.next c.step-next.ensures.after;
  stays = Stays-then c.loop-answer.invariant.stays c.ask.ensures.stays;
}

pub loop-answer-smaller : goal.loop-answer-smaller
loop-answer-smaller g c =
    sending-falls c.args.limit c.args.bytes.now c.args.fds.now (g.C.Channel.calls c.args.channel.now) (g.C.Channel.calls c.loop-answer.channel)
    (g.C.Channel.faulted c.args.channel.now) (g.C.Channel.faulted c.loop-answer.channel)
    c.loop-answer.next c.step-next.result c.loop-answer.retry c.step-next.new.self c.in-Some.answer
    c.loop-answer.invariant.sending c.in-Some.ensures.fits c.step-next.ensures.next c.step-next.ensures.after

pub returns-clause-asked : goal.returns-clause-asked
returns-clause-asked g c =
    rw c.in_default.ensures.unasked
    (sending-ends c.args.limit c.args.bytes.now c.args.fds.now (g.C.Channel.calls c.args.channel.now) (g.C.Channel.calls c.loop-answer.channel)
    (g.C.Channel.faulted c.args.channel.now)
    (g.C.Channel.faulted c.loop-answer.channel) c.loop-answer.next c.loop-answer.retry c.ended.result c.loop-answer.invariant.sending c.ended.ensures.ended)

pub returns-clause-fault : goal.returns-clause-fault
returns-clause-fault g c =
    λ failed. rw c.in_default.ensures.unasked
    (sending-fault c.loop-answer.next (g.C.Channel.faulted c.args.channel.now)
    (g.C.Channel.faulted c.loop-answer.channel) c.ended.result c.loop-answer.invariant.sending.faults c.ended.ensures.ended failed)

pub returns-clause-stays : goal.returns-clause-stays
returns-clause-stays g c = Stays-then c.loop-answer.invariant.stays c.ask.ensures.stays
