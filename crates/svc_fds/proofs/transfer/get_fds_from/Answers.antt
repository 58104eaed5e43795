use Rattle.std.proofs.Common.{◌∙◌}
use Rattle.std.specs.Prelude.{unwrap_or}
use Rattle.svc_fds.specs.Transfers.{not_opened}
use Rattle.svc_base.proofs.CallLemmas.{Stays-then}
use Rattle.svc_fds.proofs.ReceiveLemmas.{receiving-start, receiving-more, receiving-refused, receiving-failed, receiving-unread}
use Rattle.svc_fds.proofs.transfer.get_fds_from.Goals as goal

pub loop-bytes-init : goal.loop-bytes-init
loop-bytes-init g c = record {
  receiving = receiving-start (unwrap_or c.args.max_retry 5) (g.C.Channel.calls c.args.channel.now) (g.C.Channel.calls c.listen.new.self)
      (g.C.Channel.faulted c.args.channel.now) (g.C.Channel.faulted c.listen.new.self)
      c.new-retry.result c.listen.result c.if-not-listen.false c.listen.ensures.told c.if-not-listen.ensures.cause
      (rw c.unwrap_or.ensures at c.new-retry.ensures);
  stays = c.listen.ensures.stays;
}

pub loop-bytes-preserved : goal.loop-bytes-preserved
loop-bytes-preserved g c = record {
  receiving = receiving-more (unwrap_or c.args.max_retry 5) (g.C.Channel.calls c.args.channel.now) (g.C.Channel.calls c.loop-bytes.channel)
      (g.C.Channel.calls c.rest.new.channel) (g.C.Channel.calls c.receive.new.self)
      (g.C.Channel.faulted c.args.channel.now) (g.C.Channel.faulted c.loop-bytes.channel) (g.C.Channel.faulted c.receive.new.self)
      c.loop-bytes.ms c.in-Ok.pause c.loop-bytes.retry c.wait.new.retry
      c.loop-bytes.invariant.receiving c.rest.ensures.told c.in-NotYet.ensures.told
      (c.in-NotYet.ensures.cause ∙ c.rest.ensures.cause) c.in-Ok.ensures.again c.in-Ok.ensures.after;
  stays = Stays-then (Stays-then c.loop-bytes.invariant.stays c.rest.ensures.stays) c.receive.ensures.stays;
}

pub returns-then-not-listen-clause-refused : goal.returns-then-not-listen-clause-refused
returns-then-not-listen-clause-refused g c = not_opened c.if-not-listen.ensures.told

pub returns-in-ReceiveFailed-clause-refused : goal.returns-in-ReceiveFailed-clause-refused
returns-in-ReceiveFailed-clause-refused g c =
    receiving-failed (unwrap_or c.args.max_retry 5) (g.C.Channel.calls c.args.channel.now) (g.C.Channel.calls c.loop-bytes.channel)
    (g.C.Channel.calls c.rest.new.channel) (g.C.Channel.calls c.receive.new.self)
    (g.C.Channel.faulted c.args.channel.now)
    (g.C.Channel.faulted c.loop-bytes.channel) c.loop-bytes.ms c.loop-bytes.retry c.loop-bytes.invariant.receiving c.rest.ensures.told
    c.in-ReceiveFailed.ensures.told

pub returns-in-NoMemory-clause-refused : goal.returns-in-NoMemory-clause-refused
returns-in-NoMemory-clause-refused g c =
    receiving-unread (unwrap_or c.args.max_retry 5) (g.C.Channel.calls c.args.channel.now) (g.C.Channel.calls c.loop-bytes.channel)
    (g.C.Channel.calls c.rest.new.channel) (g.C.Channel.calls c.receive.new.self)
    (g.C.Channel.faulted c.args.channel.now)
    (g.C.Channel.faulted c.loop-bytes.channel) c.loop-bytes.ms c.loop-bytes.retry c.loop-bytes.invariant.receiving c.rest.ensures.told
    c.in-NoMemory.ensures.told

pub returns-in-Err-clause-refused : goal.returns-in-Err-clause-refused
returns-in-Err-clause-refused g c =
    receiving-refused (unwrap_or c.args.max_retry 5) (g.C.Channel.calls c.args.channel.now) (g.C.Channel.calls c.loop-bytes.channel)
    (g.C.Channel.calls c.rest.new.channel) (g.C.Channel.calls c.receive.new.self)
    (g.C.Channel.faulted c.args.channel.now)
    (g.C.Channel.faulted c.loop-bytes.channel) c.loop-bytes.ms c.loop-bytes.retry c.in-Err.error c.loop-bytes.invariant.receiving c.rest.ensures.told
    c.in-NotYet.ensures.told c.in-Err.ensures.refused

pub returns-in-Got-clause-stays : goal.returns-in-Got-clause-stays
returns-in-Got-clause-stays g c = Stays-then (Stays-then c.loop-bytes.invariant.stays c.rest.ensures.stays) c.receive.ensures.stays

pub returns-in-Err-clause-stays : goal.returns-in-Err-clause-stays
returns-in-Err-clause-stays g c = Stays-then (Stays-then c.loop-bytes.invariant.stays c.rest.ensures.stays) c.receive.ensures.stays

pub returns-in-ReceiveFailed-clause-stays : goal.returns-in-ReceiveFailed-clause-stays
returns-in-ReceiveFailed-clause-stays g c = Stays-then (Stays-then c.loop-bytes.invariant.stays c.rest.ensures.stays) c.receive.ensures.stays

pub returns-in-NoMemory-clause-stays : goal.returns-in-NoMemory-clause-stays
returns-in-NoMemory-clause-stays g c = Stays-then (Stays-then c.loop-bytes.invariant.stays c.rest.ensures.stays) c.receive.ensures.stays
