use Rattle.svc_handover.proofs.SentLemmas.{newest-more, sent-more}
use Rattle.svc_handover.proofs.channel.is_as_sent.Goals as goal

pub loop-entry-preserved : goal.loop-entry-preserved
loop-entry-preserved c = record {
  newest = newest-more c.args.bytes.now c.args.fds.now c.args.entries.now c.loop-entry.entry-index c.entry-item.result c.loop-entry.newest
      c.newest_after-newest.result c.loop-entry-test.true c.entry-item.is c.loop-entry.invariant.newest c.newest_after-newest.ensures;
  sent = sent-more c.args.bytes.now c.args.fds.now c.args.entries.now c.loop-entry.entry-index c.entry-item.result c.loop-entry.newest c.loop-entry.sent
      c.sent_after-sent.result c.loop-entry-test.true c.entry-item.is c.loop-entry.invariant.newest c.loop-entry.invariant.sent c.sent_after-sent.ensures;
}
