use Rattle.std.proofs.Common.{subst}
use Rattle.std.specs.Str.{IsUtf8}
use Rattle.svc_fds.proofs.PairLemmas.{framed-more, texts-more}
use Rattle.svc_fds.proofs.encoding.framed.Goals as goal

pub loop-entry-preserved : goal.loop-entry-preserved
loop-entry-preserved c = record {
  text = rw (c.in_ok-push_frame.ensures, c.as_str.ensures, c.loop-entry.invariant.text)
      (framed-more c.args.entries.now c.loop-entry.entry-index c.entry-item.result c.loop-entry-test.true c.entry-item.is);
  read = texts-more c.args.entries.now c.loop-entry.entry-index c.entry-item.result c.loop-entry-test.true c.entry-item.is c.loop-entry.invariant.read
      (subst IsUtf8 c.as_str.ensures c.as_str.utf8);
}
