use Rattle.std.proofs.Common.{◌≡◌, take}
use Rattle.std.specs.Prelude.{reverse}
use Rattle.svc_handover.specs.Channel.{is_as_sent, last_send, sent_message}
use Rattle.svc_handover.proofs.channel.is_as_sent.Given as goal

abbrev pub invariant-loop-entry : goal.invariant-loop-entry
invariant-loop-entry l = record {
  newest : l.newest ≡ is_as_sent l.bytes l.fds (last_send (reverse (take l.entry-index l.entries)));
  sent : l.sent ≡ is_as_sent l.bytes l.fds (sent_message (reverse (take l.entry-index l.entries)));
}
