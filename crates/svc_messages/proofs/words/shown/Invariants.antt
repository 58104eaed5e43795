use Rattle.std.proofs.Common.{◌+◌, ◌*◌, ◌≤◌, string_bytes, string_len}
use Rattle.svc_messages.specs.Messages.{IsPlain}
use Rattle.svc_messages.proofs.words.shown.Given as goal

abbrev pub invariant-loop-c : goal.invariant-loop-c
invariant-loop-c l = record {
  plain : IsPlain (string_bytes l.shown);
  short : string_len l.shown + 4 * l.left ≤ 240;
}
