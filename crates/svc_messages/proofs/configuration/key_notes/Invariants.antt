use Rattle.std.proofs.Common.{◌+◌, ◌-◌, ◌<◌, ◌≤◌, All, length, string_bytes}
use Rattle.std.specs.Str.Lines.{lines}
use Rattle.svc_messages.specs.Messages.{IsMessage}
use Rattle.svc_messages.specs.Refusals.{TellsOfLine}
use Rattle.svc_messages.proofs.configuration.key_notes.Given as goal

abbrev pub invariant-loop-line : goal.invariant-loop-line
invariant-loop-line l = record {
  messages : All (λ note. IsMessage (string_bytes note)) l.notes.items;
  told : All (λ note. TellsOfLine (lines l.bytes) (string_bytes note)) l.notes.items;
  begun : 0 < l.number;
  left : l.number - 1 + length (lines l.rest) ≤ length (lines l.bytes);
}

abbrev pub decreases-loop-line : goal.decreases-loop-line
decreases-loop-line l = length l.rest
