use Rattle.std.proofs.Common.{All, length, string_bytes}
use Rattle.svc_messages.specs.Messages.{IsMessage}
use Rattle.svc_messages.proofs.warning_lines.add_addresses.Given as goal

abbrev pub invariant-loop-line : goal.invariant-loop-line
invariant-loop-line l = All (λ note. IsMessage (string_bytes note)) l.initial.notes.items → All (λ note. IsMessage (string_bytes note)) l.notes.items

abbrev pub decreases-loop-line : goal.decreases-loop-line
decreases-loop-line l = length l.rest
