use Rattle.std.specs.Prelude.{string_bytes}
use Rattle.svc_messages.specs.Messages.{IsMessage}
use Rattle.svc_messages.proofs.pieces.put.Given as goal

abbrev pub invariant-loop-piece : goal.invariant-loop-piece
invariant-loop-piece l = IsMessage (string_bytes l.initial.text) → IsMessage (string_bytes l.text)
