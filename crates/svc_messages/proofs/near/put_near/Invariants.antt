use Rattle.std.specs.Prelude.{string_bytes}
use Rattle.svc_messages.specs.Messages.{IsMessage}
use Rattle.svc_messages.proofs.near.put_near.Given as goal

abbrev pub invariant-loop : goal.invariant-loop
invariant-loop l = IsMessage (string_bytes l.initial.text) → IsMessage (string_bytes l.text)
