use Rattle.std.specs.Prelude.{string_bytes}
use Rattle.svc_messages.specs.Messages.{IsPlain}
use Rattle.svc_messages.proofs.events.form_text.Given as goal

abbrev pub invariant-loop-slot : goal.invariant-loop-slot
invariant-loop-slot l = IsPlain (string_bytes l.text)
