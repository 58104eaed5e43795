use Rattle.std.specs.Prelude.{string_bytes}
use Rattle.svc_messages.specs.Messages.{IsPlain, ArePlain, IsMessage}
use Rattle.svc_messages.proofs.words.unknown_word.Given as goal

abbrev pub invariant-loop-name : goal.invariant-loop-name
invariant-loop-name l = IsPlain l.sort → ArePlain l.known → IsMessage (string_bytes l.text)
