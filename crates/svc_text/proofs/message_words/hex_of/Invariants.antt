use Rattle.std.proofs.Common.{◌≡◌, length}
use Rattle.svc_text.specs.EventLines.{hex_of}
use Rattle.svc_text.proofs.HexLemmas.{behind}
use Rattle.svc_text.proofs.message_words.hex_of.Given as goal

abbrev pub invariant-loop-rest : goal.invariant-loop-rest
invariant-loop-rest l = hex_of l.word ≡ behind l.bytes (hex_of l.rest)

abbrev pub decreases-loop-rest : goal.decreases-loop-rest
decreases-loop-rest l = length l.rest
