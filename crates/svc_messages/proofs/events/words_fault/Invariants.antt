use Rattle.std.specs.Prelude.{⊤}
use Rattle.svc_messages.proofs.events.words_fault.Given as goal

abbrev pub invariant-loop-slot : goal.invariant-loop-slot
invariant-loop-slot l = ⊤
