use Rattle.std.proofs.Common.{take, All}
use Rattle.svc_messages.specs.Spelling.{IsOneOff}
use Rattle.svc_messages.proofs.spelling.nearest.Given as goal

abbrev pub invariant-loop-name : goal.invariant-loop-name
invariant-loop-name l = All (λ name. IsOneOff l.word name.now → ⊥) (take l.name-index l.known)
