use Rattle.std.proofs.Common.{◌≡◌, take, map}
use Rattle.svc_listen.specs.Addresses.{text_of}
use Rattle.svc_listen.proofs.listeners.texts_of.Given as goal

abbrev pub invariant-loop-stack : goal.invariant-loop-stack
invariant-loop-stack l = l.texts.items ≡ map (λ e. text_of e.address) (take l.stack-index l.stacks)
