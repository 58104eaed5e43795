use Rattle.std.proofs.Common.{◌≡◌, ◌++◌, take, drop, map}
use Rattle.svc_listen.specs.Endpoints.{filtered}
use Rattle.svc_listen.proofs.listeners.set_filters.Given as goal

abbrev pub invariant-loop-stack : goal.invariant-loop-stack
invariant-loop-stack l = l.stack-items ≡ map (filtered l.filter) (take l.stack-index l.fn.stacks.items) ++ drop l.stack-index l.fn.stacks.items
