use Rattle.std.proofs.Common.{◌≡◌, take, map}
use Rattle.svc_listen.specs.Endpoints.{plan_of}
use Rattle.svc_listen.proofs.listeners.plans_of.Given as goal

abbrev pub invariant-loop-stack : goal.invariant-loop-stack
invariant-loop-stack l = l.plans.items ≡ map plan_of (take l.stack-index l.stacks)
