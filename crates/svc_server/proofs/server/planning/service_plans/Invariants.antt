use Rattle.std.proofs.Common.{◌≡◌, take}
use Rattle.svc_server.specs.Servers.{answers_of, with_depends}
use Rattle.svc_server.proofs.server.planning.service_plans.Given as goal

abbrev pub invariant-loop-s : goal.invariant-loop-s
invariant-loop-s g l =
    l.plans ≡ with_depends l.graph 0 (answers_of g.B.ServiceWithDependents (take l.s l.services))
