use Rattle.std.proofs.Common.{arith}
use Rattle.svc_server.specs.Servers.{answer_of}
use Rattle.svc_server.proofs.PlanLemmas.{plans-more}
use Rattle.svc_server.proofs.server.planning.service_plans.Goals as goal

pub loop-s-preserved : goal.loop-s-preserved
loop-s-preserved g c =
    plans-more c.args.graph.now
    (answer_of g.B.ServiceWithDependents) c.args.services.now c.loop-s.s c.index-services-s.result c.loop-s.plans c.push.new.self c.in-Ok.plan
    (omega (arith, c.requires, c.len-s-end.ensures.count, c.loop-s-test.true)) c.index-services-s.is c.loop-s.invariant c.in-Ok.ensures
    c.in-Ok-push.ensures.ok
