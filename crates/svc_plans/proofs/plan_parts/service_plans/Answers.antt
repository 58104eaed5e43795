use Rattle.std.proofs.Common.{arith}
use Rattle.svc_plans.proofs.PlanLemmas.{plans_more}
use Rattle.svc_plans.proofs.plan_parts.service_plans.Goals as goal

pub loop-s-preserved : goal.loop-s-preserved
loop-s-preserved c =
    plans_more c.args.services.now c.loop-s.s c.index-services-s.result c.loop-s.plans c.push_item.new.list c.in-Ok.plan
    (omega arith) c.index-services-s.is c.loop-s.invariant c.in-Ok.ensures
    c.in-Ok-push_item.ensures.ok
