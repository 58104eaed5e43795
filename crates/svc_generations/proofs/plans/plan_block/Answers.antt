use Rattle.svc_generations.proofs.PlanLemmas.{plan_may, edge_place}
use Rattle.svc_generations.proofs.plans.plan_block.Goals as goal

pub returns-in-Err-Line-clause-refused : goal.returns-in-Err-Line-clause-refused
returns-in-Err-Line-clause-refused c =
    edge_place c.args.block c.in-Err-Line.n c.refused_behind.result c.requires
    (c.in-Err-Line.ensures.refused c.in-Err-Line.n c.in-Err-Line.field-0-is) c.refused_behind.ensures

pub returns-in-Ok-clause-may : goal.returns-in-Ok-clause-may
returns-in-Ok-clause-may c = plan_may c.args.later c.args.block c.in-Ok.planned c.requires (rw c.flags_of.ensures at c.in-Ok.ensures.plan) c.in-Ok.ensures.valid
