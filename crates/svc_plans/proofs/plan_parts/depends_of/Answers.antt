use Rattle.std.proofs.Common.{◌∙◌}
use Rattle.svc_plans.proofs.PlanLemmas.{depends_more}
use Rattle.svc_plans.proofs.plan_parts.depends_of.Goals as goal
use Rattle.svc_plans.proofs.plan_parts.depends_of.Goals.{then-contains+in_ok-push_item, else-contains}

pub loop-b-preserved : goal.loop-b-preserved
loop-b-preserved c =
    let more = depends_more c.args.services.now c.args.s c.loop-b.b-counter c.index-services-s.result c.dependencies-after.result.now c.loop-b.depends
    c.if-contains.depends c.contains.result c.requires.service c.index-services-s.is
    c.dependencies-after.ensures c.loop-b.invariant c.contains.ensures.value in
    elim c.if-contains.branch [
      | then-contains+in_ok-push_item w ↦ let yes = w.if-contains.true in more (rw yes (w.depends-is ∙ w.in_ok-push_item.ensures.ok))
      | else-contains w ↦ let no = w.if-contains.false in more (rw no w.depends-is)
    ]
