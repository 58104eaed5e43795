use Rattle.svc_text.proofs.PlanLemmas.{plan_valid}
use Rattle.svc_text.proofs.plans.accepted_plan.Goals as goal

pub returns : goal.returns
returns c = plan_valid
