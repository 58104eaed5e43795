use Rattle.std.proofs.Common.{◌≡◌, take}
use Rattle.svc_text.specs.ScriptPlans.{plans_from}
use Rattle.svc_plans.proofs.plan_parts.service_plans.Given as goal

abbrev pub invariant-loop-s : goal.invariant-loop-s
invariant-loop-s l = l.plans ≡ plans_from l.services 0 (take l.s l.services)
