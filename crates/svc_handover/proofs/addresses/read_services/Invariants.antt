use Rattle.std.proofs.Common.{take}
use Rattle.std.specs.Prelude.{All}
use Rattle.svc_record.specs.declared.plan.ServicePlan.{ServicePlan}
use Rattle.svc_handover.specs.Law.{AreTextual}
use Rattle.svc_handover.proofs.addresses.read_services.Given as goal

abbrev pub invariant-loop-service : goal.invariant-loop-service
invariant-loop-service l = All (λ (s : ServicePlan). AreTextual s.endpoints) (take l.service-index l.services)
