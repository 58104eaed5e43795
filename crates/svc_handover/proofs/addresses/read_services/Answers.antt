use Rattle.std.proofs.Common.{subst}
use Rattle.std.specs.Prelude.{All}
use Rattle.std.proofs.lemmas.List.{take_all}
use Rattle.std.proofs.lemmas.List.Elements.{All-more}
use Rattle.svc_record.specs.declared.plan.ServicePlan.{ServicePlan}
use Rattle.svc_handover.specs.Law.{AreTextual}
use Rattle.svc_handover.proofs.addresses.read_services.Goals as goal

pub loop-service-preserved : goal.loop-service-preserved
loop-service-preserved c =
    All-more (λ (s : ServicePlan). AreTextual s.endpoints) c.args.services.now c.loop-service.service-index c.service-item.result c.loop-service-test.true
    c.loop-service.invariant
    (subst (λ (s : ServicePlan). AreTextual s.endpoints) c.service-item.is (subst AreTextual c.as_slice.ensures c.read_endpoints.ensures))

pub returns : goal.returns
returns c = subst (λ ss. All (λ (s : ServicePlan). AreTextual s.endpoints) ss)
    (take_all c.loop-service.service-index c.args.services.now c.loop-service-test.false) c.loop-service.invariant
