use Rattle.std.proofs.Common.{subst}
use Rattle.std.specs.Prelude.{All}
use Rattle.svc_record.specs.declared.plan.ServicePlan.{ServicePlan}
use Rattle.svc_handover.specs.Law.{AreTextual}
use Rattle.svc_handover.proofs.AddressLemmas.{has-texts}
use Rattle.svc_handover.proofs.addresses.read_addresses.Goals as goal

pub returns : goal.returns
returns c = has-texts c.args.plan.now (subst (λ ss. All (λ (s : ServicePlan). AreTextual s.endpoints) ss) c.as_slice.ensures c.read_services.ensures)
