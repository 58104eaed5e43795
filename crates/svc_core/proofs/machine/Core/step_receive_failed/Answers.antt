use Rattle.std.proofs.Common.{refl, ap, arith}
use Rattle.svc_record.specs.declared.event.Event.TheVariants.{ReceiveFailed}
use Rattle.svc_endpoints.proofs.EventLemmas.{stands-got}
use Rattle.svc_offer.proofs.OfferRules.{held-back-got}
use Rattle.svc_core.proofs.StepLemmas.{strike-refused, fits-try}
use Rattle.svc_core.proofs.StepForms.{opened, silently-taken}
use Rattle.svc_boot.specs.BootData.{BootData}
use Rattle.svc_core.proofs.KeptLemmas.{kept-boot}
use Rattle.svc_core.proofs.machine.Core.step_receive_failed.Goals as goal

pub returns : goal.returns
returns c = opened c.self.view_is c.requires (λ may. silently-taken c.settle.ensures refl refl (omega arith)
    (strike-refused _ ReceiveFailed _ refl may.on (ap (λ (b : BootData). b.fork) c.on_receive_failed.ensures.after)
    (ap (λ (b : BootData). b.begun) c.on_receive_failed.ensures.after)
    (ap (λ (b : BootData). b.complete) c.on_receive_failed.ensures.after) refl refl refl refl
    (λ q stands. fits-try _ q may.on may.may stands)
    (λ q. stands-got c.self.inside.plan c.self.inside.endpoints.parts q ReceiveFailed refl (λ fd. held-back-got c.self.inside.plan q ReceiveFailed fd refl))
    (λ q time. c.on_receive_failed.ensures.stands c.self.inside.plan q)))

pub invariant_of-self : goal.invariant_of-self
invariant_of-self c = kept-boot c.self.inside.boot c.on_receive_failed.ensures.after (λ on. on) c.self.invariant
