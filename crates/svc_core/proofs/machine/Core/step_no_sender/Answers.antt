use Rattle.std.proofs.Common.{refl, ap, arith}
use Rattle.svc_record.specs.declared.event.Event.TheVariants.{NoSenderYet}
use Rattle.svc_endpoints.proofs.EventLemmas.{stands-got}
use Rattle.svc_offer.proofs.OfferRules.{held-back-got}
use Rattle.svc_core.proofs.StepLemmas.{strike-refused, fits-try}
use Rattle.svc_core.proofs.StepForms.{opened, silently-taken}
use Rattle.svc_boot.specs.BootData.{BootData}
use Rattle.svc_core.proofs.KeptLemmas.{kept-boot}
use Rattle.svc_core.proofs.machine.Core.step_no_sender.Goals as goal

pub returns : goal.returns
returns c = opened c.self.view_is c.requires (λ may. silently-taken c.settle.ensures refl refl (omega arith)
    (strike-refused _ NoSenderYet _ refl may.on (ap (λ (b : BootData). b.fork) c.on_no_sender.ensures.after)
    (ap (λ (b : BootData). b.begun) c.on_no_sender.ensures.after) (ap (λ (b : BootData). b.complete) c.on_no_sender.ensures.after) refl refl refl refl
    (λ q stands. fits-try _ q may.on may.may stands)
    (λ q. stands-got c.self.inside.plan c.self.inside.endpoints.parts q NoSenderYet refl (λ fd. held-back-got c.self.inside.plan q NoSenderYet fd refl))
    (rw c.moment.ensures at (c.on_no_sender.ensures.stands c.self.inside.plan))))

pub invariant_of-self : goal.invariant_of-self
invariant_of-self c = kept-boot c.self.inside.boot c.on_no_sender.ensures.after (λ on. on) c.self.invariant
