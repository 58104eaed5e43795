use Rattle.std.proofs.Common.{◌∷◌, rules}
use Rattle.svc_record.specs.declared.entry.Entry.TheVariants.{Got}
use Rattle.svc_record.specs.declared.event.Event.TheVariants.{ReceiveFailed}
use Rattle.svc_boot.specs.BootEffects.{failed}
use Rattle.svc_boot.proofs.BootLemmas.{same-stands, stands-failed}
use Rattle.svc_boot.proofs.boot.Boot.on_receive_failed.Goals as goal

pub returns-clause-after : goal.returns-clause-after
returns-clause-after c = search rules

pub returns-clause-stands : goal.returns-clause-stands
returns-clause-stands c =
    λ p q stand. same-stands p (failed c.args.self.now) _ (Got ReceiveFailed ∷ q) (returns-clause-after c) (stands-failed p c.args.self.now q c.requires stand)
