use Rattle.std.proofs.Common.{◌∷◌, rules}
use Rattle.svc_record.specs.declared.entry.Entry.TheVariants.{Got}
use Rattle.svc_record.specs.declared.event.Event.TheVariants.{ChildReady}
use Rattle.svc_boot.specs.declared.fork.Fork.TheVariants.{Over}
use Rattle.svc_boot.specs.BootEffects.{forked}
use Rattle.svc_boot.proofs.BootLemmas.{same-stands, stands-ready}
use Rattle.svc_boot.proofs.boot.Boot.on_child_ready.Goals as goal

pub returns-clause-after : goal.returns-clause-after
returns-clause-after c = search rules

pub returns-clause-stands : goal.returns-clause-stands
returns-clause-stands c =
    λ p q stand. same-stands p (forked (Over 0) c.args.self.now) _ (Got ChildReady ∷ q) (returns-clause-after c)
    (stands-ready p c.args.self.now q c.requires stand)
