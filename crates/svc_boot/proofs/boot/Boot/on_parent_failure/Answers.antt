use Rattle.std.proofs.Common.{◌∷◌, rules}
use Rattle.svc_record.specs.declared.entry.Entry.TheVariants.{Got}
use Rattle.svc_boot.specs.declared.fork.Fork.TheVariants.{Over}
use Rattle.svc_boot.specs.BootEffects.{forked}
use Rattle.svc_boot.proofs.BootLemmas.{same-stands, stands-failure}
use Rattle.svc_boot.proofs.boot.Boot.on_parent_failure.Goals as goal

pub returns-clause-after : goal.returns-clause-after
returns-clause-after c = search rules

pub returns-clause-stands : goal.returns-clause-stands
returns-clause-stands c =
    λ p q e fails stand. same-stands p (forked (Over 1) c.args.self.now) _ (Got e ∷ q) (returns-clause-after c)
    (stands-failure p c.args.self.now q e c.requires fails stand)
