use Rattle.std.proofs.Common.{[], ◌∷◌, rules}
use Rattle.svc_record.specs.declared.entry.Entry.TheVariants.{Told}
use Rattle.svc_record.specs.declared.action.Action.TheVariants.{Daemonize}
use Rattle.svc_boot.specs.declared.fork.Fork.TheVariants.{Asked}
use Rattle.svc_boot.specs.BootEffects.{forked}
use Rattle.svc_boot.proofs.BootLemmas.{same-stands, stands-asked}
use Rattle.svc_boot.proofs.boot.Boot.ask_fork.Goals as goal

pub returns-clause-after : goal.returns-clause-after
returns-clause-after c = search rules

pub returns-clause-stands : goal.returns-clause-stands
returns-clause-stands c =
    λ p daemon stand. same-stands p (forked Asked c.args.self.now) _ (Told Daemonize ∷ []) (returns-clause-after c)
    (stands-asked p c.args.self.now daemon stand)
