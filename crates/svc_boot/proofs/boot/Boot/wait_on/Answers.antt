use Rattle.std.proofs.Common.{◌∷◌, rules}
use Rattle.svc_record.specs.declared.entry.Entry.TheVariants.{Got}
use Rattle.svc_record.specs.declared.event.Event.TheVariants.{Moment}
use Rattle.svc_boot.specs.BootEffects.{forked, waited}
use Rattle.svc_boot.proofs.BootLemmas.{same-stands, stands-waited}
use Rattle.svc_boot.proofs.boot.Boot.wait_on.Goals as goal

pub returns-clause-after : goal.returns-clause-after
returns-clause-after c = search rules

pub returns-clause-stands : goal.returns-clause-stands
returns-clause-stands c = λ q on stand. let p = c.args.plan.now in let d = c.args.self.now in
    same-stands p (forked (waited p.ready_timeout c.args.moment d.fork) d) _ (Got (Moment c.args.moment) ∷ q) (returns-clause-after c)
    (stands-waited p d q c.args.moment on stand)
