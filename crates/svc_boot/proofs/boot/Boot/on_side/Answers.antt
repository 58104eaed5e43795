use Rattle.std.proofs.Common.{◌∷◌, rules}
use Rattle.svc_record.specs.declared.entry.Entry.TheVariants.{Got}
use Rattle.svc_record.specs.declared.event.Event.TheVariants.{Side}
use Rattle.svc_boot.specs.BootEffects.{forked, side_taken}
use Rattle.svc_boot.proofs.BootLemmas.{same-stands, stands-side}
use Rattle.svc_boot.proofs.boot.Boot.on_side.Goals as goal

pub returns-clause-after : goal.returns-clause-after
returns-clause-after c = search rules

pub returns-clause-stands : goal.returns-clause-stands
returns-clause-stands c = λ q at stand. let p = c.args.plan.now in
    same-stands p (forked (side_taken p.wait c.args.side c.args.moment) c.args.self.now) _ (Got (Side c.args.side) ∷ q) (returns-clause-after c)
    (stands-side p c.args.self.now q c.args.side c.args.moment c.requires at stand)
