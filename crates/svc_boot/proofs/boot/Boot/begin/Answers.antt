use Rattle.std.proofs.Common.{rules}
use Rattle.svc_record.specs.Record.{tell}
use Rattle.svc_boot.specs.BootEffects.{begun_by, begin_told}
use Rattle.svc_boot.proofs.BootLemmas.{same-stands}
use Rattle.svc_boot.proofs.BeginLemmas.{stands-begin}
use Rattle.svc_boot.proofs.boot.Boot.begin.Goals as goal

pub returns-clause-after : goal.returns-clause-after
returns-clause-after c = search rules

pub returns-clause-stands : goal.returns-clause-stands
returns-clause-stands c = λ q free stand. let p = c.args.plan.now in let d = c.args.self.now in
    same-stands p (begun_by p d) _ (tell q (begin_told p d c.args.moment)) (returns-clause-after c) (stands-begin p d q c.args.moment free stand)
