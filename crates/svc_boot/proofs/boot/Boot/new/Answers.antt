use Rattle.std.proofs.Common.{[], rules}
use Rattle.svc_boot.specs.BootEffects.{unbegun}
use Rattle.svc_boot.proofs.BootLemmas.{same-stands, stands-new}
use Rattle.svc_boot.proofs.boot.Boot.new.Goals as goal

pub returns-clause-fresh : goal.returns-clause-fresh
returns-clause-fresh c = search rules

pub returns-clause-stands : goal.returns-clause-stands
returns-clause-stands c = λ p is. same-stands p (unbegun c.args.limit) _ [] (returns-clause-fresh c) (stands-new p c.args.limit is)
