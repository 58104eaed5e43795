use Rattle.std.proofs.Common.{rules}
use Rattle.svc_boot.proofs.BootLemmas.{after-no_sender}
use Rattle.svc_boot.proofs.boot.Boot.on_no_sender.Goals as goal

pub returns-clause-after : goal.returns-clause-after
returns-clause-after c = search rules

pub returns-clause-stands : goal.returns-clause-stands
returns-clause-stands c = λ p q at stand. after-no_sender p c.args.self.now _ q c.args.moment (returns-clause-after c) c.requires at stand
