use Rattle.std.proofs.Common.{rules}
use Rattle.svc_boot.proofs.BootLemmas.{after-received}
use Rattle.svc_boot.proofs.boot.Boot.on_received.Goals as goal

pub returns-clause-after : goal.returns-clause-after
returns-clause-after c = search rules

pub returns-clause-stands : goal.returns-clause-stands
returns-clause-stands c =
    λ p q bytes fds reads stand. after-received p c.args.self.now _ q bytes fds c.args.good (returns-clause-after c) reads c.requires stand
