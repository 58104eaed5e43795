use Rattle.std.proofs.Common.{rules, List, ap, ◌∙◌}
use Rattle.svc_base.specs.Items.{list_of}
use Rattle.svc_connections.specs.declared.stage.Connection.{Connection}
use Rattle.svc_connections.specs.ConnectionsState.{all_came}
use Rattle.svc_connections.proofs.Came.{came-without}
use Rattle.svc_connections.proofs.Steps.{after-finish}
use Rattle.svc_connections.proofs.connections.Connections.on_finished.Goals as goal

pub returns-clause-after : goal.returns-clause-after
returns-clause-after c = search rules

pub returns-clause-stands : goal.returns-clause-stands
returns-clause-stands c = λ p q w. after-finish p c.args.self.now.parts _ q c.args.c (returns-clause-after c) c.requires.served w

pub invariant_of-self : goal.invariant_of-self
invariant_of-self c =
    ap (λ (xs : List Connection). all_came (list_of c.self.inside.came) xs) c.remove.ensures
    ∙ came-without c.args.c (list_of c.self.inside.came) (list_of c.self.inside.live) c.self.invariant
