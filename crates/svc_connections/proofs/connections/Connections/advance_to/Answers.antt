use Rattle.std.proofs.Common.{List, ap, ◌∙◌}
use Rattle.svc_base.specs.Items.{list_of}
use Rattle.svc_connections.specs.declared.stage.Connection.{Connection}
use Rattle.svc_connections.specs.ConnectionsState.{all_came}
use Rattle.svc_connections.proofs.Came.{came-moved, came-without}
use Rattle.svc_connections.proofs.connections.Connections.advance_to.Goals as goal

pub invariant_of-self : goal.invariant_of-self
invariant_of-self c =
    ap (λ (xs : List Connection). all_came (list_of c.self.inside.came) xs) c.move_to.ensures
    ∙ came-moved c.args.c c.args.stage (list_of c.self.inside.came) (list_of c.self.inside.live) c.self.invariant

pub invariant_of-self-else-ok : goal.invariant_of-self-else-ok
invariant_of-self-else-ok c =
    ap (λ (xs : List Connection). all_came (list_of c.self.inside.came) xs) c.remove.ensures
    ∙ came-without c.args.c (list_of c.self.inside.came) (list_of c.self.inside.live) c.self.invariant
