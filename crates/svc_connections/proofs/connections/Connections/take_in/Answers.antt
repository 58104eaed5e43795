use Rattle.std.proofs.Common.{ℕ, List, ap, ◌∙◌}
use Rattle.svc_base.specs.Items.{list_of}
use Rattle.svc_base.specs.NumberSets.{put_number}
use Rattle.svc_connections.specs.declared.stage.Connection.{Connection}
use Rattle.svc_connections.specs.ConnectionsState.{all_came}
use Rattle.svc_connections.proofs.Came.{new-stage, came-more, came-put}
use Rattle.svc_connections.proofs.connections.Connections.take_in.Goals as goal

pub put-requires-clause-new : goal.put-requires-clause-new
put-requires-clause-new c =
    new-stage c.args.c (list_of c.self.inside.came) (list_of c.self.inside.live) c.self.invariant (rw (← c.self.view_is) at c.requires.new)

pub invariant_of-self : goal.invariant_of-self
invariant_of-self c =
    ap (λ (ns : List ℕ). all_came ns (list_of c.put.new.self)) c.add.ensures.numbers
    ∙ ap (λ (xs : List Connection). all_came (put_number c.args.c (list_of c.self.inside.came)) xs) c.put.ensures
    ∙ came-put _ (list_of c.self.inside.came) (list_of c.self.inside.live) c.self.invariant

pub invariant_of-self-else-not-refused : goal.invariant_of-self-else-not-refused
invariant_of-self-else-not-refused c =
    ap (λ (ns : List ℕ). all_came ns (list_of c.self.inside.live)) c.add.ensures.numbers
    ∙ came-more c.args.c (list_of c.self.inside.came) (list_of c.self.inside.live) c.self.invariant
