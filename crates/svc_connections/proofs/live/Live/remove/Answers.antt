use Rattle.std.proofs.Common.{List, ap, ◌∙◌}
use Rattle.svc_base.specs.Items.{list_of}
use Rattle.svc_connections.specs.declared.stage.Connection.{Connection}
use Rattle.svc_connections.specs.ConnectionsState.{climbs, numbers}
use Rattle.svc_connections.proofs.LiveLemmas.{removed-left, climbs-without}
use Rattle.svc_connections.proofs.live.Live.remove.Goals as goal

pub returns : goal.returns
returns c = rw (← c.self.view_is)
    (removed-left c.args.c c.self.inside.connections c.remove-self-inside.new.self c.remove-self-inside.result c.self.invariant.rise
    c.remove-self-inside.ensures.removed c.remove-self-inside.ensures.absent c.remove-self-inside.ensures.same)

pub invariant_of-self : goal.invariant_of-self
invariant_of-self c = record {
  rise = ap (λ (xs : List Connection). climbs (numbers xs)) (rw (← c.self.view_is) at (returns c))
      ∙ climbs-without c.args.c (list_of c.self.inside.connections) c.self.invariant.rise;
  latest_is = tt;
}
