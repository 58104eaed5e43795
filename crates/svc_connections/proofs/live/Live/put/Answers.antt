use Rattle.std.proofs.Common.{List, ap, ◌∙◌}
use Rattle.svc_base.specs.Items.{list_of}
use Rattle.svc_connections.specs.declared.stage.Connection.{Connection}
use Rattle.svc_connections.specs.ConnectionsState.{climbs, numbers, stage_of}
use Rattle.svc_connections.proofs.LiveLemmas.{new-put, none-key, climbs-put}
use Rattle.svc_connections.proofs.StageLemmas.{put-here}
use Rattle.svc_connections.proofs.live.Live.put.Goals as goal

pub returns : goal.returns
returns c =
    let live = list_of c.self.inside.connections in
    rw (← c.self.view_is)
    (c.insert.ensures.entries ∙ new-put c.args.connection live (none-key c.args.connection.number live (rw (← c.self.view_is) at c.requires.new)))

pub invariant_of-self : goal.invariant_of-self
invariant_of-self c =
    let live = list_of c.self.inside.connections in
    let after = rw (← c.self.view_is) at (returns c) in
    record {
      rise = ap (λ (xs : List Connection). climbs (numbers xs)) after ∙ climbs-put c.args.connection live c.self.invariant.rise;
      latest_is = ap (λ (xs : List Connection). stage_of xs c.args.connection.number) after
          ∙ put-here c.args.connection live (rw (← c.self.view_is) at c.requires.new);
    }
