use Rattle.std.proofs.Common.{List, ap, ◌∙◌}
use Rattle.svc_base.specs.Items.{list_of}
use Rattle.svc_connections.specs.declared.stage.Connection.{Connection}
use Rattle.svc_connections.specs.ConnectionsState.{climbs, numbers}
use Rattle.svc_connections.proofs.LiveLemmas.{moved-left, moved-stage, climbs-moved}
use Rattle.svc_connections.proofs.live.Live.move_to.Goals as goal

pub returns-then-replace : goal.returns-then-replace
returns-then-replace c =
    rw (← c.self.view_is) (moved-left c.args.c c.args.stage c.self.inside.connections c.replace.new.self c.replace.result c.self.invariant.rise
    c.replace.ensures.replaced c.replace.ensures.absent c.replace.ensures.same)

pub returns-else-replace : goal.returns-else-replace
returns-else-replace c =
    rw (← c.self.view_is) (moved-left c.args.c c.args.stage c.self.inside.connections c.replace.new.self c.replace.result c.self.invariant.rise
    c.replace.ensures.replaced c.replace.ensures.absent c.replace.ensures.same)

pub invariant_of-self : goal.invariant_of-self
invariant_of-self c =
    let live = list_of c.self.inside.connections in
    let after = moved-left c.args.c c.args.stage c.self.inside.connections c.replace.new.self c.replace.result c.self.invariant.rise
    c.replace.ensures.replaced c.replace.ensures.absent c.replace.ensures.same in
    record {
      rise = ap (λ (xs : List Connection). climbs (numbers xs)) after ∙ climbs-moved c.args.c c.args.stage live c.self.invariant.rise;
      latest_is = moved-stage c.args.c c.args.stage c.self.inside.connections c.replace.new.self c.replace.result c.self.invariant.rise c.if-replace.true
          c.replace.ensures.replaced after;
    }
